-- What a round's code gives is the round of the definitions.
use Rattle.std.proofs.Common.{◌≡◌, ℕ, suc, ◌+◌, ◌*◌, Bool, true, false, cond, ltb, leb, List, length, Ok, Err, ap, add-one, arith}
use Rattle.refusals.specs.declared.Refusal.TheVariants.{SheetTooShort}
use Rattle.rigs.specs.declared.Wire as wires
use Rattle.rigs.specs.declared.Rig as rigs
use Rattle.rules.specs.declared.Rule as rules
use Rattle.words.specs.Kinds.{is_word}
use Rattle.words.specs.declared.WordKind as kinds
use Rattle.agreement.specs.declared.stage.Stage.{Stage}
use Rattle.agreement.specs.declared.stage.Stage.TheVariants.{Running, Decided}
use Rattle.agreement.specs.declared.stage.RoundKind.{RoundKind}
use Rattle.agreement.specs.declared.stage.Answer.TheVariants.{Done}
use Rattle.agreement.specs.Made.{rule_of, rig_of}
use Rattle.agreement.specs.Rounds.{kind_of}
use Rattle.agreement.specs.Sheets.{round_sheet}
use Rattle.agreement.specs.Calls.{holds, stage_after, setting_of, advanced, sheet_left}
use Rattle.rounds.specs.declared.start.Start.{Start}
use Rattle.rounds.specs.declared.outcome.Outcome.{Outcome}
use Rattle.rounds.specs.Settings.{setting_from}
use Rattle.rounds.specs.Sheets.{fitting}
use Rattle.rounds.specs.Outcomes.{outcome_of}
use Rattle.hall.specs.Halls.{Model, meant, put}
use Rattle.hall.specs.Outcomes.{Place, advancing}

module _ {R Q K : Type 0} (v : wires.Ghosts R) (g : rigs.Ghosts R) (q : rules.Ghosts Q) (k : kinds.Ghosts K) (x : Model R Q K) (take caller kings : ℕ) where
  -- what the round of this number starts from
  abbrev start_at : ℕ → Start
  start_at r = record { take = take; caller = caller; round = r; broken = x.state.broken; held = x.state.held; lamps = x.state.lit }

  abbrev outcome_at : RoundKind → ℕ → Outcome
  outcome_at kind r =
      outcome_of kind (rule_of q x.rule) (setting_from (rig_of v g x.rig) (is_word k.word) (start_at r)) (k.code x.rest) caller x.state.lit

  abbrev sheet_at : RoundKind → ℕ → List ℕ → List ℕ
  sheet_at kind r sheet = round_sheet kind (q.stations x.rule) (setting_from (rig_of v g x.rig) (is_word k.word) (start_at r)) sheet

  abbrev stage_at : ℕ → Stage
  stage_at r = cond (ltb (3 * kings) r) Decided (Running take caller kings r)

  -- the hall with this outcome
  abbrev held : Outcome → Stage → Model R Q K
  held o s = put x (record { stage = s; broken = x.state.broken; held = o.held; lit = o.lamps })

  by_length : (rounds : ℕ) (sheet : List ℕ) (long : Bool) (o : Outcome) → Ok o ≡ cond long (Ok (outcome_at (kind_of (suc rounds)) (suc rounds))) (Err SheetTooShort)
      → ◌≡◌ {A = Place R Q K} (held o (stage_at (suc rounds)), Ok Done, cond long (sheet_at (kind_of (suc rounds)) (suc rounds) sheet) sheet)
      (cond long (put x (advanced (meant v g q k x) x.state (Running take caller kings rounds)), Ok Done, sheet_left (meant v g q k x) x.state (Running take caller kings rounds) sheet) (x, Err SheetTooShort, sheet))
  unfolding advanced sheet_left setting_of holds stage_after outcome_of
  by_length rounds sheet true o gave =
      let e : o ≡ outcome_at (kind_of (suc rounds)) (suc rounds) = cc in
      ap (λ (z : Outcome). (held z (stage_at (suc rounds)), Ok Done, sheet_at (kind_of (suc rounds)) (suc rounds) sheet)) e
  by_length rounds sheet false o gave = let z : ◌≡◌ {A = ℕ} 0 1 = cc in absurd (omega arith)

  pub advance_is : (rounds : ℕ) (sheet after : List ℕ) (kind : RoundKind) (o : Outcome) (s : Stage)
      → kind ≡ kind_of (rounds + 1) → Ok o ≡ fitting sheet (outcome_at kind (rounds + 1))
      → after ≡ cond (leb 4096 (length sheet)) (sheet_at kind (rounds + 1) sheet) sheet → s ≡ stage_at (rounds + 1)
      → ◌≡◌ {A = Place R Q K} (held o s, Ok Done, after) (advancing v g q k x take caller kings rounds sheet)
  advance_is rounds sheet after kind o s isKind gave left isStage =
      let one = add-one rounds in
      rw isStage (rw left (rw isKind (rw one (by_length rounds sheet (leb 4096 (length sheet)) o (rw one at (rw isKind at gave))))))
