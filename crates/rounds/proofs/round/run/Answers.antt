use Rattle.std.proofs.Common.{◌≡◌, ℕ, ◌≤◌, ◌++◌, List, length, take, drop, Ok, Result, rules, sym, ap, ◌∙◌}
use Rattle.std.proofs.lemmas.Bool.{cond-true, le-leb}
use Rattle.refusals.specs.declared.Refusal.{Refusal}
use Rattle.words.specs.Kinds.{is_word}
use Rattle.agreement.specs.Made.{rig_of}
use Rattle.agreement.specs.Sheets.{round_sheet}
use Rattle.rounds.specs.declared.outcome.Outcome.{Outcome}
use Rattle.rounds.specs.Settings.{setting_from}
use Rattle.rounds.proofs.Rounds.{fits, round_sheet-first}
use Rattle.rounds.proofs.round.run.Goals as goal

pub returns : goal.returns
returns g c =
    let sheet = c.args.sheet.now in
    let kind = c.args.kind in
    let n = g.Q.Rule.stations c.args.rule.now in
    let e = setting_from (rig_of g.R.Wire g.R.Rig c.args.rig.now) (is_word g.K.WordKind.word) c.args.start.now in
    let at : c.in_ok-votes.votes.now ≡ take 4096 sheet = search rules in
    let long : 4096 ≤ length sheet = search rules in
    let done : Outcome → Result Outcome Refusal = λ x. Ok x in
    record {
      value = ap done c.run_kind.ensures.value ∙ fits sheet _ long;
      after = ap (λ (s : List ℕ). s ++ drop 4096 sheet) (c.run_kind.ensures.after ∙ ap (round_sheet kind n e) at) ∙ round_sheet-first kind n e sheet ∙ sym (cond-true _ _ _ (le-leb 4096 (length sheet) long));
    }
