-- What each kind of round leaves.
use Rattle.std.proofs.Common.{◌≡◌, ℕ, ◌≤◌, Bool, List, ◌++◌, length, take, drop, Ok, Err, Result, leb, sym, refl, ap, ◌∙◌, ap₂, take-append-drop}
use Rattle.std.proofs.lemmas.Bool.{cond-true, le-leb}
use Rattle.refusals.specs.declared.Refusal.{Refusal}
use Rattle.refusals.specs.declared.Refusal.TheVariants.{SheetTooShort}
use Rattle.sets.specs.Sets.{has}
use Rattle.rules.specs.Kings.{king}
use Rattle.agreement.specs.declared.stage.RoundKind.{RoundKind}
use Rattle.agreement.specs.declared.stage.RoundKind.TheVariants.{Caller, Weak, Graded, King}
use Rattle.agreement.specs.Meanings.{Rule}
use Rattle.agreement.specs.Rounds.{Setting, vote, weak_held, graded_lit, caller_held, king_held, held_after}
use Rattle.agreement.specs.Sheets.{sixteen, vote_entry, vote_sheet, round_sheet, lamps_after}
use Rattle.rounds.specs.declared.outcome.Outcome.{Outcome}
use Rattle.rounds.specs.Sheets.{votes_on, fitting}
use Rattle.rounds.specs.Tallies.{Votes, graded_by}
use Rattle.rounds.specs.Outcomes.{outcome_of}
use Rattle.rounds.proofs.Fills.{filled-first, sixteen-same}
use Rattle.rounds.proofs.Scans.{mask_same}
use Rattle.rounds.proofs.Same.{SameVotes, sheet-votes, weak_held-same, graded_held-same, graded_lit-same}

abbrev made : List ℕ → ℕ → Outcome
made held lamps = record { held = held; lamps = lamps }

-- what is held depends only on what three different stations have of their trios
module _ (R : Rule) (words : ℕ → Bool) (v v' : Votes) (same : SameVotes R.n v v') where
  pub weak-same : sixteen R.n (weak_held R words v) ≡ sixteen R.n (weak_held R words v')
  weak-same = sixteen-same R.n _ _ (λ p l. weak_held-same R v v' same p l words)

  pub graded-same : (rest : ℕ) → graded_by R words rest v ≡ graded_by R words rest v'
  graded-same rest =
      ap₂ made
      (sixteen-same R.n _ _ (λ p l. graded_held-same R v v' same p l words rest))
      (mask_same R.n _ _ (λ p l. ap (graded_lit R v p) (graded_held-same R v v' same p l words rest) ∙ graded_lit-same R v v' same p l _))

module _ (R : Rule) (e : Setting) (rest caller lit : ℕ) where
  pub after_caller : (held : List ℕ) → held ≡ sixteen R.n (caller_held e rest caller) → made held lit ≡ outcome_of Caller R e rest caller lit
  unfolding outcome_of held_after lamps_after
  after_caller held h = ap (λ (x : List ℕ). made x lit) (h ∙ sixteen-same R.n _ _ (λ p _. refl))

  pub after-king : (j : ℕ) (held : List ℕ) → held ≡ sixteen R.n (king_held e rest (has lit) (king caller j)) → made held lit ≡ outcome_of (King j) R e rest caller lit
  unfolding outcome_of held_after lamps_after
  after-king j held h = ap (λ (x : List ℕ). made x lit) (h ∙ sixteen-same R.n _ _ (λ p _. refl))

  -- after a vote
  module _ (few : R.n ≤ 16) (sheet sheet' : List ℕ) (voted : sheet' ≡ vote_sheet R.n e sheet) where
    same : SameVotes R.n (votes_on sheet') (vote e)
    same p q r lp lq lr x y z = ap (λ (s : List ℕ). votes_on s p q r) voted ∙ sheet-votes R.n e sheet few p q r lp lq lr x y z

    pub after-weak : (held : List ℕ) → held ≡ sixteen R.n (weak_held R e.words (votes_on sheet')) → made held lit ≡ outcome_of Weak R e rest caller lit
    unfolding outcome_of held_after lamps_after
    after-weak held h = ap (λ (x : List ℕ). made x lit) (h ∙ weak-same R e.words (votes_on sheet') (vote e) same ∙ sixteen-same R.n _ _ (λ p _. refl))

    pub after-graded : graded_by R e.words rest (votes_on sheet') ≡ outcome_of Graded R e rest caller lit
    unfolding outcome_of held_after lamps_after
    after-graded = graded-same R e.words (votes_on sheet') (vote e) same rest ∙ ap₂ made (sixteen-same R.n _ _ (λ p _. refl)) refl

pub vote_sheet-first : (n : ℕ) (e : Setting) (sheet : List ℕ) → vote_sheet n e (take 4096 sheet) ++ drop 4096 sheet ≡ vote_sheet n e sheet
unfolding vote_sheet
vote_sheet-first n e sheet = filled-first (vote_entry n e) 4096 sheet

-- the sheet after a round, from its first 4,096 entries
pub round_sheet-first : (kind : RoundKind) (n : ℕ) (e : Setting) (sheet : List ℕ) → round_sheet kind n e (take 4096 sheet) ++ drop 4096 sheet ≡ round_sheet kind n e sheet
unfolding round_sheet
round_sheet-first Caller n e sheet = take-append-drop 4096 sheet
round_sheet-first Weak n e sheet = vote_sheet-first n e sheet
round_sheet-first Graded n e sheet = vote_sheet-first n e sheet
round_sheet-first (King j) n e sheet = take-append-drop 4096 sheet

-- an answer where the sheet has room
pub fits : {A : Type 0} → (sheet : List ℕ) (x : A) → 4096 ≤ length sheet → ◌≡◌ {A = Result A Refusal} (Ok x) (fitting sheet x)
fits sheet x long = sym (cond-true (leb 4096 (length sheet)) (Ok x) (Err SheetTooShort) (le-leb 4096 (length sheet) long))
