-- What stations hold after a graded round, and which lamps are lit, from what was found for each.
use Rattle.std.proofs.Common.{◌≡◌, ℕ, Bool, ◌≤◌, List, get_or, ap, ◌∙◌, ap₂}
use Rattle.sets.specs.Sets.{mask_of}
use Rattle.rigs.specs.Lines.{void}
use Rattle.agreement.specs.Meanings.{Rule}
use Rattle.agreement.specs.Rounds.{graded_held, graded_lit}
use Rattle.rounds.specs.declared.outcome.Outcome.{Outcome}
use Rattle.rounds.specs.Stations.{Sixteen}
use Rattle.rounds.specs.Tallies.{Votes, graded_by}
use Rattle.rounds.proofs.Fills.{sixteen_is}
use Rattle.rounds.proofs.Scans.{mask_same}

made : List ℕ → ℕ → Outcome
made held lamps = record { held = held; lamps = lamps }

pub graded-is : (R : Rule) (words : ℕ → Bool) (rest : ℕ) (v : Votes) → R.n ≤ 16 → (held : List ℕ) (lamps : ℕ) → Sixteen void R.n (graded_held R words rest v) held
    → lamps ≡ mask_of R.n (λ p. graded_lit R v p (get_or held p 0)) → ◌≡◌ {A = Outcome} (record { held = held; lamps = lamps }) (graded_by R words rest v)
unfolding made
graded-is R words rest v few held lamps s e =
    ap₂ made (sixteen_is (graded_held R words rest v) R.n held few s) (e ∙ mask_same R.n _ _ (λ p l. ap (graded_lit R v p) (s.each p 0 l)))
