-- Which words a station has to try in a weak or a graded round: only such as are among its votes.
use Rattle.std.specs.Prelude.{◌≡◌, ℕ, ◌<◌, Bool, ◌&&◌, nat_eq}
use Rattle.sets.specs.Sets.{any, smallest}
use Rattle.rigs.specs.Lines.{void}
use Rattle.agreement.specs.Meanings.{Rule, LawfulRule}
use Rattle.agreement.specs.Rounds.{weak_test, weak_held, in_y, graded_held}
use Rattle.rounds.specs.Tallies.{Votes}

-- w is one of p's votes: it is v(p,q,r) for stations q and r
unfoldable pub occurs : ℕ → Votes → ℕ → ℕ → Bool
occurs n v p w = any n (λ q. any n (λ r. nat_eq (v p q r) w))

-- a station that tries only the words among its votes holds what it holds where it tries every word
pub record VotesSuffice : Type 0 where
  pub weak : (R : Rule) → LawfulRule R → (words : ℕ → Bool) (v : Votes) (p : ℕ) → p < R.n
      → smallest 4096 (λ w. occurs R.n v p w && (words w && weak_test R v p w)) void ≡ weak_held R words v p
  pub graded : (R : Rule) → LawfulRule R → (words : ℕ → Bool) (rest : ℕ) (v : Votes) (p : ℕ) → p < R.n
      → smallest 4096 (λ w. occurs R.n v p w && (words w && any R.n (in_y R v p w))) rest ≡ graded_held R words rest v p
