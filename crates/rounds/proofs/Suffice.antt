-- The words among a station's votes are all that it has to try.
use Rattle.std.proofs.Common.{◌≡◌, ℕ, ◌<◌, Bool, true, false, ◌&&◌, eqb, refl, ap, arith}
use Rattle.std.proofs.lemmas.Bool.{eq-eqb, and_parts}
use Rattle.sets.specs.Sets.{any, smallest}
use Rattle.sets.proofs.Tests.{any-decides}
use Rattle.rigs.specs.Lines.{void}
use Rattle.agreement.specs.Meanings.{Rule, LawfulRule}
use Rattle.agreement.specs.Rounds.{unanimous, weak_test, weak_held, in_y, graded_held}
use Rattle.rounds.specs.Tallies.{Votes, third_of}
use Rattle.rounds.specs.Tried.{occurs, VotesSuffice}
use Rattle.rounds.proofs.Scans.{smallest-same}
use Rattle.rounds.proofs.WeakTried.{third-is, third-agrees, weak_some}
use Rattle.rounds.proofs.GradedTried.{backed}

occurs-at : (n : ℕ) (v : Votes) (p q r w : ℕ) → q < n → r < n → v p q r ≡ w → occurs n v p w ≡ true
unfolding occurs
occurs-at n v p q r w lq lr e = (any-decides _ n).1 (q, lq, (any-decides (λ r. eqb (v p q r) w) n).1 (r, lr, eq-eqb (v p q r) w e))

implied : (x y : Bool) → (y ≡ true → x ≡ true) → (x && y) ≡ y
implied x true h = ap (λ b. b && true) (h refl)
implied true false h = refl
implied false false h = refl

module _ (R : Rule) (L : LawfulRule R) (words : ℕ → Bool) (v : Votes) (p : ℕ) (lp : p < R.n) where
  weak-occurs : (w : ℕ) → (words w && weak_test R v p w) ≡ true → occurs R.n v p w ≡ true
  weak-occurs w h =
      let t = weak_some R L v p w (and_parts (words w) (weak_test R v p w) h).1 in
      let q = t.0 in
      occurs-at R.n v p q (third_of p q) w t.1 (omega (arith, (third-is p q).0, L.sized.0)) (third-agrees R L v p q w (and_parts _ (unanimous R.n v p w q) t.2).1)

  graded-occurs : (w : ℕ) → (words w && any R.n (in_y R v p w)) ≡ true → occurs R.n v p w ≡ true
  graded-occurs w h =
      let t = (any-decides (in_y R v p w) R.n).0 (and_parts (words w) (any R.n (in_y R v p w)) h).1 in
      let b = backed R L v p w t.0 t.1 t.2 in
      occurs-at R.n v p t.0 b.0 w t.1 b.1 b.2

  weak_suffices : smallest 4096 (λ w. occurs R.n v p w && (words w && weak_test R v p w)) void ≡ weak_held R words v p
  unfolding weak_held
  weak_suffices = smallest-same 4096 _ _ void (λ w. implied (occurs R.n v p w) (words w && weak_test R v p w) (weak-occurs w))

  graded_suffices : (rest : ℕ) → smallest 4096 (λ w. occurs R.n v p w && (words w && any R.n (in_y R v p w))) rest ≡ graded_held R words rest v p
  unfolding graded_held
  graded_suffices rest = smallest-same 4096 _ _ rest (λ w. implied (occurs R.n v p w) (words w && any R.n (in_y R v p w)) (graded-occurs w))

pub suffice : VotesSuffice
suffice = record { weak = λ R L words v p lp. weak_suffices R L words v p lp; graded = λ R L words rest v p lp. graded_suffices R L words v p lp rest }
