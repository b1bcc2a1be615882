-- The list that an inclusive range of numbers gives.
use Rattle.std.proofs.Common.{◌≡◌, ℕ, suc, ◌+◌, ◌-◌, Bool, true, false, List, ◌∷◌, Option, Some, refl, ap, ◌∙◌, subst, arith}
use Rattle.std.specs.List.{range_with_len}
use Rattle.std.specs.Range.{range_inclusive_start, range_inclusive_end, range_inclusive_exhausted, range_inclusive_len, range_inclusive_steps}
use Rattle.std.specs.declared.ops.RangeInclusive.{RangeInclusive}
use Rattle.std.proofs.lemmas.Iterator.{YieldsList}
use Rattle.std.proofs.lemmas.Iterator.Consumers.{YieldsList-from_shown}
use Rattle.std.proofs.lemmas.List.FromFn.{length-range_with_len}

abbrev left : RangeInclusive ℕ → ℕ
left s = range_inclusive_len (λ x y. y - x) (range_inclusive_start s) (range_inclusive_end s) (range_inclusive_exhausted s)

abbrev shown : RangeInclusive ℕ → List ℕ
shown s = range_with_len (range_inclusive_start s) (left s)

abbrev steps : RangeInclusive ℕ → Option ℕ → RangeInclusive ℕ → Type 0
steps = range_inclusive_steps (λ x y. y - x) (λ x y. y ≡ x + 1)

module _ (s : RangeInclusive ℕ) (x : ℕ) (t : RangeInclusive ℕ) (h : steps s (Some x) t) where
  later : (b : Bool) → range_inclusive_exhausted t ≡ b → range_with_len (range_inclusive_start s + 1) (left t) ≡ range_with_len (range_inclusive_start t) (left t)
  later true e = rw e refl
  later false e = rw (h.1.2 e) refl

  first : shown s ≡ x ∷ shown t
  first = let e : left s ≡ suc (left t) = omega (arith, h.1.1) in rw (e, h.1.0) (ap (λ l. range_inclusive_start s ∷ l) (later (range_inclusive_exhausted t) refl))

-- the numbers from 0 up to the end
pub YieldsList-from_inclusive : {s : RangeInclusive ℕ} (end : ℕ) → range_inclusive_start s ≡ 0 → range_inclusive_end s ≡ end → range_inclusive_exhausted s ≡ false → YieldsList steps (λ x. x) s (range_with_len 0 (end + 1))
YieldsList-from_inclusive {s} end a b e = subst (YieldsList steps (λ x. x) s) (rw (a, b, e) (ap (range_with_len 0) (omega arith))) (YieldsList-from_shown steps (λ x. x) shown (λ s t h. length-range_with_len _ _ ∙ h.1.0) first s)
