-- Three numbers sorted.
use Rattle.std.proofs.Common.{◌≡◌, ℕ, zero, suc, ◌+◌, ◌≤◌, ◌⊎◌, List, [], ◌∷◌, get_or, Contains, IsPermutation, IsSorted, inl, inr, refl, sym, arith}
use Rattle.std.specs.Ordering.{nat_cmp}
use Rattle.std.proofs.lemmas.List.Sorted.{Contains-permutation, IsPermutation-sym, sum_by-IsPermutation, length_permutation, IsNonDecreasingBy-from_sort}
use Rattle.patch.specs.Boxes.{low3, mid3, high3}

-- an element of a list of three is one of the three
one : (x y z s : ℕ) → Contains (x ∷ y ∷ z ∷ []) s → (s ≡ x) ⊎ ((s ≡ y) ⊎ (s ≡ z))
one x y z s (zero, l, e) = inl (sym e)
one x y z s (suc zero, l, e) = inr (inl (sym e))
one x y z s (suc (suc zero), l, e) = inr (inr (sym e))
one x y z s (suc (suc (suc k)), l, e) = absurd (omega arith)

between : (a b c s : ℕ) → a ≤ b → b ≤ c → (s ≡ a) ⊎ ((s ≡ b) ⊎ (s ≡ c)) → (a ≤ s) × (s ≤ c)
between a b c s p q h = (omega arith, omega arith)

in_turn : (x y z a b c : ℕ) → (a ≡ x) ⊎ ((a ≡ y) ⊎ (a ≡ z)) → (c ≡ x) ⊎ ((c ≡ y) ⊎ (c ≡ z)) → (a ≤ x) × (x ≤ c) → (a ≤ y) × (y ≤ c) → (a ≤ z) × (z ≤ c)
    → a + (b + c) ≡ x + (y + z) → (a ≡ low3 x y z) × (b ≡ mid3 x y z) × (c ≡ high3 x y z)
in_turn x y z a b c ha hc hx hy hz t = (omega arith, omega arith, omega arith)

-- in order they are the least, the middle and the largest
sorted_three : (x y z : ℕ) (ys : List ℕ) → IsPermutation (x ∷ y ∷ z ∷ []) ys → IsSorted nat_cmp ys
    → (get_or ys 0 0 ≡ low3 x y z) × (get_or ys 1 0 ≡ mid3 x y z) × (get_or ys 2 0 ≡ high3 x y z)
sorted_three x y z [] p s = absurd (let l = length_permutation _ _ p in omega arith)
sorted_three x y z (a ∷ []) p s = absurd (let l = length_permutation _ _ p in omega arith)
sorted_three x y z (a ∷ b ∷ []) p s = absurd (let l = length_permutation _ _ p in omega arith)
sorted_three x y z (a ∷ b ∷ c ∷ d ∷ ys) p s = absurd (let l = length_permutation _ _ p in omega arith)
sorted_three x y z (a ∷ b ∷ c ∷ []) p s =
    let three = x ∷ y ∷ z ∷ [] in
    let row = a ∷ b ∷ c ∷ [] in
    let rises = IsNonDecreasingBy-from_sort (λ v. v) row s in
    let back = IsPermutation-sym three row p in
    let ab : a ≤ b = rises 0 1 0 (omega arith) (omega arith) in
    let bc : b ≤ c = rises 1 2 0 (omega arith) (omega arith) in
    in_turn x y z a b c
    (one x y z a (Contains-permutation row three a back (0, omega arith, refl)))
    (one x y z c (Contains-permutation row three c back (2, omega arith, refl)))
    (between a b c x ab bc (one a b c x (Contains-permutation three row x p (0, omega arith, refl))))
    (between a b c y ab bc (one a b c y (Contains-permutation three row y p (1, omega arith, refl))))
    (between a b c z ab bc (one a b c z (Contains-permutation three row z p (2, omega arith, refl))))
    (let t = sum_by-IsPermutation (λ v. v) three row p in omega arith)

pub sorted_low : (x y z : ℕ) (ys : List ℕ) → IsPermutation (x ∷ y ∷ z ∷ []) ys → IsSorted nat_cmp ys → get_or ys 0 0 ≡ low3 x y z
sorted_low x y z ys p s = (sorted_three x y z ys p s).0

pub sorted_mid : (x y z : ℕ) (ys : List ℕ) → IsPermutation (x ∷ y ∷ z ∷ []) ys → IsSorted nat_cmp ys → get_or ys 1 0 ≡ mid3 x y z
sorted_mid x y z ys p s = (sorted_three x y z ys p s).1

pub sorted_high : (x y z : ℕ) (ys : List ℕ) → IsPermutation (x ∷ y ∷ z ∷ []) ys → IsSorted nat_cmp ys → get_or ys 2 0 ≡ high3 x y z
sorted_high x y z ys p s = (sorted_three x y z ys p s).2

pub ruleset three_sorted = (sorted_low, sorted_mid, sorted_high)
