-- Tests of all stations, and the set of those that pass a test.
use Rattle.std.proofs.Common.{◌≡◌, ℕ, zero, suc, ◌+◌, ◌^◌, ◌<◌, Bool, true, false, cond, ◌&&◌, ◌||◌, eqb, length, get_or, MatchBool, sym, refl, ap, subst, ◌∙◌, ap₂, ⊎_elim, zero-add, arith}
use Rattle.std.specs.List.{range_with_len, AllWithin, HoldsAt}
use Rattle.std.proofs.lemmas.List.FromFn.{get_or-range_with_len, length-range_with_len}
use Rattle.std.proofs.lemmas.Bool.{and_left, and_right, cases_eq}
use Rattle.sets.specs.Sets.{has, every, any, mask_of, smallest}
use Rattle.sets.proofs.Tests.{every-decides}
use Rattle.sets.proofs.Bounds.{mask_joins, mask_skips}

at : (n k : ℕ) → k < n → get_or (range_with_len 0 n) k 0 ≡ k
at n k lt = get_or-range_with_len 0 n k 0 lt ∙ zero-add k

every-not : (t : ℕ → Bool) (n i : ℕ) → i < n → t i ≡ false → every n t ≡ false
unfolding every
every-not t zero i lt h = absurd (omega arith)
every-not t (suc n) i lt h =
    ⊎_elim (λ e. and_left (t n) (every n t) (rw e at h)) (λ ne. and_right (t n) (every n t) (every-not t n i (omega arith) h)) (cases_eq i n)

-- what `all` finds over the stations below n
pub every-from_all : (t : ℕ → Bool) (n : ℕ) (b : Bool)
    → MatchBool b (AllWithin (λ r. t r ≡ true) (range_with_len 0 n) 0 (length (range_with_len 0 n))) ((k : ℕ) × (k < length (range_with_len 0 n)) × HoldsAt (λ r. t r ≡ false) (range_with_len 0 n) k)
    → b ≡ every n t
every-from_all t n true h =
    sym ((every-decides t n).1 (λ k lt. subst (λ r. t r ≡ true) (at n k lt) (h k 0 (omega arith) (omega (arith, length-range_with_len 0 n)))))
every-from_all t n false h =
    let lt : h.0 < n = omega (arith, h.1, length-range_with_len 0 n) in
    sym (every-not t n h.0 lt (subst (λ r. t r ≡ false) (at n h.0 lt) (h.2 0)))

-- one turn of a loop that collects the stations that pass a test
pub mask_in : (t : ℕ → Bool) (i m x : ℕ) → m ≡ mask_of i t → i < 16 → t i ≡ true → x ≡ mask_of 16 (λ j. has m j || eqb i j) → x ≡ mask_of (i + 1) t
mask_in t i m x e l h is = is ∙ ap (λ z. mask_of 16 (λ j. has z j || eqb i j)) e ∙ mask_joins i t l h

pub mask_out : (t : ℕ → Bool) (i m x : ℕ) → m ≡ mask_of i t → t i ≡ false → x ≡ m → x ≡ mask_of (i + 1) t
mask_out t i m x e h is = is ∙ e ∙ mask_skips i t h

-- only what a test says of the first n matters
pub mask_same : (n : ℕ) (f g : ℕ → Bool) → ((i : ℕ) → i < n → f i ≡ g i) → mask_of n f ≡ mask_of n g
unfolding mask_of
mask_same zero f g h = refl
mask_same (suc n) f g h = ap₂ (λ x b. x + cond b (2 ^ n) 0) (mask_same n f g (λ i l. h i (omega arith))) (h n (omega arith))

pub every-same : (n : ℕ) (f g : ℕ → Bool) → ((i : ℕ) → i < n → f i ≡ g i) → every n f ≡ every n g
unfolding every
every-same zero f g h = refl
every-same (suc n) f g h = ap₂ ◌&&◌ (h n (omega arith)) (every-same n f g (λ i l. h i (omega arith)))

pub any_same : (n : ℕ) (f g : ℕ → Bool) → ((i : ℕ) → i < n → f i ≡ g i) → any n f ≡ any n g
unfolding any
any_same zero f g h = refl
any_same (suc n) f g h = ap₂ ◌||◌ (h n (omega arith)) (any_same n f g (λ i l. h i (omega arith)))

pub smallest-same : (n : ℕ) (f g : ℕ → Bool) (d : ℕ) → ((i : ℕ) → f i ≡ g i) → smallest n f d ≡ smallest n g d
unfolding smallest
smallest-same zero f g d h = refl
smallest-same (suc n) f g d h = smallest-same n f g (cond (f n) n d) h ∙ ap (λ b. smallest n g (cond b n d)) (h n)
