-- What the operators of src/ give, as sets of stations.
use Rattle.std.proofs.Common.{◌≡◌, ℕ, ◌-◌, ◌*◌, ◌%◌, ◌^◌, ◌<◌, ◌≤◌, Bool, true, false, cond, not, ◌&&◌, ◌||◌, eqb, leb, ltb, sym, refl, ap, ◌∙◌, ap₂, arith, mod-eq_of_lt, pow_mono}
use lib.Bits.{bit_and, bit_or, and_lt}
use lib.Count.{ones}
use Rattle.std.proofs.lemmas.Nat.{or_lt, pow_below}
use Rattle.std.proofs.lemmas.Bool.{ltb-true, le-ltb, lt-ltb, lt-leb, le-leb}
use Rattle.sets.specs.Sets.{has, mask_of, count_of, inside, whole, among}
use Rattle.sets.proofs.Masks.{mask_is, mask_of-lt, has_and, has_or, has-high, has-mask_of}
use Rattle.sets.proofs.Bounds.{has_bit, has_flipped, has-low_bits, lt-among}
use Rattle.sets.proofs.Counts.{ones-count}
use Rattle.sets.proofs.Tests.{and_inside, whole-inside, whole-over}

-- no set has a station from 16 on
pub none_over : (a i : ℕ) → a < 2 ^ 16 → 16 ≤ i → ltb i 16 ≡ has a i
none_over a i la l = le-ltb i 16 l ∙ sym (has-high 16 a i la l)

pub or_is : (a b : ℕ) → a < 2 ^ 16 → b < 2 ^ 16 → bit_or a b ≡ mask_of 16 (λ j. has a j || has b j)
or_is a b la lb = mask_is 16 (bit_or a b) (λ j. has a j || has b j) (or_lt 16 a b la lb) (λ j _. has_or a b j)

bit_fits : (i : ℕ) → cond (ltb i 16) (2 ^ i) 0 < 2 ^ 16
bit_fits i = at (ltb i 16) (λ e. pow_below i 16 (ltb-true i 16 e))
  where
    at : (b : Bool) → (b ≡ true → 2 ^ i < 2 ^ 16) → cond b (2 ^ i) 0 < 2 ^ 16
    at true h = h refl
    at false h = omega arith

pub or_bit : (a i : ℕ) → a < 2 ^ 16 → bit_or a (cond (ltb i 16) (2 ^ i) 0) ≡ mask_of 16 (λ j. has a j || eqb i j)
or_bit a i la =
    let b = cond (ltb i 16) (2 ^ i) 0 in
    mask_is 16 (bit_or a b) (λ j. has a j || eqb i j) (or_lt 16 a b la (bit_fits i))
    (λ j l. has_or a b j ∙ ap (λ x. has a j || x) (has_bit i j l))

pub and_not_bit : (a i : ℕ) → a < 2 ^ 16 → bit_and a (65535 - cond (ltb i 16) (2 ^ i) 0) ≡ mask_of 16 (λ j. has a j && not (eqb i j))
and_not_bit a i la =
    let b = cond (ltb i 16) (2 ^ i) 0 in
    mask_is 16 (bit_and a (65535 - b)) (λ j. has a j && not (eqb i j)) (and_lt 16 a (65535 - b) la (omega arith))
    (λ j l. has_and a (65535 - b) j ∙ ap (λ x. has a j && x) (has_flipped b j (bit_fits i) l ∙ ap not (has_bit i j l)))

pub and_not : (f : ℕ → Bool) (a : ℕ) → a < 2 ^ 16 → bit_and (mask_of 16 f) (65535 - a) ≡ mask_of 16 (λ j. f j && not (has a j))
and_not f a la =
    mask_is 16 (bit_and (mask_of 16 f) (65535 - a)) (λ j. f j && not (has a j)) (and_lt 16 (mask_of 16 f) (65535 - a) (mask_of-lt 16 f) (omega arith))
    (λ j l. has_and (mask_of 16 f) (65535 - a) j ∙ ap₂ (λ x y. x && y) (has-mask_of 16 f j l) (has_flipped a j la l))

-- the lowest n bits, and all sixteen where n is 16 or more
pub low_bits : (n : ℕ) → n < 16 → 1 * 2 ^ n % 65536 - 1 ≡ mask_of 16 (λ j. ltb j n)
low_bits n l =
    let up : 2 ^ n < 2 ^ 16 = pow_below n 16 l in
    let e : 1 * 2 ^ n % 65536 ≡ 2 ^ n = mod-eq_of_lt (omega arith) ∙ omega arith in
    ap (λ x. x - 1) e ∙ mask_is 16 (2 ^ n - 1) (λ j. ltb j n) (omega arith)
    (λ j h. ap (λ b. has (cond b (2 ^ n - 1) 65535) j) (sym (lt-ltb n 16 l)) ∙ has-low_bits n j h)

pub all_bits : (n : ℕ) → 16 ≤ n → 65535 ≡ mask_of 16 (λ j. ltb j n)
all_bits n l =
    mask_is 16 65535 (λ j. ltb j n) (omega arith)
    (λ j h. ap (λ b. has (cond b (2 ^ n - 1) 65535) j) (sym (le-ltb n 16 l)) ∙ has-low_bits n j h)

pub ones_is : (a : ℕ) → a < 2 ^ 16 → ones a ≡ count_of 16 (has a)
ones_is a la = ones-count 16 a la

-- all n stations are within what a and b have
pub whole_is : (n a b : ℕ) → n ≤ 16 → whole n a b ≡ inside (mask_of 16 (λ j. ltb j n)) (mask_of 16 (λ j. has a j || has b j))
whole_is n a b l = sym (whole-inside n a b l)

pub whole_over : (n a b : ℕ) → 16 < n → a < 2 ^ 16 → b < 2 ^ 16 → leb n 16 ≡ whole n a b
whole_over n a b l la lb = lt-leb n 16 l ∙ sym (whole-over n a b l la lb)

pub among_over : (n a : ℕ) → 16 ≤ n → a < 2 ^ 16 → leb 16 n ≡ among n a
among_over n a l la =
    let up : 2 ^ 16 ≤ 2 ^ n = pow_mono l in
    le-leb 16 n l ∙ sym (lt-among n a (omega arith))

pub ruleset operators = (none_over, or_is, or_bit, and_not_bit, and_not, low_bits, ones_is, and_inside, whole_is, whole_over, among_over)
