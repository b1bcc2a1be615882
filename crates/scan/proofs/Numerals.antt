-- Digits, and a numeral with one digit more.
use Rattle.std.proofs.Common.{◌≡◌, ℕ, suc, ◌+◌, ◌-◌, ◌*◌, ◌<◌, ◌≤◌, List, get_or, refl, ap, arith}
use Rattle.std.proofs.lemmas.Bool.Decides.{nat_tests}
use Rattle.std.specs.Char.{digit_value as library_value}
use Rattle.scan.specs.Numbers.{digit_value, numeral}

-- a digit below 16 has the value that the library gives its character, and a byte that is none has no value below 16
pub digits : (radix byte : ℕ) → radix ≤ 16 → (library_value byte < radix → library_value byte ≡ digit_value byte) × (radix ≤ library_value byte → radix ≤ digit_value byte)
unfolding digit_value
digits radix byte l = (λ h. grind (arith, nat_tests), λ h. grind (arith, nat_tests))

-- the numeral from i to j, and the digit at j
pub numeral-more : (radix : ℕ) (text : List ℕ) (i j : ℕ) → i ≤ j
    → numeral radix text i (j + 1 - i) ≡ numeral radix text i (j - i) * radix + digit_value (get_or text j 0)
unfolding numeral
numeral-more radix text i j l =
    let e : j + 1 - i ≡ suc (j - i) = omega arith in
    let d : i + (j - i) ≡ j = omega arith in
    rw e (ap (λ k. numeral radix text i (j - i) * radix + digit_value (get_or text k 0)) d)

-- no digits
pub numeral-none : (radix : ℕ) (text : List ℕ) (i : ℕ) → 0 ≡ numeral radix text i (i - i)
unfolding numeral
numeral-none radix text i =
    let e : i - i ≡ 0 = omega arith in
    rw e refl
