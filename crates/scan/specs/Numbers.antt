-- Numbers as they stand in a line of text.
use Rattle.std.specs.Prelude.{ℕ, zero, suc, ◌+◌, ◌-◌, ◌*◌, ◌<◌, ◌≤◌, Bool, cond, ◌&&◌, List, length, nat_le, slice_index}

-- whether a byte is one of those from a to b
abbrev pub is_from : ℕ → ℕ → ℕ → Bool
is_from a b byte = nat_le a byte && nat_le byte b

-- the value of a digit's byte, with letters of either case from 10 on; 255 where it is no digit
unfoldable pub digit_value : ℕ → ℕ
digit_value byte = cond (is_from 48 57 byte) (byte - 48) (cond (is_from 65 70 byte) (byte - 55) (cond (is_from 97 102 byte) (byte - 87) 255))

-- at place i of the text no digit of the radix stands
abbrev pub NoDigit : ℕ → List ℕ → ℕ → Type 0
NoDigit radix text i = i < length text → radix ≤ digit_value (slice_index text i)

-- the value of the k bytes from place i on, as digits in a radix, the highest first
unfoldable pub numeral : ℕ → List ℕ → ℕ → ℕ → ℕ
numeral radix text i zero = 0
numeral radix text i (suc k) = numeral radix text i k * radix + digit_value (slice_index text (i + k))
