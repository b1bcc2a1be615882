-- The numbers of a message as the numbers of a call.
use Rattle.std.specs.Prelude.{ℕ, cond, ℤ, pos, negsuc, Some, None, Option, nat_lt}

-- a number from 0 to 65,535, if it is one
abbrev pub short_in : ℤ → Option ℕ
short_in (pos x) = cond (nat_lt x 65536) (Some x) None
short_in (negsuc x) = None

-- a station: outside 0 to 65,535 it counts as 65,535
abbrev pub or_last : Option ℕ → ℕ
or_last (Some x) = x
or_last None = 65535

abbrev pub station_in : ℤ → ℕ
station_in z = or_last (short_in z)

-- the word that the number is the code of, if any
abbrev pub word_in : {W : Type 0} → (ℕ → Option W) → ℤ → Option W
word_in word (pos x) = word x
word_in word (negsuc x) = None
