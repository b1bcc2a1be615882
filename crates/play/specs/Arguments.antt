-- Lists of arguments that are just so many numbers.
use Rattle.std.specs.Prelude.{Bool, true, false, List, [], ◌∷◌, ℤ, Some, None, Option}
use Rattle.packets.specs.Osc.{Value, number, text, blob}

-- there is no argument
abbrev pub is_none : List Value → Bool
is_none [] = true
is_none (v ∷ vs) = false

-- the number that comes first, if one does
abbrev pub head_number : List Value → Option ℤ
head_number [] = None
head_number (number z ∷ vs) = Some z
head_number (text s ∷ vs) = None
head_number (blob b ∷ vs) = None

-- the number that is the one argument, if so
abbrev pub one_number : List Value → Option ℤ
one_number [] = None
one_number (number x ∷ []) = Some x
one_number (number x ∷ v ∷ vs) = None
one_number (text s ∷ vs) = None
one_number (blob b ∷ vs) = None

-- a value where there is no further argument
abbrev pub if_end : {A : Type 0} → List Value → A → Option A
if_end [] a = Some a
if_end (v ∷ vs) a = None

-- the three numbers that are all arguments, if so
abbrev pub third_number : ℤ → ℤ → List Value → Option (ℤ × ℤ × ℤ)
third_number x y [] = None
third_number x y (number z ∷ vs) = if_end vs (x, y, z)
third_number x y (text s ∷ vs) = None
third_number x y (blob b ∷ vs) = None

abbrev pub second_number : ℤ → List Value → Option (ℤ × ℤ × ℤ)
second_number x [] = None
second_number x (number y ∷ vs) = third_number x y vs
second_number x (text s ∷ vs) = None
second_number x (blob b ∷ vs) = None

abbrev pub three_numbers : List Value → Option (ℤ × ℤ × ℤ)
three_numbers [] = None
three_numbers (number x ∷ vs) = second_number x vs
three_numbers (text s ∷ vs) = None
three_numbers (blob b ∷ vs) = None
