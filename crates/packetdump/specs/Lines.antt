-- The line that shows a packet. Assumes nothing.
use Rattle.std.specs.Prelude.{◌≡◌, ℕ, ◌+◌, ◌/◌, ◌%◌, Bool, true, false, cond, List, [], ◌∷◌, ◌++◌, codes, ◌==◌, nat_le, nat_lt}
use Rattle.std.specs.List.{flat_map}
use Rattle.std.specs.Fmt.{signed_decimal}
use Rattle.packets.specs.Osc.{Value, number, text, blob, Content, Means}
use Rattle.packets.specs.Read.{Meaningless}

-- a hexadecimal digit: 0 to 9, then a to f
abbrev pub hex_digit : ℕ → ℕ
hex_digit d = cond (nat_lt d 10) (48 + d) (87 + d)

-- a byte in two hexadecimal digits
abbrev pub hex_byte : ℕ → List ℕ
hex_byte b = hex_digit (b / 16) ∷ hex_digit (b % 16) ∷ []

-- '"' and '\' stand behind a '\'
abbrev pub marked : ℕ → Bool
marked b = cond (b == 34) true (b == 92)

-- a byte from low to 126 stands as itself
abbrev pub itself : ℕ → ℕ → Bool
itself low b = cond (nat_le low b) (nat_lt b 127) false

-- a byte of a string: behind a '\', or as itself, or as '\x' and two digits
unfoldable pub char_bytes : ℕ → ℕ → List ℕ
char_bytes low b = cond (marked b) (92 ∷ b ∷ []) (cond (itself low b) (b ∷ []) (92 ∷ 120 ∷ hex_byte b))

-- an argument: a number in decimal, a text in quotes, a blob as 0x and its digits
abbrev pub value_bytes : Value → List ℕ
value_bytes (number z) = signed_decimal z
value_bytes (text s) = 34 ∷ (flat_map (char_bytes 32) s ++ (34 ∷ []))
value_bytes (blob b) = 48 ∷ 120 ∷ flat_map hex_byte b

-- an argument behind a space
abbrev pub argument_bytes : Value → List ℕ
argument_bytes v = 32 ∷ value_bytes v

-- a message: its address, in which a space is shown as '\x20', and its arguments
abbrev pub message_line : Content → List ℕ
message_line c = flat_map (char_bytes 33) c.address ++ flat_map argument_bytes c.arguments

-- a packet: its message, or its refusal, with the number and then some words
pub record Shows (packet line : List ℕ) : Type 0 where
  pub message : (c : Content) → Means c packet → line ≡ message_line c
  pub refusal : Meaningless packet → (words : List ℕ) × (line ≡ codes "refused 8: " ++ words)
