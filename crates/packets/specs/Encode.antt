-- The bytes that are written for a message. Assumes nothing.
use Rattle.std.specs.Prelude.{ℕ, ◌-◌, ◌%◌, List, [], ◌∷◌, ◌++◌, map, length, replicate}
use Rattle.std.specs.Int.{w32}
use Rattle.std.proofs.Common.{of_z}
use Rattle.std.specs.List.{flat_map}
use Rattle.packets.specs.Osc.{Value, number, text, blob, tag, word, Content}

-- how many fill bytes stand behind n bytes
abbrev pub fill_len : ℕ → ℕ
fill_len n = (4 - n % 4) % 4

-- part, then zero bytes up to a multiple of 4
unfoldable pub filled_bytes : List ℕ → List ℕ
filled_bytes part = part ++ replicate (fill_len (length part)) 0

-- the string s, its zero byte, then zero bytes up to a multiple of 4
unfoldable pub text_bytes : List ℕ → List ℕ
text_bytes s = filled_bytes (s ++ (0 ∷ []))

-- how many bytes b has, b, then zero bytes up to a multiple of 4
unfoldable pub blob_bytes : List ℕ → List ℕ
blob_bytes b = word (length b) ++ filled_bytes b

-- the bytes of an argument
abbrev pub field_bytes : Value → List ℕ
field_bytes (number z) = word (of_z w32 z)
field_bytes (text s) = text_bytes s
field_bytes (blob b) = blob_bytes b

-- the bytes of a message, every fill byte zero
unfoldable pub encode : Content → List ℕ
encode m = text_bytes m.address ++ (text_bytes (44 ∷ map tag m.arguments) ++ flat_map field_bytes m.arguments)
