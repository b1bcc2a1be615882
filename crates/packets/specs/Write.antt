-- What the writer's list of entries means, and what writing leaves in a buffer. Assumes nothing.
use Rattle.std.specs.Prelude.{◌≡◌, ℕ, ◌+◌, ◌<◌, ◌≤◌, ◌⊎◌, List, ◌++◌, map, length, take, drop, Result, MatchResult}
use Rattle.std.specs.List.{between, AllByRecursion}
use Rattle.refusals.specs.declared.Refusal.{Refusal}
use Rattle.refusals.specs.declared.Refusal.TheVariants.{BrokenLayout, BufferTooShort}
use Rattle.packets.specs.Osc.{Value, Field, Content, Encoding, Means}
use Rattle.packets.specs.Encode.{field_bytes, encode}
use Rattle.packets.specs.Read.{value_by, Says, Answers}
use Rattle.packets.specs.declared.message.Message.{Message}
use Rattle.packets.specs.declared.fields.Argument.{Argument}
use Rattle.packets.specs.declared.fields.Argument.TheVariants.{Number, Text, Blob}
use Rattle.packets.specs.declared.entries.Place.{Place}

-- an argument to be written: a text or a blob is a place in the lent bytes
abbrev pub Entry : Type 0
Entry = Argument Place

-- the argument that an entry names: a number, or the bytes from a place of the lent bytes
abbrev pub entry_value : List ℕ → Entry → Value
entry_value lent e = value_by (λ p. between p.from p.to lent) e

-- the type tag of an argument, as of an entry
abbrev pub letter_of : {B : Type 0} → Argument B → ℕ
letter_of (Number z) = 105
letter_of (Text b) = 115
letter_of (Blob b) = 98

-- the bytes of an entry's argument
abbrev pub entry_bytes : List ℕ → Entry → List ℕ
entry_bytes lent e = field_bytes (entry_value lent e)

-- the entry's place lies in the lent bytes
abbrev pub Inside : List ℕ → Entry → Type 0
Inside lent (Number z) = Unit {0}
Inside lent (Text p) = (p.from ≤ p.to) × (p.to ≤ length lent)
Inside lent (Blob p) = (p.from ≤ p.to) × (p.to ≤ length lent)

-- so does each entry's
abbrev pub Placed : List ℕ → List Entry → Type 0
Placed lent es = AllByRecursion (Inside lent) es

-- the message that an address and a list of entries mean
abbrev pub content_of : List ℕ → List ℕ → List Entry → Content
content_of address lent es = record { address = address; arguments = map (entry_value lent) es }

-- the bytes of v begin with v, whatever stands behind them
abbrev pub Encodable : Value → Type 0
Encodable v = (rest : List ℕ) → Field v (field_bytes v ++ rest) rest

-- the entry's place lies in the lent bytes, and its argument can be written
abbrev pub Sendable : List ℕ → Entry → Type 0
Sendable lent e = Inside lent e × Encodable (entry_value lent e)

-- xs with bs written at place at
unfoldable pub over : List ℕ → ℕ → List ℕ → List ℕ
over xs at bs = take at xs ++ (bs ++ drop (at + length bs) xs)

-- whatever reading the packet answers, it is a message that says c
abbrev pub ReadsAs : List ℕ → Content → Type 0
ReadsAs packet c = (r : Result Message Refusal) → Answers packet r → MatchResult r (λ m. Says m c) (λ _. ⊥)

-- n bytes were written: they are the message that is meant, which begins the buffer, and
-- behind them the buffer is as it was
pub record Written (address lent : List ℕ) (es : List Entry) (before after : List ℕ) (n : ℕ) : Type 0 where
  pub placed : Placed lent es
  pub len : n ≡ length (encode (content_of address lent es))
  pub bytes : after ≡ encode (content_of address lent es) ++ drop n before
  pub means : Means (content_of address lent es) (take n after)

-- 8: a place lies outside the lent bytes, or no bytes are an encoding of the message
abbrev pub Broken : List ℕ → List ℕ → List Entry → Type 0
Broken address lent es = Placed lent es → (bs : List ℕ) → Encoding (content_of address lent es) bs → ⊥

-- 4: there is such a message, and the buffer is shorter than it
pub record Short (address lent : List ℕ) (es : List Entry) (before : List ℕ) : Type 0 where
  pub placed : Placed lent es
  pub encoding : Encoding (content_of address lent es) (encode (content_of address lent es))
  pub bound : length before < length (encode (content_of address lent es))

-- the message is refused with e, and the buffer is as it was
pub record Refused (address lent : List ℕ) (es : List Entry) (before after : List ℕ) (e : Refusal) : Type 0 where
  pub cause : ((e ≡ BrokenLayout) × Broken address lent es) ⊎ ((e ≡ BufferTooShort) × Short address lent es before)
  pub same : after ≡ before
