-- What the reader answers, by the bytes behind its references. Assumes nothing.
use Rattle.std.specs.Borrow.{Bor}
use Rattle.std.specs.Prelude.{◌≡◌, ℕ, ◌+◌, ◌*◌, ◌%◌, ◌<◌, List, map, length, Result, MatchResult, slice_index, slice_index_or}
use Rattle.refusals.specs.declared.Refusal.{Refusal}
use Rattle.refusals.specs.declared.Refusal.TheVariants.{BrokenLayout}
use Rattle.packets.specs.Osc.{Value, number, text, blob, tag, TextByte, Fields, Content, Encoding, Means}
use Rattle.packets.specs.Encode.{encode}
use Rattle.packets.specs.declared.message.Message.{Message}
use Rattle.packets.specs.declared.fields.Argument.{Argument}
use Rattle.packets.specs.declared.fields.Argument.TheVariants.{Number, Text, Blob}

-- the argument that the enum stands for, where bytes says what its texts and blobs are
abbrev pub value_by : {B : Type 0} → (B → List ℕ) → Argument B → Value
value_by bytes (Number z) = number z
value_by bytes (Text b) = text (bytes b)
value_by bytes (Blob b) = blob (bytes b)

-- the argument that the reader answers
abbrev pub value : Argument (Bor (List ℕ)) → Value
value a = value_by (λ s. s.now) a

-- the number that four bytes write, the highest first
abbrev pub unword : List ℕ → ℕ
unword bs = slice_index bs 0 * 16777216 + slice_index bs 1 * 65536 + slice_index bs 2 * 256 + slice_index bs 3

-- bs begins with the byte b
pub record Begins (b : ℕ) (bs : List ℕ) : Type 0 where
  pub first : slice_index_or bs 0 0 ≡ b
  pub some : 0 < length bs

-- the first zero byte of bs stands at n
pub record Ends (bs : List ℕ) (n : ℕ) : Type 0 where
  pub before : (k : ℕ) → k < n → TextByte (slice_index bs k)
  pub found : slice_index_or bs n 0 ≡ 0
  pub within : n < length bs

-- ts are the type tags, and bs the bytes, of the arguments vs
pub record Holds (ts bs : List ℕ) (vs : List Value) : Type 0 where
  pub tags : map tag vs ≡ ts
  pub fields : Fields vs bs

-- the arguments that a message has still to give
abbrev pub Left : Message → List Value → Type 0
Left m vs = Holds m.tags.now m.fields.now vs

-- how many those are
abbrev pub left_count : Message → ℕ
left_count m = length m.tags.now

-- m says c, and has all arguments still to give
pub record Says (m : Message) (c : Content) : Type 0 where
  pub address : m.address.now ≡ c.address
  pub left : Left m c.arguments

-- m is read from the packet: it says the one message that the packet is an encoding of, and
-- the packet is as long as what is written for that message, a multiple of 4
pub record Reads (packet : List ℕ) (m : Message) : Type 0 where
  pub content : Content
  pub means : Means content packet
  pub says : Says m content
  pub whole : length packet % 4 ≡ 0
  pub len : length packet ≡ length (encode content)

-- no message has the packet as an encoding
abbrev pub Meaningless : List ℕ → Type 0
Meaningless packet = (c : Content) → Encoding c packet → ⊥

-- what reading a packet answers: its message, or 8 where there is none
abbrev pub Answers : List ℕ → Result Message Refusal → Type 0
Answers packet r = MatchResult r (Reads packet) (λ e. (e ≡ BrokenLayout) × Meaningless packet)
