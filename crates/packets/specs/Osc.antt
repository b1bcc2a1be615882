-- A message of OSC 1.0: what it says, and when bytes are an encoding of it. Assumes nothing.
use Rattle.std.specs.Prelude.{◌≡◌, ℕ, ◌+◌, ◌/◌, ◌%◌, ◌<◌, ◌≤◌, List, [], ◌∷◌, ◌++◌, map, length, ℤ, pos, FitsSigned, slice_index, slice_index_or}
use Rattle.std.specs.Int.{w32}
use Rattle.std.proofs.Common.{of_z}
use Rattle.std.specs.List.{AllByRecursion}

-- an argument: a number, or a text or a blob with its bytes
pub data Value : Type 0 where
  number : ℤ → Value
  text : List ℕ → Value
  blob : List ℕ → Value

-- what a message says: its address and its arguments
pub record Content : Type 0 where
  pub address : List ℕ
  pub arguments : List Value

-- the type tag of an argument: 'i', 's' or 'b'
abbrev pub tag : Value → ℕ
tag (number z) = 105
tag (text s) = 115
tag (blob b) = 98

-- a string may hold every byte but zero, which ends it
abbrev pub TextByte : ℕ → Type 0
TextByte b = b ≡ 0 → ⊥

-- a fill byte may be any byte
abbrev pub FillByte : ℕ → Type 0
FillByte b = Unit {0}

-- every byte of s may stand in a string
abbrev pub Plain : List ℕ → Type 0
Plain s = (k : ℕ) → k < length s → TextByte (slice_index s k)

-- bs begins with part and with fill bytes up to a multiple of 4, and rest stands behind them
pub record Filled (part bs rest : List ℕ) : Type 0 where
  pub fill : List ℕ
  pub split : bs ≡ part ++ (fill ++ rest)
  pub few : length fill < 4
  pub whole : (length part + length fill) % 4 ≡ 0
  pub each : AllByRecursion FillByte fill

-- an OSC-string: its bytes, a zero byte, fill bytes
pub record TextOf (s bs rest : List ℕ) : Type 0 where
  pub filled : Filled (s ++ (0 ∷ [])) bs rest
  pub plain : Plain s

-- four bytes, the highest first
abbrev pub word : ℕ → List ℕ
word n = (n / 16777216 % 256) ∷ (n / 65536 % 256) ∷ (n / 256 % 256) ∷ (n % 256) ∷ []

-- an int32: four bytes, in two's complement
pub record NumberOf (z : ℤ) (bs rest : List ℕ) : Type 0 where
  pub split : bs ≡ word (of_z w32 z) ++ rest
  pub fits : FitsSigned w32 z

-- an OSC-blob: an int32 that says how many bytes it has, the bytes, fill bytes
pub record BlobOf (b bs rest : List ℕ) : Type 0 where
  pub behind : List ℕ
  pub size : NumberOf (pos (length b)) bs behind
  pub filled : Filled b behind rest

-- bs begins with the argument, and rest stands behind it
abbrev pub Field : Value → List ℕ → List ℕ → Type 0
Field (number z) bs rest = NumberOf z bs rest
Field (text s) bs rest = TextOf s bs rest
Field (blob b) bs rest = BlobOf b bs rest

-- bs is these arguments, one behind another, and no more
abbrev pub Fields : List Value → List ℕ → Type 0
Fields [] bs = bs ≡ []
Fields (v ∷ vs) bs = (rest : List ℕ) × (Field v bs rest × Fields vs rest)

-- bs is an encoding of the message m: its address, which begins with '/', the type tag
-- string, a ',' and a tag for each argument, then the arguments; at most 4,096 bytes
pub record Encoding (m : Content) (bs : List ℕ) : Type 0 where
  pub behind : List ℕ
  pub body : List ℕ
  pub slash : slice_index_or m.address 0 0 ≡ 47
  pub address : TextOf m.address bs behind
  pub tags : TextOf (44 ∷ map tag m.arguments) behind body
  pub arguments : Fields m.arguments body
  pub short : length bs ≤ 4096

-- bs is an encoding of m, and of no other message
pub record Means (m : Content) (bs : List ℕ) : Type 0 where
  pub encoding : Encoding m bs
  pub only : (k : Content) → Encoding k bs → k ≡ m
