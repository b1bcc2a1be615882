-- What a message that makes a hall asks for.
use Rattle.std.specs.Prelude.{ℕ, ◌+◌, ◌*◌, ◌/◌, ◌%◌, Bool, cond, List, [], ◌∷◌, map, length, ℤ, Some, None, Ok, Err, Option, Result, ◌==◌, slice_index}
use Rattle.std.specs.List.{range_with_len}
use Rattle.refusals.specs.declared.Refusal.{Refusal}
use Rattle.refusals.specs.declared.Refusal.TheVariants.{WrongTags, OddScript, NoWord}
use Rattle.packets.specs.Osc.{Value, number, text, blob}
use Rattle.words.specs.declared.gate.Gate.{Gate}
use Rattle.words.specs.Gates.{gate_word}
use Rattle.play.specs.Numbers.{station_in, word_in}
use Rattle.console_hall.specs.declared.making.Arguments.{Arguments}
use Rattle.console_hall.specs.declared.making.Making.{Making}

-- three numbers and a blob
pub record Four : Type 0 where
  pub n : ℤ
  pub t : ℤ
  pub rest : ℤ
  pub bytes : List ℕ

-- what is asked for: n, t, the rest word, and the bytes of the script
pub record Asked : Type 0 where
  pub n : ℕ
  pub t : ℕ
  pub rest : Gate
  pub bytes : List ℕ

-- the arguments that were found, and the making, by the bytes behind their references
abbrev pub in_message : Arguments → Four
in_message a = record { n = a.n; t = a.t; rest = a.rest; bytes = a.script.now }

abbrev pub wanted : Making → Asked
wanted m = record { n = m.n; t = m.t; rest = m.rest; bytes = m.script.now }

-- the blob that comes first, if one does
abbrev pub head_blob : List Value → Option (List ℕ)
head_blob [] = None
head_blob (number z ∷ vs) = None
head_blob (text s ∷ vs) = None
head_blob (blob b ∷ vs) = Some b

-- three numbers and a blob that are all arguments, if so
abbrev pub last_blob : ℤ → ℤ → ℤ → List Value → Option Four
last_blob n t rest [] = None
last_blob n t rest (number z ∷ vs) = None
last_blob n t rest (text s ∷ vs) = None
last_blob n t rest (blob b ∷ []) = Some (record { n = n; t = t; rest = rest; bytes = b })
last_blob n t rest (blob b ∷ v ∷ vs) = None

abbrev pub third_then : ℤ → ℤ → List Value → Option Four
third_then n t [] = None
third_then n t (number z ∷ vs) = last_blob n t z vs
third_then n t (text s ∷ vs) = None
third_then n t (blob b ∷ vs) = None

abbrev pub second_then : ℤ → List Value → Option Four
second_then n [] = None
second_then n (number z ∷ vs) = third_then n z vs
second_then n (text s ∷ vs) = None
second_then n (blob b ∷ vs) = None

abbrev pub four_arguments : List Value → Option Four
four_arguments [] = None
four_arguments (number z ∷ vs) = second_then z vs
four_arguments (text s ∷ vs) = None
four_arguments (blob b ∷ vs) = None

-- a byte of the script is left over
abbrev pub is_odd : ℕ → Bool
is_odd bytes = bytes % 2 == 1

-- a making, if the rest word's code is one
abbrev pub with_rest : Four → Option Gate → Result Asked Refusal
with_rest a (Some w) = Ok (record { n = station_in a.n; t = station_in a.t; rest = w; bytes = a.bytes })
with_rest a None = Err NoWord

-- what these arguments ask for: other tags are refused first, then an odd script, then a number that is no word
abbrev pub making_from : Option Four → Result Asked Refusal
making_from None = Err WrongTags
making_from (Some a) = cond (is_odd (length a.bytes)) (Err OddScript) (with_rest a (word_in gate_word a.rest))

abbrev pub making_of : List Value → Result Asked Refusal
making_of vs = making_from (four_arguments vs)

-- the entries that bytes are, two bytes each, the high one first
abbrev pub entry_at : List ℕ → ℕ → ℕ
entry_at bytes i = 256 * slice_index bytes (2 * i) + slice_index bytes (2 * i + 1)

abbrev pub entries_in : List ℕ → List ℕ
entries_in bytes = map (entry_at bytes) (range_with_len 0 (length bytes / 2))
