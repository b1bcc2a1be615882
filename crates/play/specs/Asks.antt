-- What a packet asks of a hall. The checks come in this order: the layout, the address, the tags and the take, the word.
use Rattle.std.specs.Prelude.{◌≡◌, ℕ, List, [], ◌∷◌, ℤ, Some, None, Ok, Err, Option, Result, ◌≢◌}
use Rattle.refusals.specs.declared.Refusal.{Refusal}
use Rattle.refusals.specs.declared.Refusal.TheVariants.{BrokenLayout, UnknownAddress, WrongTags, TakeOutOfRange, NoWord}
use Rattle.packets.specs.Osc.{Value, Content, Encoding}
use Rattle.hall.specs.declared.call.Call.{Call}
use Rattle.hall.specs.declared.call.Call.TheVariants.{Open as opens, Round as runs, Strike as strikes, Mark as marks, Clear as clears, Read as reads, Lamp as asks_lamp}
use Rattle.play.specs.declared.name.Name.{Name}
use Rattle.play.specs.declared.name.Name.TheVariants.{Open, Round, Strike, Mark, Clear, Read, Lamp}
use Rattle.play.specs.Numbers.{short_in, station_in, word_in}
use Rattle.play.specs.Names.{address_of}
use Rattle.play.specs.Arguments.{one_number, three_numbers}

-- a call where there is no argument
abbrev pub bare_of : {K : Type 0} → List Value → Call K → Result (Call K) Refusal
bare_of [] c = Ok c
bare_of (v ∷ vs) c = Err WrongTags

-- the station that is the one argument
abbrev pub station_from : Option ℤ → Result ℕ Refusal
station_from (Some z) = Ok (station_in z)
station_from None = Err WrongTags

abbrev pub one_station : List Value → Result ℕ Refusal
one_station vs = station_from (one_number vs)

-- a call with the station, or the refusal
abbrev pub on_station : {K : Type 0} → Result ℕ Refusal → (ℕ → Call K) → Result (Call K) Refusal
on_station (Ok p) c = Ok (c p)
on_station (Err e) c = Err e

-- an opening by take, caller and word
abbrev pub open_with : {K : Type 0} → Option ℕ → ℕ → Option K → Result (Call K) Refusal
open_with None caller word = Err TakeOutOfRange
open_with (Some take) caller None = Err NoWord
open_with (Some take) caller (Some word) = Ok (opens take caller word)

module _ {K : Type 0} (word : ℕ → Option K) where
  -- an opening by three numbers
  abbrev pub open_of : Option (ℤ × ℤ × ℤ) → Result (Call K) Refusal
  open_of None = Err WrongTags
  open_of (Some t) = open_with (short_in t.0) (station_in t.1) (word_in word t.2)

  -- the call of this name with these arguments, or the refusal
  abbrev pub call_of : Name → List Value → Result (Call K) Refusal
  call_of Open vs = open_of (three_numbers vs)
  call_of Round vs = bare_of vs runs
  call_of Strike vs = bare_of vs strikes
  call_of Mark vs = on_station (one_station vs) marks
  call_of Clear vs = on_station (one_station vs) clears
  call_of Read vs = on_station (one_station vs) reads
  call_of Lamp vs = on_station (one_station vs) asks_lamp

  -- the packet asks for a call, or is refused: one that is no message, then one whose address names no call, then by its arguments
  pub record Asks (packet : List ℕ) (r : Result (Call K) Refusal) : Type 0 where
    pub broken : ((m : Content) → Encoding m packet → ⊥) → r ≡ Err BrokenLayout
    pub unknown : (m : Content) → Encoding m packet → ((c : Name) → m.address ≢ address_of c) → r ≡ Err UnknownAddress
    pub known : (m : Content) (c : Name) → Encoding m packet → m.address ≡ address_of c → r ≡ call_of c m.arguments
