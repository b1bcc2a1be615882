-- What a packet asks of the console. The checks come in this order: the layout, the address, the tags with the take or the script, the word.
use Rattle.std.specs.Prelude.{◌≡◌, ℕ, List, Ok, Err, codes, Result, ◌≢◌}
use Rattle.refusals.specs.declared.Refusal.{Refusal}
use Rattle.refusals.specs.declared.Refusal.TheVariants.{BrokenLayout, UnknownAddress}
use Rattle.packets.specs.Osc.{Content, Encoding}
use Rattle.words.specs.declared.gate.Gate.{Gate}
use Rattle.words.specs.Gates.{gate_word}
use Rattle.hall.specs.declared.call.Call.{Call as HallCall}
use Rattle.play.specs.declared.name.Name.{Name}
use Rattle.play.specs.Names.{address_of}
use Rattle.play.specs.Asks.{call_of}
use Rattle.console_hall.specs.declared.order.Order.{Order}
use Rattle.console_hall.specs.declared.order.Order.TheVariants.{Make, Call}
use Rattle.console_hall.specs.Making.{Asked, wanted, making_of}

-- the address of a message that makes a hall
abbrev pub make_address : List ℕ
make_address = codes "/hall/make"

-- a making, or a call
pub data Wanted : Type 0 where
  Makes : Asked → Wanted
  Calls : HallCall Gate → Wanted

abbrev pub as_making : Result Asked Refusal → Result Wanted Refusal
as_making (Ok a) = Ok (Makes a)
as_making (Err e) = Err e

abbrev pub as_call : Result (HallCall Gate) Refusal → Result Wanted Refusal
as_call (Ok c) = Ok (Calls c)
as_call (Err e) = Err e

-- what was found, by the bytes behind its references
abbrev pub order_in : Result Order Refusal → Result Wanted Refusal
order_in (Ok (Make m)) = Ok (Makes (wanted m))
order_in (Ok (Call c)) = Ok (Calls c)
order_in (Err e) = Err e

-- what the packet asks for, or its refusal
pub record Orders (packet : List ℕ) (r : Result Wanted Refusal) : Type 0 where
  pub broken : ((m : Content) → Encoding m packet → ⊥) → r ≡ Err BrokenLayout
  pub making : (m : Content) → Encoding m packet → m.address ≡ make_address → r ≡ as_making (making_of m.arguments)
  pub known : (m : Content) (c : Name) → Encoding m packet → m.address ≡ address_of c → r ≡ as_call (call_of gate_word c m.arguments)
  pub unknown : (m : Content) → Encoding m packet → (m.address ≢ make_address) → ((c : Name) → m.address ≢ address_of c) → r ≡ Err UnknownAddress
