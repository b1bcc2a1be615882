-- What the console does with what a packet asks for.
use Rattle.std.specs.Prelude.{◌≡◌, ℕ, ◌<◌, ◌≤◌, ◌⊎◌, List, [], length, Some, None, Ok, Err, vec_items, option_map, Option, Result}
use Rattle.refusals.specs.declared.Refusal.{Refusal}
use Rattle.refusals.specs.declared.Refusal.TheVariants.{NotMade, AlreadyMade, UnlawfulRule}
use Rattle.rules.specs.declared.count.CountRule.{CountRule}
use Rattle.rules.specs.Count.{CountMade}
use Rattle.rig_kinds.specs.declared.script.ScriptRig.{ScriptRig}
use Rattle.words.specs.declared.gate.Gate.{Gate}
use Rattle.agreement.specs.Calls.{next, reply, sheet_after}
use Rattle.hall.specs.declared.call.Call.{Call}
use Rattle.hall.specs.Halls.{Model, model, meant, put, asked}
use Rattle.hall.specs.Histories.{Had, Continues}
use Rattle.play.specs.declared.reply.Told.TheVariants.{Done}
use Rattle.play.specs.Replies.{Reply, content_in, Framed}
use Rattle.play.specs.Plays.{reply_to}
use Rattle.console_hall.specs.declared.console.Console.{Console}
use Rattle.console_hall.specs.declared.console.serving.Stop.{Stop}
use Rattle.console_hall.specs.declared.console.serving.Stop.TheVariants.{NoRoom, NoMemory}
use Rattle.console_hall.specs.Making.{Asked, entries_in}
use Rattle.console_hall.specs.Orders.{Wanted, Makes, Calls, Orders}
use Rattle.console_hall.specs.Parts.{wire, trio, count, gates}

-- the console's hall
abbrev pub Hall : Type 0
Hall = Model ScriptRig CountRule Gate

-- the hall that the console has, if any
abbrev pub hall_in : Console → Option Hall
hall_in c = option_map model c.hall

-- a new hall, as it was asked for: its script rig has the entries, its count rule n and t, and no call was made on it
pub record New (a : Asked) (x : Hall) : Type 0 where
  pub rig : ScriptRig
  pub rule : CountRule
  pub entries : vec_items rig.list ≡ entries_in a.bytes
  pub stations : rule.n ≡ a.n
  pub broken : rule.t ≡ a.t
  pub had : Had wire trio count gates rig rule a.rest x []

-- a making: refused where there is a hall, then where the numbers make no rule; else there is a new hall
abbrev pub Made : Asked → Option Hall → Option Hall → Reply → Type 0
Made a (Some x) y r = (y ≡ Some x) × (r ≡ Err AlreadyMade)
Made a None y r =
    ((CountMade a.n a.t → ⊥) × (y ≡ None) × (r ≡ Err UnlawfulRule))
    ⊎ (CountMade a.n a.t × (r ≡ Ok Done) × ((x : Hall) × ((y ≡ Some x) × New a x)))

-- a call: refused where there is no hall; else made on it
pub record OnHall (c : Call Gate) (x : Hall) (given : List ℕ) (y : Hall) (left : List ℕ) (r : Reply) : Type 0 where
  pub hall : y ≡ put x (next (meant wire trio count gates x) x.state (asked c given))
  pub sheet : left ≡ sheet_after (meant wire trio count gates x) x.state (asked c given) given
  pub reply : r ≡ reply_to gates.code c (reply (meant wire trio count gates x) x.state (asked c given))
  pub history : Continues wire trio count gates x (asked c given) y

abbrev pub Performed : Call Gate → Option Hall → List ℕ → Option Hall → List ℕ → Reply → Type 0
Performed c None given y left r = (y ≡ None) × (left ≡ given) × (r ≡ Err NotMade)
Performed c (Some x) given y left r = (z : Hall) × ((y ≡ Some z) × OnHall c x given z left r)

-- what a packet asks for is done, or it is refused and nothing is changed
abbrev pub DoneAs : Result Wanted Refusal → Option Hall → List ℕ → Option Hall → List ℕ → Reply → Type 0
DoneAs (Ok (Makes a)) x given y left r = Made a x y r × (left ≡ given)
DoneAs (Ok (Calls c)) x given y left r = Performed c x given y left r
DoneAs (Err e) x given y left r = (y ≡ x) × (left ≡ given) × (r ≡ Err e)

-- the packet, given to a console with the hall x, if any, and a sheet, leaves it with y, and this on the sheet, and gets this reply
pub record Answered (packet : List ℕ) (x : Option Hall) (given : List ℕ) (y : Option Hall) (left : List ℕ) (r : Reply) : Type 0 where
  pub asks : Result Wanted Refusal
  pub by : Orders packet asks
  pub done : DoneAs asks x given y left r

-- so it was served, and the reply was written to the front of the buffer, n bytes with its size
pub record Serves (packet : List ℕ) (x : Option Hall) (given before : List ℕ) (y : Option Hall) (left after : List ℕ) (n : ℕ) : Type 0 where
  pub replied : Reply
  pub answered : Answered packet x given y left replied
  pub written : Framed (content_in replied) before after n

-- it was not: the buffer has under 28 bytes, or there is no memory; everything is as it was
abbrev pub Reason : Stop → List ℕ → Type 0
Reason NoRoom before = length before < 28
Reason NoMemory before = 28 ≤ length before

pub record Stopped (x : Option Hall) (given before : List ℕ) (y : Option Hall) (left after : List ℕ) (e : Stop) : Type 0 where
  pub reason : Reason e before
  pub hall : y ≡ x
  pub sheet : left ≡ given
  pub buffer : after ≡ before
