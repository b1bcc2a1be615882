-- What a packet does to a hall, and what is replied.
use Rattle.std.specs.Prelude.{◌≡◌, ℕ, List, [], ◌∷◌, ◌++◌, Ok, Err, Result}
use Rattle.refusals.specs.declared.Refusal.{Refusal}
use Rattle.rigs.specs.declared.Wire as wires
use Rattle.rigs.specs.declared.Rig as rigs
use Rattle.rules.specs.declared.Rule as rules
use Rattle.words.specs.declared.WordKind as kinds
use Rattle.agreement.specs.declared.stage.Answer.{Answer}
use Rattle.agreement.specs.declared.stage.Answer.TheVariants.{Done, Word, Lit}
use Rattle.agreement.specs.Made.{meaning_of}
use Rattle.agreement.specs.Calls.{next, reply, sheet_after}
use Rattle.agreement.specs.Calls.{Call as Asked}
use Rattle.agreement.specs.Agreement.{Agrees}
use Rattle.hall.specs.declared.call.Call.{Call}
use Rattle.hall.specs.declared.call.Call.TheVariants.{Open, Round, Strike, Mark, Clear, Read, Lamp}
use Rattle.hall.specs.Halls.{Model, meant, put, asked}
use Rattle.hall.specs.Histories.{Had}
use Rattle.play.specs.declared.reply.Told.{Told}
use Rattle.play.specs.declared.reply.Told.TheVariants.{Done as done, Word as told_word, Lamp as told_lamp}
use Rattle.play.specs.Asks.{Asks}
use Rattle.play.specs.Replies.{Reply, content_in, Framed, NoRoom}

-- the station that a call asks about, 0 where it asks about none
abbrev pub station_in : {K : Type 0} → Call K → ℕ
station_in (Open take caller word) = 0
station_in Round = 0
station_in Strike = 0
station_in (Mark p) = 0
station_in (Clear p) = 0
station_in (Read p) = p
station_in (Lamp p) = p

-- the reply to a call that was answered so
abbrev pub reply_to : {K : Type 0} → (K → ℕ) → Call K → Result (Answer K) Refusal → Reply
reply_to code c (Ok Done) = Ok done
reply_to code c (Ok (Word w)) = Ok (told_word (station_in c) (code w))
reply_to code c (Ok (Lit x)) = Ok (told_lamp (station_in c) x)
reply_to code c (Err e) = Err e

-- the same of a call by an answer that it can have: only a read answers a word, and only a question for a lamp 1 or 0
abbrev pub told_of : {K : Type 0} → (K → ℕ) → Call K → Answer K → Told
told_of code (Read p) (Word w) = told_word p (code w)
told_of code (Lamp p) (Lit x) = told_lamp p x
told_of code _ _ = done

-- the calls that are made where a packet asks so: one, or none where it is refused
abbrev pub calls_of : {K : Type 0} → Result (Call K) Refusal → List ℕ → List (Asked K)
calls_of (Ok c) sheet = asked c sheet ∷ []
calls_of (Err e) sheet = []

module _ {R Q K : Type 0} (v : wires.Ghosts R) (g : rigs.Ghosts R) (q : rules.Ghosts Q) (k : kinds.Ghosts K) where
  -- the hall, the sheet and the reply where a packet asks so: a refused packet changes nothing
  abbrev pub hall_for : Model R Q K → List ℕ → Result (Call K) Refusal → Model R Q K
  hall_for x sheet (Ok c) = put x (next (meant v g q k x) x.state (asked c sheet))
  hall_for x sheet (Err e) = x

  abbrev pub sheet_for : Model R Q K → List ℕ → Result (Call K) Refusal → List ℕ
  sheet_for x sheet (Ok c) = sheet_after (meant v g q k x) x.state (asked c sheet) sheet
  sheet_for x sheet (Err e) = sheet

  abbrev pub reply_for : Model R Q K → List ℕ → Result (Call K) Refusal → Reply
  reply_for x sheet (Ok c) = reply_to k.code c (reply (meant v g q k x) x.state (asked c sheet))
  reply_for x sheet (Err e) = Err e

  -- whatever calls led to x, these and those that are made lead to y, and the stations agree after them
  abbrev pub Follows : Model R Q K → List (Asked K) → Model R Q K → Type 0
  Follows x made y =
      (rig : R) (rule : Q) (rest : K) (h : List (Asked K)) → Had v g q k rig rule rest x h
      → Had v g q k rig rule rest y (made ++ h) × Agrees (meaning_of v g q k rig rule rest) (made ++ h)

  -- the packet, given to the hall x with a sheet, leaves the hall y and this on the sheet, and gets this reply
  pub record Answered (packet : List ℕ) (x : Model R Q K) (given : List ℕ) (y : Model R Q K) (left : List ℕ) (r : Reply) : Type 0 where
    pub asks : Result (Call K) Refusal
    pub by : Asks k.word packet asks
    pub hall : y ≡ hall_for x given asks
    pub sheet : left ≡ sheet_for x given asks
    pub reply : r ≡ reply_for x given asks
    pub history : Follows x (calls_of asks given) y

  -- so it was played, and the reply was written to the front of the buffer, n bytes with its size
  pub record Plays (packet : List ℕ) (x : Model R Q K) (given before : List ℕ) (y : Model R Q K) (left after : List ℕ) (n : ℕ) : Type 0 where
    pub replied : Reply
    pub answered : Answered packet x given y left replied
    pub written : Framed (content_in replied) before after n

-- the buffer has no room for every reply: hall, sheet and buffer are as they were
pub record Unplayed {R Q K : Type 0} (x : Model R Q K) (given before : List ℕ) (y : Model R Q K) (left after : List ℕ) (e : Refusal) : Type 0 where
  pub room : NoRoom before after e
  pub hall : y ≡ x
  pub sheet : left ≡ given
