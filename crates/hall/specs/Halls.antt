-- A hall as a reader sees it, and its calls as the definitions speak of them.
use Rattle.std.specs.Prelude.{ℕ, List, Ok, Err, Result}
use Rattle.refusals.specs.declared.Refusal.{Refusal}
use Rattle.rigs.specs.declared.Wire as wires
use Rattle.rigs.specs.declared.Rig as rigs
use Rattle.rules.specs.declared.Rule as rules
use Rattle.words.specs.declared.WordKind as kinds
use Rattle.agreement.specs.declared.stage.Answer.{Answer}
use Rattle.agreement.specs.declared.stage.Answer.TheVariants.{Word, Lit}
use Rattle.agreement.specs.Meanings.{Meaning}
use Rattle.agreement.specs.Made.{meaning_of}
use Rattle.agreement.specs.Calls.{State}
use Rattle.agreement.specs.Calls.{Call as Asked, Open as asks_open, Round as asks_round, Strike as asks_strike, Mark as asks_mark, Clear as asks_clear, Read as asks_read, Lamp as asks_lamp}
use Rattle.hall.specs.declared.parts.Hall.{Hall}
use Rattle.hall.specs.declared.call.Call.{Call}
use Rattle.hall.specs.declared.call.Call.TheVariants.{Open, Round, Strike, Mark, Clear, Read, Lamp}

-- what a hall is made of, and where it stands
pub record Model (R Q K : Type 0) : Type 0 where
  pub rig : R
  pub rule : Q
  pub rest : K
  pub state : State

-- the fields of a hall
abbrev pub model : {R Q K : Type 0} → Hall R Q K → Model R Q K
model h =
    record { rig = h.rig; rule = h.rule; rest = h.rest; state = record { stage = h.state.stage; broken = h.state.broken; held = h.state.held; lit = h.state.lamps } }

-- the meanings of its parts
abbrev pub meant : {R Q K : Type 0} → wires.Ghosts R → rigs.Ghosts R → rules.Ghosts Q → kinds.Ghosts K → Model R Q K → Meaning K
meant v g q k x = meaning_of v g q k x.rig x.rule x.rest

-- the same parts in another state
abbrev pub put : {R Q K : Type 0} → Model R Q K → State → Model R Q K
put x s = record { rig = x.rig; rule = x.rule; rest = x.rest; state = s }

-- a call as the definitions have it: a round with the sheet that it was given
abbrev pub asked : {K : Type 0} → Call K → List ℕ → Asked K
asked (Open take caller word) sheet = asks_open take caller word
asked Round sheet = asks_round sheet
asked Strike sheet = asks_strike
asked (Mark p) sheet = asks_mark p
asked (Clear p) sheet = asks_clear p
asked (Read p) sheet = asks_read p
asked (Lamp p) sheet = asks_lamp p

-- the answer of a call that has nothing to tell, as the call of its own name gives it
abbrev pub done_of : {K : Type 0} → Result (Answer K) Refusal → Result (Unit {0}) Refusal
done_of (Ok a) = Ok tt
done_of (Err e) = Err e

-- a word that is read, or 1 or 0 for a lamp, as the answer of any call
abbrev pub as_word : {K : Type 0} → Result K Refusal → Result (Answer K) Refusal
as_word (Ok w) = Ok (Word w)
as_word (Err e) = Err e

abbrev pub as_lit : {K : Type 0} → Result ℕ Refusal → Result (Answer K) Refusal
as_lit (Ok x) = Ok (Lit x)
as_lit (Err e) = Err e
