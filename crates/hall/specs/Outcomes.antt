-- What each call leaves and answers, by the state that the hall is in: the steps of the code, which are shown to be the calls of the definitions.
use Rattle.std.specs.Prelude.{ℕ, cond, not, ◌&&◌, ◌||◌, List, length, replicate, Some, None, Ok, Err, Option, Result, ◌==◌, nat_le, nat_lt, slice_index}
use Rattle.refusals.specs.declared.Refusal.{Refusal}
use Rattle.refusals.specs.declared.Refusal.TheVariants.{NoSuchStation, NotIdle, NotRunning, Idle as HallIdle, NotDecided, TooManyBroken, SheetTooShort, HoldsVoid}
use Rattle.sets.specs.Sets.{has, mask_of}
use Rattle.rigs.specs.declared.Wire as wires
use Rattle.rigs.specs.declared.Rig as rigs
use Rattle.rigs.specs.Lines.{void}
use Rattle.rules.specs.declared.Rule as rules
use Rattle.rules.specs.Kings.{king_count}
use Rattle.words.specs.declared.WordKind as kinds
use Rattle.agreement.specs.declared.stage.Stage.{Stage}
use Rattle.agreement.specs.declared.stage.Stage.TheVariants.{Idle, Running, Decided}
use Rattle.agreement.specs.declared.stage.Answer.{Answer}
use Rattle.agreement.specs.declared.stage.Answer.TheVariants.{Done, Word, Lit}
use Rattle.agreement.specs.Sheets.{sixteen}
use Rattle.agreement.specs.Calls.{State, advanced, sheet_left}
use Rattle.hall.specs.declared.call.Call.{Call}
use Rattle.hall.specs.declared.call.Call.TheVariants.{Open, Round, Strike, Mark, Clear, Read, Lamp}
use Rattle.hall.specs.Halls.{Model, meant, put}

-- the hall and the answer
abbrev pub Outcome : Type 0 → Type 0 → Type 0 → Type 0
Outcome R Q K = Model R Q K × Result (Answer K) Refusal

-- the hall, the answer and the sheet
abbrev pub Place : Type 0 → Type 0 → Type 0 → Type 0
Place R Q K = Model R Q K × Result (Answer K) Refusal × List ℕ

-- no cue is on: every station holds void, every lamp is out
abbrev pub idle : ℕ → State
idle broken = record { stage = Idle; broken = broken; held = replicate 16 void; lit = 0 }

-- the answer of a read: the word that was found
abbrev pub found : {K : Type 0} → Option K → Result (Answer K) Refusal
found (Some w) = Ok (Word w)
found None = Err HoldsVoid

-- a call that touches no sheet
abbrev pub untouched : {R Q K : Type 0} → Outcome R Q K → List ℕ → Place R Q K
untouched o sheet = (o.0, o.1, sheet)

module _ {R Q K : Type 0} (v : wires.Ghosts R) (g : rigs.Ghosts R) (q : rules.Ghosts Q) (k : kinds.Ghosts K) where
  -- a call on a station that is not there is refused
  abbrev pub at_station : Model R Q K → ℕ → Outcome R Q K → Outcome R Q K
  at_station x p o = cond (nat_lt p (q.stations x.rule)) o (x, Err NoSuchStation)

  abbrev pub opening : Model R Q K → ℕ → ℕ → K → Outcome R Q K
  opening x take caller word =
      at_station x caller (
        put x (record {
          stage = Running take caller (king_count (q.stations x.rule) (q.fails x.rule) caller) 0;
          broken = x.state.broken;
          held = sixteen (q.stations x.rule) (λ p. cond (p == caller) (k.code word) (k.code x.rest));
          lit = 0;
        }),
        Ok Done,
      )

  abbrev pub striking : Model R Q K → Outcome R Q K
  striking x = (put x (idle x.state.broken), Ok Done)

  -- the hall with another broken set
  abbrev pub breaking : Model R Q K → ℕ → Model R Q K
  breaking x set = put x (record { stage = x.state.stage; broken = set; held = x.state.held; lit = x.state.lit })

  abbrev pub marking : Model R Q K → ℕ → Outcome R Q K
  marking x p =
      at_station x p
      (cond (q.fails x.rule (mask_of 16 (λ i. has x.state.broken i || p == i)))
      (breaking x (mask_of 16 (λ i. has x.state.broken i || p == i)), Ok Done) (x, Err TooManyBroken))

  abbrev pub clearing : Model R Q K → ℕ → Outcome R Q K
  clearing x p = at_station x p (breaking x (mask_of 16 (λ i. has x.state.broken i && not (p == i))), Ok Done)

  abbrev pub reading : Model R Q K → ℕ → Outcome R Q K
  reading x p = at_station x p (x, found (k.word (slice_index x.state.held p)))

  abbrev pub lighting : Model R Q K → ℕ → Outcome R Q K
  lighting x p = at_station x p (x, Ok (Lit (cond (has x.state.lit p) 1 0)))

  -- a round of a cue with so many kings, after so many rounds
  abbrev pub advancing : Model R Q K → ℕ → ℕ → ℕ → ℕ → List ℕ → Place R Q K
  advancing x take caller kings rounds sheet =
      cond (nat_le 4096 (length sheet))
      (put x (advanced (meant v g q k x) x.state (Running take caller kings rounds)), Ok Done, sheet_left (meant v g q k x) x.state (Running take caller kings rounds) sheet)
      (x, Err SheetTooShort, sheet)

  abbrev pub rounding : Model R Q K → Stage → List ℕ → Place R Q K
  rounding x Idle sheet = (x, Err NotRunning, sheet)
  rounding x Decided sheet = (x, Err NotRunning, sheet)
  rounding x (Running take caller kings rounds) sheet = advancing x take caller kings rounds sheet

  -- calls that want an idle hall, one that is not idle, or a decided one
  abbrev pub when_idle : Model R Q K → Stage → Outcome R Q K → Outcome R Q K
  when_idle x Idle o = o
  when_idle x (Running take caller kings rounds) o = (x, Err NotIdle)
  when_idle x Decided o = (x, Err NotIdle)

  abbrev pub unless_idle : Model R Q K → Stage → Outcome R Q K → Outcome R Q K
  unless_idle x Idle o = (x, Err HallIdle)
  unless_idle x (Running take caller kings rounds) o = o
  unless_idle x Decided o = o

  abbrev pub when_decided : Model R Q K → Stage → Outcome R Q K → Outcome R Q K
  when_decided x Idle o = (x, Err NotDecided)
  when_decided x (Running take caller kings rounds) o = (x, Err NotDecided)
  when_decided x Decided o = o

  abbrev pub outcome : Model R Q K → Call K → List ℕ → Place R Q K
  outcome x (Open take caller word) sheet = untouched (when_idle x x.state.stage (opening x take caller word)) sheet
  outcome x Round sheet = rounding x x.state.stage sheet
  outcome x Strike sheet = untouched (unless_idle x x.state.stage (striking x)) sheet
  outcome x (Mark p) sheet = untouched (marking x p) sheet
  outcome x (Clear p) sheet = untouched (when_idle x x.state.stage (clearing x p)) sheet
  outcome x (Read p) sheet = untouched (when_decided x x.state.stage (reading x p)) sheet
  outcome x (Lamp p) sheet = untouched (unless_idle x x.state.stage (lighting x p)) sheet
