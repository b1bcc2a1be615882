-- The outcome of a call, by the state of the hall, is what the definitions say.
use Rattle.std.proofs.Common.{◌≡◌, ℕ, Bool, true, false, cond, not, ltb, leb, List, length, get_or, is_some, Some, None, Ok, Err, Option, refl}
use Rattle.refusals.specs.declared.Refusal.{Refusal}
use Rattle.refusals.specs.declared.Refusal.TheVariants.{NoSuchStation, NotIdle, NotRunning, Idle as HallIdle, NotDecided, TooManyBroken, SheetTooShort, HoldsVoid}
use Rattle.sets.specs.Sets.{has}
use Rattle.rigs.specs.declared.Wire as wires
use Rattle.rigs.specs.declared.Rig as rigs
use Rattle.rules.specs.declared.Rule as rules
use Rattle.words.specs.declared.WordKind as kinds
use Rattle.agreement.specs.declared.stage.Stage.{Stage}
use Rattle.agreement.specs.declared.stage.Stage.TheVariants.{Idle, Running, Decided}
use Rattle.agreement.specs.declared.stage.Answer.{Answer}
use Rattle.agreement.specs.declared.stage.Answer.TheVariants.{Done, Lit}
use Rattle.agreement.specs.Rounds.{kings}
use Rattle.agreement.specs.Calls.{State, opened, blank, with_broken, marked, cleared, holds, advanced, sheet_left, unless, replied, word_answer, is_idle, is_running, is_decided, next, reply, taken, effect, refusal, answer, sheet_after}
use Rattle.hall.specs.declared.call.Call.{Call}
use Rattle.hall.specs.declared.call.Call.TheVariants.{Open, Round, Strike, Mark, Clear, Read, Lamp}
use Rattle.hall.specs.Halls.{Model, meant, put, asked}
use Rattle.hall.specs.Outcomes.{Place, found, untouched, rounding, when_idle, unless_idle, when_decided, outcome}

module _ {R Q K : Type 0} (v : wires.Ghosts R) (g : rigs.Ghosts R) (q : rules.Ghosts Q) (k : kinds.Ghosts K) (x : Model R Q K) (sheet : List ℕ) where
  -- the hall, the answer and the sheet where a call has this refusal or none, and in the latter case leaves S and answers a
  abbrev left : Option Refusal → State → Answer K → Place R Q K
  left r S a = (put x (cond (not (is_some r)) S x.state), replied r a, sheet)

  idle_first : (s : Stage) (b : Bool) (S : State)
      → untouched (when_idle v g q k x s (cond b (put x S, Ok Done) (x, Err NoSuchStation))) sheet ≡ left (unless (is_idle s) NotIdle (unless b NoSuchStation None)) S Done
  idle_first Idle true S = refl
  idle_first Idle false S = refl
  idle_first (Running take caller kings rounds) b S = refl
  idle_first Decided b S = refl

  cue-first : (s : Stage) (S : State) → untouched (unless_idle v g q k x s (put x S, Ok Done)) sheet ≡ left (unless (not (is_idle s)) HallIdle None) S Done
  cue-first Idle S = refl
  cue-first (Running take caller kings rounds) S = refl
  cue-first Decided S = refl

  lamp-asked : (s : Stage) (b : Bool) (a : Answer K)
      → untouched (unless_idle v g q k x s (cond b (x, Ok a) (x, Err NoSuchStation))) sheet ≡ left (unless (not (is_idle s)) HallIdle (unless b NoSuchStation None)) x.state a
  lamp-asked Idle b a = refl
  lamp-asked (Running take caller kings rounds) true a = refl
  lamp-asked (Running take caller kings rounds) false a = refl
  lamp-asked Decided true a = refl
  lamp-asked Decided false a = refl

  marked_so : (b can : Bool) (S : State)
      → untouched (cond b (cond can (put x S, Ok Done) (x, Err TooManyBroken)) (x, Err NoSuchStation)) sheet ≡ left (unless b NoSuchStation (unless can TooManyBroken None)) S Done
  marked_so true true S = refl
  marked_so true false S = refl
  marked_so false can S = refl

  word-asked : (s : Stage) (b : Bool) (w : Option K)
      → untouched (when_decided v g q k x s (cond b (x, found w) (x, Err NoSuchStation))) sheet
      ≡ left (unless (is_decided s) NotDecided (unless b NoSuchStation (unless (is_some w) HoldsVoid None))) x.state (word_answer w)
  word-asked Idle b w = refl
  word-asked (Running take caller kings rounds) b w = refl
  word-asked Decided true (Some w) = refl
  word-asked Decided true None = refl
  word-asked Decided false w = refl

  -- a round leaves the sheet too
  abbrev left_round : Stage → Bool → Place R Q K
  left_round s long = (
    put x (cond (not (is_some (unless (is_running s) NotRunning (unless long SheetTooShort None)))) (advanced (meant v g q k x) x.state s) x.state),
    replied (unless (is_running s) NotRunning (unless long SheetTooShort None)) Done,
    cond (not (is_some (unless (is_running s) NotRunning (unless long SheetTooShort None)))) (sheet_left (meant v g q k x) x.state s sheet) sheet,
  )

  round-run : (s : Stage) → rounding v g q k x s sheet ≡ left_round s (leb 4096 (length sheet))
  round-run Idle = refl
  round-run Decided = refl
  round-run (Running take caller kings rounds) = at (leb 4096 (length sheet))
    where
      at : (long : Bool)
          → ◌≡◌ {A = Place R Q K}
          (cond long (put x (advanced (meant v g q k x) x.state (Running take caller kings rounds)), Ok Done, sheet_left (meant v g q k x) x.state (Running take caller kings rounds) sheet) (x, Err SheetTooShort, sheet))
          (left_round (Running take caller kings rounds) long)
      at true = refl
      at false = refl

  -- what the definitions say of a call
  abbrev Defined : Call K → Place R Q K
  Defined c = (
    put x (next (meant v g q k x) x.state (asked c sheet)),
    reply (meant v g q k x) x.state (asked c sheet),
    sheet_after (meant v g q k x) x.state (asked c sheet) sheet,
  )

  pub outcome-is : (c : Call K) → outcome v g q k x c sheet ≡ Defined c
  unfolding next reply taken effect refusal answer sheet_after opened blank with_broken marked cleared holds kings
  outcome-is (Open take caller word) = idle_first x.state.stage (ltb caller (q.stations x.rule)) (opened (meant v g q k x) take caller word x.state.broken)
  outcome-is Round = round-run x.state.stage
  outcome-is Strike = cue-first x.state.stage (blank x.state.broken)
  outcome-is (Mark p) =
      marked_so (ltb p (q.stations x.rule)) (q.fails x.rule (marked x.state.broken p)) (with_broken x.state (marked x.state.broken p))
  outcome-is (Clear p) = idle_first x.state.stage (ltb p (q.stations x.rule)) (with_broken x.state (cleared x.state.broken p))
  outcome-is (Read p) = word-asked x.state.stage (ltb p (q.stations x.rule)) (k.word (get_or x.state.held p 0))
  outcome-is (Lamp p) = lamp-asked x.state.stage (ltb p (q.stations x.rule)) (Lit (cond (has x.state.lit p) 1 0))
