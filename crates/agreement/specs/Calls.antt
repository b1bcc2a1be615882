-- Calls on a hall: which are refused, with which refusal and in which order, what each of the others does and answers, and what a history of calls leads to.
use Rattle.std.specs.Prelude.{◌≡◌, ℕ, suc, ◌*◌, Bool, true, false, cond, not, ◌&&◌, ◌||◌, List, [], ◌∷◌, length, replicate, is_some, Some, None, Ok, Err, Option, Result, ◌==◌, nat_le, nat_lt, slice_index}
use Rattle.refusals.specs.declared.Refusal.{Refusal}
use Rattle.refusals.specs.declared.Refusal.TheVariants.{NoSuchStation, NotIdle, NotRunning, Idle as HallIdle, NotDecided, TooManyBroken, SheetTooShort, HoldsVoid}
use Rattle.sets.specs.Sets.{has, mask_of}
use Rattle.rigs.specs.Lines.{void}
use Rattle.words.specs.Kinds.{is_word}
use Rattle.agreement.specs.declared.stage.Stage.{Stage}
use Rattle.agreement.specs.declared.stage.Stage.TheVariants.{Idle, Running, Decided}
use Rattle.agreement.specs.declared.stage.Answer.{Answer}
use Rattle.agreement.specs.declared.stage.Answer.TheVariants.{Done, Word, Lit}
use Rattle.agreement.specs.Meanings.{Meaning}
use Rattle.agreement.specs.Rounds.{Setting, kings, kind_of, held_after}
use Rattle.agreement.specs.Sheets.{sixteen, round_sheet, lamps_after}

-- the calls, with their arguments; a round is given a sheet of any length and content
pub data Call (W : Type 0) : Type 0 where
  Open : (take caller : ℕ) → W → Call W
  Round : (sheet : List ℕ) → Call W
  Strike : Call W
  Mark Clear Read Lamp : (station : ℕ) → Call W

-- where a hall stands: idle, running or decided; the broken set, the code that each station holds, and the set of lit lamps
pub record State : Type 0 where
  pub stage : Stage
  pub broken : ℕ
  pub held : List ℕ
  pub lit : ℕ

-- the code that station p holds
unfoldable pub holds : State → ℕ → ℕ
holds s p = slice_index s.held p

-- no cue is on
abbrev pub is_idle : Stage → Bool
is_idle Idle = true
is_idle (Running take caller k r) = false
is_idle Decided = false

-- a cue is on, with rounds to come
abbrev pub is_running : Stage → Bool
is_running Idle = false
is_running (Running take caller k r) = true
is_running Decided = false

-- the last round of a cue was run
abbrev pub is_decided : Stage → Bool
is_decided Idle = false
is_decided (Running take caller k r) = false
is_decided Decided = true

-- the broken set with p
unfoldable pub marked : ℕ → ℕ → ℕ
marked broken p = mask_of 16 (λ i. has broken i || p == i)

-- the broken set without p
unfoldable pub cleared : ℕ → ℕ → ℕ
cleared broken p = mask_of 16 (λ i. has broken i && not (p == i))

-- the state with another broken set
unfoldable pub with_broken : State → ℕ → State
with_broken s broken = record { stage = s.stage; broken = broken; held = s.held; lit = s.lit }

-- idle: every station holds void, every lamp is out. So is a hall at its making, with none broken, and after a strike
unfoldable pub blank : ℕ → State
blank broken = record { stage = Idle; broken = broken; held = replicate 16 void; lit = 0 }

-- a cue with k kings after r rounds: decided after the last, which is 3k + 1
unfoldable pub stage_after : ℕ → ℕ → ℕ → ℕ → Stage
stage_after take caller k r = cond (nat_lt (3 * k) r) Decided (Running take caller k r)

-- a refusal where the condition does not hold, else what comes next
abbrev pub unless : Bool → Refusal → Option Refusal → Option Refusal
unless true e next = next
unless false e next = Some e

-- what is answered where a call gets this refusal, or none and this answer
abbrev pub replied : {W : Type 0} → Option Refusal → Answer W → Result (Answer W) Refusal
replied (Some e) a = Err e
replied None a = Ok a

-- the word that is read
abbrev pub word_answer : {W : Type 0} → Option W → Answer W
word_answer (Some w) = Word w
word_answer None = Done

module _ {W : Type 0} (m : Meaning W) where
  -- the refusal of a call, or none. First the state, then the station, then what the call itself asks for
  unfoldable pub refusal : State → Call W → Option Refusal
  refusal s (Open take caller word) = unless (is_idle s.stage) NotIdle (unless (nat_lt caller m.rule.n) NoSuchStation None)
  refusal s (Round sheet) = unless (is_running s.stage) NotRunning (unless (nat_le 4096 (length sheet)) SheetTooShort None)
  refusal s Strike = unless (not (is_idle s.stage)) HallIdle None
  refusal s (Mark p) = unless (nat_lt p m.rule.n) NoSuchStation (unless (m.rule.can_fail (marked s.broken p)) TooManyBroken None)
  refusal s (Clear p) = unless (is_idle s.stage) NotIdle (unless (nat_lt p m.rule.n) NoSuchStation None)
  refusal s (Read p) = unless (is_decided s.stage) NotDecided (unless (nat_lt p m.rule.n) NoSuchStation (unless (is_word m.kind.word (holds s p)) HoldsVoid None))
  refusal s (Lamp p) = unless (not (is_idle s.stage)) HallIdle (unless (nat_lt p m.rule.n) NoSuchStation None)

  -- the call is not refused
  unfoldable pub taken : State → Call W → Bool
  taken s c = not (is_some (refusal s c))

  -- at the opening the caller holds its word and the others the rest word, and all lamps are out
  unfoldable pub opened : ℕ → ℕ → W → ℕ → State
  opened take caller word broken =
      record {
        stage = Running take caller (kings m.rule caller) 0;
        broken = broken;
        held = sixteen m.rule.n (λ p. cond (p == caller) (m.kind.code word) (m.kind.code m.rest));
        lit = 0;
      }

  -- what the next round of a cue runs on, where so many rounds were run: each of its questions carries the cue's take, the round's number and the broken set of now
  unfoldable pub setting_of : State → ℕ → ℕ → Setting
  setting_of s take rounds =
      record { rig = m.rig; words = is_word m.kind.word; take = take; round = suc rounds; broken = s.broken; held = holds s }

  -- a round of the cue that is on
  unfoldable pub advanced : State → Stage → State
  advanced s Idle = s
  advanced s Decided = s
  advanced s (Running take caller k rounds) =
      record {
        stage = stage_after take caller k (suc rounds);
        broken = s.broken;
        held = sixteen m.rule.n (held_after (kind_of (suc rounds)) m.rule (setting_of s take rounds) (m.kind.code m.rest) caller (has s.lit));
        lit = lamps_after (kind_of (suc rounds)) m.rule (setting_of s take rounds) (m.kind.code m.rest) s.lit;
      }

  -- the sheet after it
  unfoldable pub sheet_left : State → Stage → List ℕ → List ℕ
  sheet_left s Idle sheet = sheet
  sheet_left s Decided sheet = sheet
  sheet_left s (Running take caller k rounds) sheet = round_sheet (kind_of (suc rounds)) m.rule.n (setting_of s take rounds) sheet

  -- what a call that is not refused does
  unfoldable pub effect : State → Call W → State
  effect s (Open take caller word) = opened take caller word s.broken
  effect s (Round sheet) = advanced s s.stage
  effect s Strike = blank s.broken
  effect s (Mark p) = with_broken s (marked s.broken p)
  effect s (Clear p) = with_broken s (cleared s.broken p)
  effect s (Read p) = s
  effect s (Lamp p) = s

  -- what it answers
  unfoldable pub answer : State → Call W → Answer W
  answer s (Open take caller word) = Done
  answer s (Round sheet) = Done
  answer s Strike = Done
  answer s (Mark p) = Done
  answer s (Clear p) = Done
  answer s (Read p) = word_answer (m.kind.word (holds s p))
  answer s (Lamp p) = Lit (cond (has s.lit p) 1 0)

  -- the state after a call: a refused one changes nothing
  unfoldable pub next : State → Call W → State
  next s c = cond (taken s c) (effect s c) s

  -- the sheet after a call: only a round that is not refused may write to it
  unfoldable pub sheet_after : State → Call W → List ℕ → List ℕ
  sheet_after s (Open take caller word) sheet = sheet
  sheet_after s (Round given) sheet = cond (taken s (Round given)) (sheet_left s s.stage sheet) sheet
  sheet_after s Strike sheet = sheet
  sheet_after s (Mark p) sheet = sheet
  sheet_after s (Clear p) sheet = sheet
  sheet_after s (Read p) sheet = sheet
  sheet_after s (Lamp p) sheet = sheet

  -- what a call answers
  unfoldable pub reply : State → Call W → Result (Answer W) Refusal
  reply s c = replied (refusal s c) (answer s c)

  -- reading station p gives the word w
  abbrev pub ReadGives : State → ℕ → W → Type 0
  ReadGives s p w = reply s (Read p) ≡ Ok (Word w)

  -- the state after a history, which is the making and a list of calls, the newest first
  unfoldable pub after : List (Call W) → State
  after [] = blank 0
  after (c ∷ h) = next (after h) c
