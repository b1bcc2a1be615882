-- Worked cues of gates on a script rig, with a marked caller, and a cue that decides.
use Rattle.std.specs.Prelude.{◌≡◌, ℕ, zero, suc, List, [], ◌∷◌, map, replicate}
use Rattle.std.specs.List.{range_with_len}
use Rattle.rules.specs.Count.{count_fails}
use Rattle.rigs.specs.Lines.{void}
use Rattle.rig_kinds.specs.Plain.{plain_wire, plain_trio}
use Rattle.rig_kinds.specs.Scripts.{script_sound}
use Rattle.words.specs.declared.gate.Gate.{Gate}
use Rattle.words.specs.declared.gate.Gate.TheVariants.{Hold}
use Rattle.words.specs.Gates.{gate_code, gate_word}
use Rattle.agreement.specs.declared.stage.Stage.TheVariants.{Decided}
use Rattle.agreement.specs.Meanings.{Meaning, Lawful}
use Rattle.agreement.specs.Rounds.{majority, last_round}
use Rattle.agreement.specs.Calls.{Call, Open, Round, Mark, State, holds, after}
use Rattle.agreement.specs.Agreement.{Cue, Broken, Good}

-- a hall of n gates of which any t may be broken, with rest word HOLD, on a script rig
unfoldable pub gates : ℕ → ℕ → List ℕ → Meaning Gate
gates n t script = record {
  rule = record { n = n; can_fail = count_fails n t };
  rig = record { wire = plain_wire (script_sound script); trio = plain_trio (script_sound script) };
  kind = record { code = gate_code; word = gate_word };
  rest = Hold;
}

-- so many rounds after a history
unfoldable pub rounds : ℕ → List (Call Gate) → List (Call Gate)
rounds zero h = h
rounds (suc r) h = Round (replicate 4096 0) ∷ rounds r h

-- three stations of which any one may be broken
abbrev pub small : List ℕ → Meaning Gate
small script = gates 3 1 script

-- station 0 is marked and opens the cue, and then so many rounds are run
abbrev pub cue : ℕ → ℕ → List (Call Gate)
cue take r = rounds r (Open take 0 Hold ∷ (Mark 0 ∷ []))

-- what the first n stations hold
unfoldable pub held_by : ℕ → State → List ℕ
held_by n s = map (holds s) (range_with_len 0 n)

-- what they hold after round r
abbrev pub HeldAt : List ℕ → ℕ → ℕ → List ℕ → Type 0
HeldAt script take r codes = held_by 3 (after (small script) (cue take r)) ≡ codes

-- the set of lit lamps after round r
abbrev pub LitAt : List ℕ → ℕ → ℕ → ℕ → Type 0
LitAt script take r set = (after (small script) (cue take r)).lit ≡ set

-- three readings and their vote
pub record Majorities : Type 0 where
  pub two : majority 1 1 0 ≡ 1
  pub none : majority 0 1 void ≡ void
  pub voids : majority void void 1 ≡ void

-- a script of 1 alone, take 0: all end on GO, lit from round 3
pub record OneEntry : Type 0 where
  pub ends : HeldAt (1 ∷ []) 0 4 (1 ∷ (1 ∷ (1 ∷ [])))
  pub graded : LitAt (1 ∷ []) 0 3 7
  pub lit : LitAt (1 ∷ []) 0 4 7

-- a script of 0 and 1: HOLD with take 0, GO with take 1, lit from round 3
pub record TwoEntries : Type 0 where
  pub hold : HeldAt (0 ∷ (1 ∷ [])) 0 4 (0 ∷ (0 ∷ (0 ∷ [])))
  pub hold_graded : LitAt (0 ∷ (1 ∷ [])) 0 3 7
  pub hold_lit : LitAt (0 ∷ (1 ∷ [])) 0 4 7
  pub go : HeldAt (0 ∷ (1 ∷ [])) 1 4 (1 ∷ (1 ∷ (1 ∷ [])))
  pub go_graded : LitAt (0 ∷ (1 ∷ [])) 1 3 7
  pub go_lit : LitAt (0 ∷ (1 ∷ [])) 1 4 7

-- a script of 7, 1, 0 and 7, take 0: all hold void after round 2, and end on HOLD, unlit
pub record FourEntries : Type 0 where
  pub voids : HeldAt (7 ∷ (1 ∷ (0 ∷ (7 ∷ [])))) 0 2 (void ∷ (void ∷ (void ∷ [])))
  pub ends : HeldAt (7 ∷ (1 ∷ (0 ∷ (7 ∷ [])))) 0 4 (0 ∷ (0 ∷ (0 ∷ [])))
  pub graded : LitAt (7 ∷ (1 ∷ (0 ∷ (7 ∷ [])))) 0 3 0
  pub lit : LitAt (7 ∷ (1 ∷ (0 ∷ (7 ∷ [])))) 0 4 0

-- The theorem does not hold of nothing: whatever the script and the take, the meaning is lawful, the cue's four rounds are made, and it is decided, with station 0 broken and the others good.
pub record Decides (script : List ℕ) (take : ℕ) : Type 0 where
  pub lawful : Lawful (small script)
  pub last : last_round (small script).rule 0 ≡ 4
  pub made : Cue (small script) (cue take 4) 0 Hold 4
  pub decided : (after (small script) (cue take 4)).stage ≡ Decided
  pub broken : Broken (small script) (cue take 4) 0
  pub good : Good (small script) (cue take 4) 1 × Good (small script) (cue take 4) 2

-- for every script and take
abbrev pub SomeCueDecides : Type 0
SomeCueDecides = (script : List ℕ) (take : ℕ) → Decides script take
