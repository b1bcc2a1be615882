-- What a list of calls on a new hall comes to, each round on the sheet as the calls before left it.
use Rattle.std.specs.Prelude.{◌≡◌, ℕ, List, [], ◌∷◌, ◌++◌, reverse}
use Rattle.rigs.specs.declared.Wire as wires
use Rattle.rigs.specs.declared.Rig as rigs
use Rattle.rules.specs.declared.Rule as rules
use Rattle.words.specs.declared.WordKind as kinds
use Rattle.agreement.specs.Meanings.{Meaning}
use Rattle.agreement.specs.Made.{meaning_of}
use Rattle.agreement.specs.Calls.{State, after, reply, sheet_after}
use Rattle.agreement.specs.Calls.{Call as Asked}
use Rattle.agreement.specs.Agreement.{Agrees}
use Rattle.hall.specs.declared.call.Call.{Call}
use Rattle.hall.specs.declared.replay.Step.{Step}
use Rattle.hall.specs.declared.state.State.{State as Standing}
use Rattle.hall.specs.Halls.{Model, asked}
use Rattle.hall.specs.Histories.{Had}

-- where a hall stands, as it is answered
abbrev pub standing : State → Standing
standing s = record { stage = s.stage; broken = s.broken; held = s.held; lamps = s.lit }

-- what some calls came to: the history, which has each round with the sheet that it was given, what came of each call, the oldest first, and what is then on the sheet
pub record Played (K : Type 0) : Type 0 where
  pub history : List (Asked K)
  pub steps : List (Step K)
  pub sheet : List ℕ

module _ {K : Type 0} (m : Meaning K) where
  -- one call more
  abbrev pub further : Played K → Call K → Played K
  further p c =
      record {
        history = asked c p.sheet ∷ p.history;
        steps = p.steps ++ (record { answer = reply m (after m p.history) (asked c p.sheet); state = standing (after m (asked c p.sheet ∷ p.history)) } ∷ []);
        sheet = sheet_after m (after m p.history) (asked c p.sheet) p.sheet;
      }

  -- the calls, the newest first, from this sheet on
  unfoldable pub played : List ℕ → List (Call K) → Played K
  played sheet [] = record { history = []; steps = []; sheet = sheet }
  played sheet (c ∷ older) = further (played sheet older) c

module _ {R Q K : Type 0} (v : wires.Ghosts R) (g : rigs.Ghosts R) (q : rules.Ghosts Q) (k : kinds.Ghosts K) where
  -- the calls were played on a hall of these parts from this sheet on: this is the hall after them, what came of each, and what is left on the sheet
  pub record Replayed (rig : R) (rule : Q) (rest : K) (calls : List (Call K)) (given : List ℕ) (x : Model R Q K) (came : List (Step K)) (left : List ℕ) : Type 0 where
    pub had : Had v g q k rig rule rest x (played (meaning_of v g q k rig rule rest) given (reverse calls)).history
    pub steps : came ≡ (played (meaning_of v g q k rig rule rest) given (reverse calls)).steps
    pub sheet : left ≡ (played (meaning_of v g q k rig rule rest) given (reverse calls)).sheet
    -- the stations agree at each point, from the making on
    pub agree : (later before : List (Asked K)) → (played (meaning_of v g q k rig rule rest) given (reverse calls)).history ≡ later ++ before
        → Agrees (meaning_of v g q k rig rule rest) before
