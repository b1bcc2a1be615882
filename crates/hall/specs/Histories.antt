-- Halls by the calls that they have had.
use Rattle.std.specs.Prelude.{◌≡◌, ℕ, List, ◌∷◌, Result}
use Rattle.refusals.specs.declared.Refusal.{Refusal}
use Rattle.rigs.specs.declared.Wire as wires
use Rattle.rigs.specs.declared.Rig as rigs
use Rattle.rules.specs.declared.Rule as rules
use Rattle.words.specs.declared.WordKind as kinds
use Rattle.agreement.specs.declared.stage.Answer.{Answer}
use Rattle.agreement.specs.Made.{meaning_of}
use Rattle.agreement.specs.Calls.{Call, after, next, reply, sheet_after}
use Rattle.agreement.specs.Agreement.{Agrees}
use Rattle.hall.specs.Halls.{Model, meant, put, done_of}

module _ {R Q K : Type 0} (v : wires.Ghosts R) (g : rigs.Ghosts R) (q : rules.Ghosts Q) (k : kinds.Ghosts K) where
  -- the hall x was made of this rig, rule and rest word, and has had the calls h, the newest first
  pub record Had (rig : R) (rule : Q) (rest : K) (x : Model R Q K) (h : List (Call K)) : Type 0 where
    pub of_rig : x.rig ≡ rig
    pub of_rule : x.rule ≡ rule
    pub of_rest : x.rest ≡ rest
    pub stands : x.state ≡ after (meaning_of v g q k rig rule rest) h

  -- a call c on the hall x with a sheet: the hall that it leaves, its answer, and what is then on the sheet. A refused call leaves both as they were
  pub record Does (x : Model R Q K) (c : Call K) (given : List ℕ) (y : Model R Q K) (r : Result (Answer K) Refusal) (left : List ℕ) : Type 0 where
    pub hall : y ≡ put x (next (meant v g q k x) x.state c)
    pub answer : r ≡ reply (meant v g q k x) x.state c
    pub sheet : left ≡ sheet_after (meant v g q k x) x.state c given

  -- whatever calls h led to x, the answer r of c is the one that h and the meanings of the parts give
  abbrev pub Answers : Model R Q K → Call K → Result (Answer K) Refusal → Type 0
  Answers x c r =
      (rig : R) (rule : Q) (rest : K) (h : List (Call K)) → Had rig rule rest x h
      → r ≡ reply (meaning_of v g q k rig rule rest) (after (meaning_of v g q k rig rule rest) h) c

  -- whatever calls h led to x, these and c lead to y, and the stations agree after them
  abbrev pub Continues : Model R Q K → Call K → Model R Q K → Type 0
  Continues x c y =
      (rig : R) (rule : Q) (rest : K) (h : List (Call K)) → Had rig rule rest x h
      → Had rig rule rest y (c ∷ h) × Agrees (meaning_of v g q k rig rule rest) (c ∷ h)

  -- a call c that has nothing to tell, on the hall x: its answer, the hall that it leaves, and that the histories of x go on with it
  pub record Did (x : Model R Q K) (c : Call K) (r : Result (Unit {0}) Refusal) (y : Model R Q K) : Type 0 where
    pub answer : r ≡ done_of (reply (meant v g q k x) x.state c)
    pub hall : y ≡ put x (next (meant v g q k x) x.state c)
    pub history : Continues x c y

  -- whatever calls h led to x, the stations agree after them
  abbrev pub Agreed : Model R Q K → Type 0
  Agreed x = (rig : R) (rule : Q) (rest : K) (h : List (Call K)) → Had rig rule rest x h → Agrees (meaning_of v g q k rig rule rest) h
