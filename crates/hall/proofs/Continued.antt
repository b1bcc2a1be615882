-- A call as the definitions have it continues every history that led to the hall.
use Rattle.std.proofs.Common.{◌≡◌, ℕ, List, [], ◌∷◌, Result, ap, ◌∙◌, subst}
use Rattle.refusals.specs.declared.Refusal.{Refusal}
use Rattle.rigs.specs.declared.Wire as wires
use Rattle.rigs.specs.declared.Rig as rigs
use Rattle.rules.specs.declared.Rule as rules
use Rattle.words.specs.declared.WordKind as kinds
use Rattle.agreement.specs.declared.stage.Answer.{Answer}
use Rattle.agreement.specs.Made.{meaning_of}
use Rattle.agreement.specs.Calls.{Call, State, after, next, reply}
use Rattle.agreement.specs.Agreement.{Agrees}
use Rattle.hall.specs.declared.call.Call.{Call as HallCall}
use Rattle.hall.specs.Halls.{Model, meant, put, asked}
use Rattle.hall.specs.Histories.{Had, Does, Answers, Continues, Agreed}
use Rattle.hall.specs.Outcomes.{Outcome, Place, untouched, outcome}
use Rattle.hall.proofs.Taken.{outcome-is}

module _ {R Q K : Type 0} (v : wires.Ghosts R) (g : rigs.Ghosts R) (q : rules.Ghosts Q) (k : kinds.Ghosts K) where
  -- a hall that has had the calls h is the one of these parts that stands as they leave it
  pub stands-after : (rig : R) (rule : Q) (rest : K) (x : Model R Q K) (h : List (Call K)) → Had v g q k rig rule rest x h
      → x ≡ record { rig = rig; rule = rule; rest = rest; state = after (meaning_of v g q k rig rule rest) h }
  stands-after rig rule rest x h had = at x.rig x.rule x.rest x.state had.of_rig had.of_rule had.of_rest had.stands
    where
      at : (a : R) (b : Q) (d : K) (s : State) → a ≡ rig → b ≡ rule → d ≡ rest → s ≡ after (meaning_of v g q k rig rule rest) h
          → ◌≡◌ {A = Model R Q K} (record { rig = a; rule = b; rest = d; state = s }) (record { rig = rig; rule = rule; rest = rest; state = after (meaning_of v g q k rig rule rest) h })
      at a b d s e f i j = cc

  pub answers : (x : Model R Q K) (c : Call K) (r : Result (Answer K) Refusal) → r ≡ reply (meant v g q k x) x.state c → Answers v g q k x c r
  answers x c r e rig rule rest h had = e ∙ ap (λ (z : Model R Q K). reply (meant v g q k z) z.state c) (stands-after rig rule rest x h had)

  pub agreed : (x : Model R Q K) → ((h : List (Call K)) → Agrees (meant v g q k x) h) → Agreed v g q k x
  agreed x agrees rig rule rest h had = subst (λ (z : Model R Q K). Agrees (meant v g q k z) h) (stands-after rig rule rest x h had) (agrees h)

  pub continues : (x y : Model R Q K) (c : Call K) → ((h : List (Call K)) → Agrees (meant v g q k x) h)
      → y ≡ put x (next (meant v g q k x) x.state c) → Continues v g q k x c y
  unfolding after
  continues x y c agrees e rig rule rest h had =
      let same = stands-after rig rule rest x h had in
      let e' = e ∙ ap (λ (z : Model R Q K). put z (next (meant v g q k z) z.state c)) same in (
        record { of_rig = ap (λ z. z.rig) e'; of_rule = ap (λ z. z.rule) e'; of_rest = ap (λ z. z.rest) e'; stands = ap (λ z. z.state) e' },
        subst (λ (z : Model R Q K). Agrees (meant v g q k z) (c ∷ h)) same (agrees (c ∷ h)),
      )

  -- a call with its outcome: what the contract of every call says
  pub record Came (x : Model R Q K) (c : HallCall K) (given : List ℕ) (y : Model R Q K) (r : Result (Answer K) Refusal) (left : List ℕ) : Type 0 where
    pub does : Does v g q k x (asked c given) given y r left
    pub answered : Answers v g q k x (asked c given) r
    pub history : Continues v g q k x (asked c given) y

  pub by-outcome : (x y : Model R Q K) (c : HallCall K) (given left : List ℕ) (r : Result (Answer K) Refusal) → ((h : List (Call K)) → Agrees (meant v g q k x) h)
      → ◌≡◌ {A = Place R Q K} (y, r, left) (outcome v g q k x c given) → Came x c given y r left
  by-outcome x y c given left r agrees e =
      let defined = e ∙ outcome-is v g q k x given c in
      let hall = ap (λ (o : Place R Q K). o.0) defined in
      let answer = ap (λ (o : Place R Q K). o.1) defined in
      record {
        does = record { hall = hall; answer = answer; sheet = ap (λ (o : Place R Q K). o.2) defined };
        answered = answers x _ r answer;
        history = continues x y _ agrees hall;
      }

  -- the same for a call that leaves hall and sheet as they are
  pub by-answer : (x : Model R Q K) (c : HallCall K) (r : Result (Answer K) Refusal) (o : Outcome R Q K) → ((h : List (Call K)) → Agrees (meant v g q k x) h)
      → ◌≡◌ {A = Outcome R Q K} (x, r) o → untouched o [] ≡ outcome v g q k x c [] → Came x c [] x r []
  by-answer x c r o agrees e same = by-outcome x x c [] [] r agrees (ap (λ (z : Outcome R Q K). untouched z []) e ∙ same)
