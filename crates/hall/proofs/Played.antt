-- Calls played one after another.
use Rattle.std.proofs.Common.{◌≡◌, ℕ, ◌+◌, ◌<◌, List, [], ◌∷◌, ◌++◌, reverse, length, get_or, take, Result, sym, refl, ap, ◌∙◌, subst}
use mathlib.Core.List.{reverse-append}
use Rattle.std.proofs.lemmas.List.{take_more}
use Rattle.refusals.specs.declared.Refusal.{Refusal}
use Rattle.rigs.specs.declared.Wire as wires
use Rattle.rigs.specs.declared.Rig as rigs
use Rattle.rules.specs.declared.Rule as rules
use Rattle.words.specs.declared.WordKind as kinds
use Rattle.agreement.specs.declared.stage.Answer.{Answer}
use Rattle.agreement.specs.Made.{meaning_of}
use Rattle.agreement.specs.Calls.{after, reply, sheet_after}
use Rattle.hall.specs.declared.call.Call.{Call}
use Rattle.hall.specs.declared.replay.Step.{Step}
use Rattle.hall.specs.declared.state.State.{State as Standing}
use Rattle.hall.specs.Halls.{Model, meant, asked}
use Rattle.hall.specs.Histories.{Had, Does, Answers, Continues}
use Rattle.hall.specs.Replays.{standing, played}
use Rattle.hall.proofs.Continued.{stands-after}

-- the calls up to the next one, the newest first
next-taken : {A : Type 0} (xs : List A) (i : ℕ) (x : A) → i < length xs → x ≡ get_or xs i x → reverse (take (i + 1) xs) ≡ x ∷ reverse (take i xs)
next-taken xs i x lt e =
    ap reverse (take_more xs i x lt) ∙ reverse-append (take i xs) (get_or xs i x ∷ []) ∙ ap (λ z. z ∷ reverse (take i xs)) (sym e)

module _ {R Q K : Type 0} (v : wires.Ghosts R) (g : rigs.Ghosts R) (q : rules.Ghosts Q) (k : kinds.Ghosts K) (rig : R) (rule : Q) (rest : K) (given : List ℕ) where
  -- the calls, the newest first, were played on a hall of these parts
  pub record PlayedTo (calls : List (Call K)) (x : Model R Q K) (came : List (Step K)) (left : List ℕ) : Type 0 where
    pub had : Had v g q k rig rule rest x (played (meaning_of v g q k rig rule rest) given calls).history
    pub steps : came ≡ (played (meaning_of v g q k rig rule rest) given calls).steps
    pub sheet : left ≡ (played (meaning_of v g q k rig rule rest) given calls).sheet

  -- none was played on a new hall
  pub none-played : (x : Model R Q K) (came : List (Step K)) → Had v g q k rig rule rest x [] → came ≡ [] → PlayedTo [] x came given
  unfolding played
  none-played x came had none = record { had = had; steps = none; sheet = refl }

  same-step : (r r' : Result (Answer K) Refusal) (s s' : Standing) → r ≡ r' → s ≡ s' → ◌≡◌ {A = Step K} (record { answer = r; state = s }) (record { answer = r'; state = s' })
  same-step r r' s s' e f = cc

  -- one call more
  one_more : (calls : List (Call K)) (x y : Model R Q K) (came more : List (Step K)) (sheet left : List ℕ) (c : Call K) (r : Result (Answer K) Refusal) (s : Standing)
      → PlayedTo calls x came sheet
      → Does v g q k x (asked c sheet) sheet y r left → Answers v g q k x (asked c sheet) r → Continues v g q k x (asked c sheet) y
      → more ≡ came ++ (record { answer = r; state = s } ∷ []) → s ≡ standing y.state
      → PlayedTo (c ∷ calls) y more left
  unfolding played
  one_more calls x y came more sheet left c r s p does answers continues pushed stands =
      let m = meaning_of v g q k rig rule rest in
      let h = (played m given calls).history in
      let c' = asked c (played m given calls).sheet in
      let same = stands-after v g q k rig rule rest x h p.had in
      let had : Had v g q k rig rule rest y (c' ∷ h) = subst (λ (z : List ℕ). Had v g q k rig rule rest y (asked c z ∷ h)) p.sheet (continues rig rule rest h p.had).0 in
      let answer : r ≡ reply m (after m h) c' = answers rig rule rest h p.had ∙ ap (λ (z : List ℕ). reply m (after m h) (asked c z)) p.sheet in
      record {
        had = had;
        steps =
            pushed ∙ ap (λ (z : Step K). came ++ (z ∷ [])) (same-step r _ s _ answer (stands ∙ ap standing had.stands))
            ∙ ap (λ (z : List (Step K)). z ++ (record { answer = reply m (after m h) c'; state = standing (after m (c' ∷ h)) } ∷ [])) p.steps;
        sheet =
            does.sheet ∙ ap (λ (z : Model R Q K). sheet_after (meant v g q k z) z.state (asked c sheet) sheet) same
            ∙ ap (λ (z : List ℕ). sheet_after m (after m h) (asked c z) z) p.sheet;
      }

  -- the same for the next of a list of calls
  pub next-played : (calls : List (Call K)) (i : ℕ) (x y : Model R Q K) (came more : List (Step K)) (sheet left : List ℕ) (c : Call K) (r : Result (Answer K) Refusal) (s : Standing)
      → i < length calls → c ≡ get_or calls i c
      → PlayedTo (reverse (take i calls)) x came sheet
      → Does v g q k x (asked c sheet) sheet y r left → Answers v g q k x (asked c sheet) r → Continues v g q k x (asked c sheet) y
      → more ≡ came ++ (record { answer = r; state = s } ∷ []) → s ≡ standing y.state
      → PlayedTo (reverse (take (i + 1) calls)) y more left
  next-played calls i x y came more sheet left c r s lt e p does answers continues pushed stands =
      rw (next-taken calls i c lt e) (one_more (reverse (take i calls)) x y came more sheet left c r s p does answers continues pushed stands)
