-- The further laws.
use Rattle.std.proofs.Common.{◌≡◌, ℕ, ◌*◌, ◌<◌, Bool, true, false, cond, not, ◌&&◌, ltb, leb, ◌⊎◌, List, ◌∷◌, ◌++◌, length, sym, refl, ap, ◌∙◌, inl, inr, arith}
use Rattle.std.proofs.lemmas.Bool.{cases_Bool, both_ways, cond-true, cond-false, ltb-false, not-true, not-false, not_from_false, not_from_true, and_parts, and_from}
use Rattle.sets.specs.Sets.{has}
use Rattle.sets.proofs.Bounds.{has-below}
use Rattle.words.proofs.KindLaws.{word-there}
use Rattle.agreement.specs.declared.stage.Stage.TheVariants.{Running as On, Decided}
use Rattle.agreement.specs.Meanings.{Meaning, Lawful}
use Rattle.agreement.specs.Rounds.{kings, last_round}
use Rattle.agreement.specs.Calls.{Call, Round, holds, stage_after, is_running, advanced, next, effect, after}
use Rattle.agreement.specs.Agreement.{Made, Good as Good-by_calls}
use Rattle.agreement.specs.Further.{OnePasses, KeptByVotes, AllHoldWords, NeverSilent, BrokenStay, BrokenCanFail, SomeGood, FurtherLaws}
use Rattle.agreement.proofs.Searches.{find}
use Rattle.agreement.proofs.Weak.{weak-one}
use Rattle.agreement.proofs.Vote.{vote-swap}
use Rattle.agreement.proofs.Facts.{Cover}
use Rattle.agreement.proofs.Taken.{taken-round}
use Rattle.agreement.proofs.Broken.{broken_calls, broken-set}
use Rattle.agreement.proofs.Runs.{base-after, coded, Running, stays-round}
use Rattle.agreement.proofs.Agreement.{as_set, as_calls, on_grows, cue_running}

one_passes : OnePasses
one_passes R L e p w w' lp t u = weak-one R L _ (vote-swap e) p w w' lp t u

module _ {W : Type 0} (m : Meaning W) (law : Lawful m) (h : List (Call W)) where
  -- a round that is made is one of the cue's
  module _ (word : W) (take caller r : ℕ) (run : Running m law word take caller r (after m h)) (sheet : List ℕ) (made : Made m h (Round sheet)) where
    going : ltb (3 * kings m.rule caller) r ≡ false
    unfolding stage_after
    going = at (ltb (3 * kings m.rule caller) r) (sym (ap is_running run.stage) ∙ (and_parts (is_running (after m h).stage) (leb 4096 (length sheet)) (sym (taken-round m (after m h) sheet) ∙ made)).0)
      where
        at : (b : Bool) → is_running (cond b Decided (On take caller (kings m.rule caller) r)) ≡ true → b ≡ false
        at true e = sym e
        at false e = refl

    more : r < last_round m.rule caller
    unfolding last_round
    more = omega (arith, ltb-false (3 * kings m.rule caller) r going)

    stage_is : (after m h).stage ≡ On take caller (kings m.rule caller) r
    unfolding stage_after
    stage_is = run.stage ∙ cond-false _ _ _ going

    next-is : after m (Round sheet ∷ h) ≡ advanced m (after m h) (On take caller (kings m.rule caller) r)
    unfolding after next effect
    next-is = cond-true _ _ _ made ∙ ap (advanced m (after m h)) stage_is

  kept-by-votes : KeptByVotes m h
  kept-by-votes caller word r q sheet made d g w c p lp gp =
      let t = cue_running m law h caller word r q in
      let run = t.1 in
      let b : ℕ → Bool = λ i. not (g i) in
      let cover : Cover m.rule (has (after m h).broken) b = record {
        more = λ i l e. elim (cases_Bool (g i)) [ inl x ↦ absurd (both_ways _ (as_set m law h i (c.hold i l x).0).1 e) | inr x ↦ not_from_false _ x ];
        can = c.others;
      } in
      let k = stays-round m law word t.0 caller r (after m h) run (more word t.0 caller r run sheet made) b cover (m.kind.code w) (coded m law w)
      (λ i l o. (c.hold i l (not-false _ o)).1) d in
      let e = next-is word t.0 caller r run sheet made in
      (ap (λ s. holds s p) e ∙ k.0 p lp (not_from_true _ gp), λ x. ap (λ s. has s.lit p) e ∙ k.1 x p lp (not_from_true _ gp))

  hold-words : AllHoldWords m h
  hold-words caller word r q d p lp =
      let run = (cue_running m law h caller word r q).1 in
      let y = word-there m.kind.code m.kind.word law.kind.only (holds (after m h) p) (run.facts.said d p lp) in
      (y.0, sym y.2)

  never_silent : NeverSilent m h
  never_silent caller word r q p lp = (cue_running m law h caller word r q).1.facts.casts p lp

  broken-stay : BrokenStay m h
  broken-stay caller word r q still u p lp b =
      let t = cue_running m law h caller word r q in
      broken_calls m law (still ++ h) p lp (on_grows m law word t.0 caller r h t.1 still u p lp (broken-set m law h p lp b))

  broken-can-fail : BrokenCanFail m h
  broken-can-fail set all = law.rule.part set (after m h).broken (λ i e. let t = all i e in broken-set m law h i t.0 t.1) (base-after m law h)

  some_good : SomeGood m h
  some_good set small cannot = go (find m.rule.n (λ i. has set i && not (has (after m h).broken i)))
    where
      go : ((i : ℕ) × (i < m.rule.n) × ((has set i && not (has (after m h).broken i)) ≡ true)) ⊎ ((i : ℕ) → i < m.rule.n → (has set i && not (has (after m h).broken i)) ≡ false)
          → (p : ℕ) × (has set p ≡ true) × Good-by_calls m h p
      go (inl t) = let x = and_parts (has set t.0) (not (has (after m h).broken t.0)) t.2 in (t.0, x.0, as_calls m law h t.0 (t.1, not-true _ x.1))
      go (inr none) =
          absurd (both_ways _ cannot (law.rule.part set (after m h).broken
          (λ i e. elim (cases_Bool (has (after m h).broken i)) [ inl y ↦ y | inr f ↦ absurd (both_ways _ (none i (has-below m.rule.n set i small e)) (and_from _ _ e (not_from_false _ f))) ]) (base-after m law h)))

pub further : (W : Type 0) → FurtherLaws W
further W = record {
  one = one_passes;
  histories = λ m law h. record { kept = kept-by-votes m law h; words = hold-words m law h; heard = never_silent m law h; stay = broken-stay m law h; fail = broken-can-fail m law h; good = some_good m law h };
}
