-- What is true of a hall after any history.
use Rattle.std.proofs.Common.{◌≡◌, ℕ, suc, ◌*◌, ◌/◌, ◌%◌, ◌^◌, ◌<◌, ◌≤◌, Bool, true, false, cond, not, ◌&&◌, ◌||◌, eqb, ltb, leb, ◌≢◌, List, [], ◌∷◌, length, sym, refl, ap, ◌∙◌, subst, arith}
use Rattle.std.proofs.lemmas.Bool.{and_left, eq-eqb, both_ways, true≢false, ltb-true, ltb-false, and_parts, cond-true, cond-false, cond_both}
use Rattle.std.proofs.lemmas.Bool.Decides.{nat_tests}
use Rattle.sets.specs.Sets.{has}
use Rattle.sets.proofs.Masks.{has-mask_of, has-none}
use Rattle.words.specs.Kinds.{is_word}
use Rattle.words.proofs.KindLaws.{code-is-word}
use Rattle.agreement.specs.declared.stage.Stage.{Stage}
use Rattle.agreement.specs.declared.stage.Stage.TheVariants.{Idle, Running as On, Decided}
use Rattle.agreement.specs.declared.stage.RoundKind.{RoundKind}
use Rattle.agreement.specs.declared.stage.RoundKind.TheVariants.{Caller, Weak, Graded, King}
use Rattle.agreement.specs.Meanings.{Meaning, Lawful}
use Rattle.agreement.specs.Rounds.{fails, Setting, kings, kind_of, last_round, held_after, lit_after, vote, graded_held, graded_lit}
use Rattle.agreement.specs.Sheets.{lamps_after}
use Rattle.agreement.specs.Calls.{Call, Open, Round, Strike, Mark, Clear, Read, Lamp, State, holds, stage_after, next, blank, opened, setting_of, advanced, with_broken, is_idle, is_running, marked, cleared, taken, effect, after}
use Rattle.agreement.specs.Agreement.{is_round}
use Rattle.agreement.proofs.Searches.{get_or-sixteen}
use Rattle.agreement.proofs.Failing.{mask_in, another}
use Rattle.agreement.proofs.Vote.{Sound}
use Rattle.agreement.proofs.Kings.{kings-few, sender, sender-below}
use Rattle.agreement.proofs.Facts.{Cover, Agreed, Lights, Facts, facts-same}
use Rattle.agreement.proofs.Round.{facts-round, keeps, stays, lit-after}
use Rattle.agreement.proofs.Taken.{taken_open, taken-round, taken_strike, taken-mark, taken-clear}

module _ {W : Type 0} (m : Meaning W) (law : Lawful m) where
  pub coded : (w : W) → is_word m.kind.word (m.kind.code w) ≡ true
  coded w = code-is-word m.kind.code m.kind.word law.kind.back w

  pub base-fails : (s : State) → m.rule.can_fail s.broken ≡ true → fails m.rule (has s.broken) ≡ true
  unfolding fails
  base-fails s b =
      law.rule.part _ _ (λ i e. sym (has-mask_of m.rule.n (has s.broken) i (mask_in m.rule.n (has s.broken) i e)) ∙ e) b

  base-blank : m.rule.can_fail (blank 0).broken ≡ true
  unfolding blank
  base-blank = law.rule.part 0 (2 ^ 0) (λ i e. absurd (both_ways _ (has-none i) e)) (law.rule.single 0 (omega (arith, law.rule.sized.0)))

  -- the set with p, and without p
  pub has-marked : (broken p i : ℕ) → i < 16 → has (marked broken p) i ≡ (has broken i || eqb p i)
  unfolding marked
  has-marked broken p i l = has-mask_of 16 (λ i. has broken i || eqb p i) i l

  pub has-cleared : (broken p i : ℕ) → i < 16 → has (cleared broken p) i ≡ (has broken i && not (eqb p i))
  unfolding cleared
  has-cleared broken p i l = has-mask_of 16 (λ i. has broken i && not (eqb p i)) i l

  cleared-part : (broken p i : ℕ) → has (cleared broken p) i ≡ true → has broken i ≡ true
  unfolding cleared
  cleared-part broken p i e =
      let k = mask_in 16 (λ i. has broken i && not (eqb p i)) i e in
      (and_parts (has broken i) (not (eqb p i)) (sym (has-mask_of 16 (λ i. has broken i && not (eqb p i)) i k) ∙ e)).0

  base-effect : (s : State) (c : Call W) → taken m s c ≡ true → m.rule.can_fail s.broken ≡ true → m.rule.can_fail (effect m s c).broken ≡ true
  unfolding effect opened blank with_broken advanced
  base-effect s (Open take caller word) t b = b
  base-effect s (Round sheet) t b = at s.stage
    where
      at : (g : Stage) → m.rule.can_fail (advanced m s g).broken ≡ true
      at Idle = b
      at Decided = b
      at (On take caller k rounds) = b
  base-effect s Strike t b = b
  base-effect s (Mark p) t b = (and_parts (ltb p m.rule.n) _ (sym (taken-mark m s p) ∙ t)).1
  base-effect s (Clear p) t b = law.rule.part _ _ (λ i e. cleared-part s.broken p i e) b
  base-effect s (Read p) t b = b
  base-effect s (Lamp p) t b = b

  -- the broken set can always fail
  pub base-after : (h : List (Call W)) → m.rule.can_fail (after m h).broken ≡ true
  unfolding after next
  base-after [] = base-blank
  base-after (c ∷ h) = at (taken m (after m h) c) refl (base-after h)
    where
      at : (t : Bool) → taken m (after m h) c ≡ t → m.rule.can_fail (after m h).broken ≡ true → m.rule.can_fail (cond t (effect m (after m h) c) (after m h)).broken ≡ true
      at true e b = base-effect (after m h) c e b
      at false e b = b

  -- A cue is on: `caller` opened it with `word`, and r of its rounds were made.
  pub record Running (word : W) (take caller r : ℕ) (s : State) : Type 0 where
    pub stage : s.stage ≡ stage_after take caller (kings m.rule caller) r
    pub in_hall : caller < m.rule.n
    pub rounds : r ≤ last_round m.rule caller
    pub base : m.rule.can_fail s.broken ≡ true
    pub facts : Facts m.rule (is_word m.kind.word) caller (m.kind.code word) r (has s.broken) (holds s) (has s.lit)

  pub running_open : (s : State) (take caller : ℕ) (word : W) → taken m s (Open take caller word) ≡ true → m.rule.can_fail s.broken ≡ true
      → Running word take caller 0 (opened m take caller word s.broken)
  unfolding opened last_round holds stage_after
  running_open s take caller word t b =
      record { stage = sym (cond-false (ltb (3 * kings m.rule caller) 0) Decided (On take caller (kings m.rule caller) 0) (grind (arith, nat_tests))); in_hall = lc; rounds = omega arith; base = b; facts = facts-same m.rule _ caller _ 0 _ first _ dark _ lc at none start }
    where
      lc : caller < m.rule.n
      lc = ltb-true _ _ (and_parts (is_idle s.stage) (ltb caller m.rule.n) (sym (taken_open m s take caller word) ∙ t)).1

      first : ℕ → ℕ
      first p = cond (eqb p caller) (m.kind.code word) (m.kind.code m.rest)

      said : (p : ℕ) → is_word m.kind.word (first p) ≡ true
      said p = cond_both (eqb p caller) (m.kind.code word) (m.kind.code m.rest) (λ x. is_word m.kind.word x ≡ true) (λ _. coded word) (λ _. coded m.rest)

      dark : ℕ → Bool
      dark p = false

      s' : State
      s' = opened m take caller word s.broken

      at : (p : ℕ) → p < m.rule.n → holds s' p ≡ first p
      at p l = get_or-sixteen m.rule.n first p 0 l

      none : (p : ℕ) → p < m.rule.n → has 0 p ≡ dark p
      none p l = has-none p

      start : Facts m.rule (is_word m.kind.word) caller (m.kind.code word) 0 (has s.broken) first dark
      start =
          record {
            casts = λ p l x. omega (arith, law.kind.small _ (said p));
            said = λ x p l. said p;
            start = λ x. (cond-true _ (m.kind.code word) (m.kind.code m.rest) (eq-eqb caller caller refl), λ p l. refl);
            weak = λ x. absurd (omega arith);
            graded = λ x y. absurd (omega arith);
            called = λ x. absurd (omega arith);
            ruled = λ j x. absurd (omega arith);
            lights = λ b c z. absurd (another m.rule law.rule b caller lc c.can (λ q lq bq d. true≢false (sym (z q lq bq))));
          }

  -- the setting of the next round is one in which the rig's laws speak
  module _ (word : W) (take caller r : ℕ) (s : State) (run : Running word take caller r s) (go_on : r < last_round m.rule caller) where
    coming : Setting
    coming = setting_of m s take r

    few : kings m.rule caller < m.rule.n
    few = kings-few m.rule law.rule caller run.in_hall

    next_sound : Sound m.rule.n coming
    unfolding coming setting_of last_round
    next_sound =
        record {
          lawful = law.rig;
          small = law.kind.small;
          n16 = law.rule.sized.1;
          round1 = omega arith;
          round64 = omega (arith, few, law.rule.sized.1, go_on);
          casts = run.facts.casts;
        }

    king_in : suc r % 3 ≡ 1 → sender caller (suc r / 3) < m.rule.n
    unfolding last_round
    king_in x = sender-below m.rule.n caller (suc r / 3) run.in_hall (omega (arith, few, go_on))

    is_rest : is_word m.kind.word (m.kind.code m.rest) ≡ true
    is_rest = coded m.rest

    held_next : (p : ℕ) → p < m.rule.n → holds (advanced m s (On take caller (kings m.rule caller) r)) p ≡ held_after (kind_of (suc r)) m.rule (setting_of m s take r) (m.kind.code m.rest) caller (has s.lit) p
    unfolding advanced holds
    held_next p l = get_or-sixteen m.rule.n _ p 0 l

    lit_next : (p : ℕ) → p < m.rule.n → has (advanced m s (On take caller (kings m.rule caller) r)).lit p ≡ lit_after (kind_of (suc r)) m.rule (setting_of m s take r) (m.kind.code m.rest) (has s.lit) p
    unfolding advanced lamps_after lit_after
    lit_next p l = go (kind_of (suc r))
      where
        e : Setting
        e = setting_of m s take r

        rest : ℕ
        rest = m.kind.code m.rest

        go : (k : RoundKind) → has (lamps_after k m.rule e rest s.lit) p ≡ lit_after k m.rule e rest (has s.lit) p
        go Caller = refl
        go Weak = refl
        go Graded = has-mask_of m.rule.n (λ p. graded_lit m.rule (vote e) p (graded_held m.rule e.words rest (vote e) p)) p l
        go (King j) = refl

    pub running_round : Running word take caller (suc r) (advanced m s (On take caller (kings m.rule caller) r))
    unfolding advanced coming setting_of
    running_round =
        record {
          stage = refl;
          in_hall = run.in_hall;
          rounds = go_on;
          base = run.base;
          facts =
              facts-same m.rule (is_word m.kind.word) caller (m.kind.code word) (suc r) (has s.broken) _ _ _ _ run.in_hall held_next lit_next
              (facts-round m.rule law.rule (setting_of m s take r) (m.kind.code m.rest) caller (m.kind.code word) r (has s.lit) next_sound is_rest
              (base-fails s run.base) (coded word) run.in_hall king_in run.facts);
        }

    pub keeps-round : (b : ℕ → Bool) → Cover m.rule (has s.broken) b → (w : ℕ) → is_word m.kind.word w ≡ true → Agreed m.rule.n b (holds s) w → Lights m.rule.n b (has s.lit)
        → Agreed m.rule.n b (holds (advanced m s (On take caller (kings m.rule caller) r))) w × Lights m.rule.n b (has (advanced m s (On take caller (kings m.rule caller) r)).lit)
    unfolding coming setting_of
    keeps-round b c w lw a z =
        let k = keeps m.rule law.rule (setting_of m s take r) (m.kind.code m.rest) caller (m.kind.code word) r (has s.lit) next_sound is_rest
        (base-fails s run.base) (coded word) run.in_hall king_in run.facts b c w lw a z in
        (λ i l o. held_next i l ∙ k.0 i l o, λ i l o. lit_next i l ∙ k.1 i l o)

    -- what all outside b hold, they hold after a round with a vote, and are lit after a graded one
    pub stays-round : (b : ℕ → Bool) → Cover m.rule (has s.broken) b → (w : ℕ) → is_word m.kind.word w ≡ true → Agreed m.rule.n b (holds s) w → suc r % 3 ≢ 1
        → Agreed m.rule.n b (holds (advanced m s (On take caller (kings m.rule caller) r))) w × (suc r % 3 ≡ 0 → Lights m.rule.n b (has (advanced m s (On take caller (kings m.rule caller) r)).lit))
    unfolding coming setting_of
    stays-round b c w lw a d =
        let k = stays m.rule law.rule (setting_of m s take r) (m.kind.code m.rest) caller (m.kind.code word) r (has s.lit) next_sound is_rest
        (base-fails s run.base) (coded word) run.in_hall king_in run.facts b c w lw a (λ x. absurd (d x)) in
        let z = lit-after m.rule law.rule (setting_of m s take r) (m.kind.code m.rest) caller (m.kind.code word) r (has s.lit) next_sound is_rest
        (base-fails s run.base) (coded word) run.in_hall king_in run.facts b c w lw a in
        (λ i l o. held_next i l ∙ k i l o, λ x i l o. lit_next i l ∙ z x i l o)

  -- What a call can do to a hall in a cue, where it strikes none: nothing, a round, or a mark.
  pub data Shape (s : State) (take caller r : ℕ) : State → ℕ → Type 0 where
    same : Shape s take caller r s 0
    round : r < last_round m.rule caller → Shape s take caller r (advanced m s (On take caller (kings m.rule caller) r)) 1
    mark : (p : ℕ) → p < m.rule.n → m.rule.can_fail (marked s.broken p) ≡ true → Shape s take caller r (with_broken s (marked s.broken p)) 0

  not_idle : (take caller k r : ℕ) → is_idle (stage_after take caller k r) ≡ false
  unfolding stage_after
  not_idle take caller k r = at (ltb (3 * k) r)
    where
      at : (b : Bool) → is_idle (cond b Decided (On take caller k r)) ≡ false
      at true = refl
      at false = refl

  pub shape : (word : W) (take caller r : ℕ) (s : State) → Running word take caller r s → (c : Call W) → (c ≡ Strike → taken m s c ≡ true → ⊥)
      → Shape s take caller r (next m s c) (cond (is_round m c && taken m s c) 1 0)
  unfolding effect next stage_after last_round
  shape word take caller r s run (Open t x w) ns =
      subst (λ b. Shape s take caller r (cond b (opened m t x w s.broken) s) 0)
      (sym (taken_open m s t x w ∙ and_left _ _ (ap is_idle run.stage ∙ not_idle take caller (kings m.rule caller) r))) same
  shape word take caller r s run (Round sheet) ns =
      subst (λ b. Shape s take caller r (cond b (advanced m s s.stage) s) (cond b 1 0)) (sym (taken-round m s sheet))
      (subst (λ g. Shape s take caller r (cond (is_running g && leb 4096 (length sheet)) (advanced m s g) s) (cond (is_running g && leb 4096 (length sheet)) 1 0))
      (sym run.stage) (go (ltb (3 * kings m.rule caller) r) refl (leb 4096 (length sheet))))
    where
      go : (a : Bool) → ltb (3 * kings m.rule caller) r ≡ a → (b : Bool)
          → Shape s take caller r (cond (is_running (cond a Decided (On take caller (kings m.rule caller) r)) && b) (advanced m s (cond a Decided (On take caller (kings m.rule caller) r))) s)
          (cond (is_running (cond a Decided (On take caller (kings m.rule caller) r)) && b) 1 0)
      go true e b = same
      go false e false = same
      go false e true = round (omega (arith, ltb-false _ _ e))
  shape word take caller r s run Strike ns =
      absurd (ns refl (taken_strike m s ∙ ap not (ap is_idle run.stage ∙ not_idle take caller (kings m.rule caller) r)))
  shape word take caller r s run (Mark p) ns =
      subst (λ b. Shape s take caller r (cond b (with_broken s (marked s.broken p)) s) 0) (sym (taken-mark m s p))
      (go (ltb p m.rule.n) refl (m.rule.can_fail (marked s.broken p)) refl)
    where
      go : (a : Bool) → ltb p m.rule.n ≡ a → (b : Bool) → m.rule.can_fail (marked s.broken p) ≡ b → Shape s take caller r (cond (a && b) (with_broken s (marked s.broken p)) s) 0
      go false l b e = same
      go true l false e = same
      go true l true e = mark p (ltb-true _ _ l) e
  shape word take caller r s run (Clear p) ns =
      subst (λ b. Shape s take caller r (cond b (with_broken s (cleared s.broken p)) s) 0)
      (sym (taken-clear m s p ∙ and_left _ _ (ap is_idle run.stage ∙ not_idle take caller (kings m.rule caller) r))) same
  shape word take caller r s run (Read p) ns = go (taken m s (Read p))
    where
      go : (t : Bool) → Shape s take caller r (cond t s s) 0
      go true = same
      go false = same
  shape word take caller r s run (Lamp p) ns = go (taken m s (Lamp p))
    where
      go : (t : Bool) → Shape s take caller r (cond t s s) 0
      go true = same
      go false = same
