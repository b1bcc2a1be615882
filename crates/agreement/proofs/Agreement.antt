-- Agreement over histories.
use Rattle.std.proofs.Common.{◌≡◌, ℕ, suc, ◌+◌, ◌*◌, ◌<◌, Bool, true, false, cond, ◌&&◌, ◌||◌, eqb, ltb, List, [], ◌∷◌, ◌++◌, get_or, is_some, Some, None, Ok, sym, refl, ap, ◌∙◌, subst, inl, inr, arith}
use Rattle.refusals.specs.declared.Refusal.TheVariants.{NoSuchStation, NotDecided, HoldsVoid}
use Rattle.std.proofs.lemmas.Bool.{cases_Bool, both_ways, or_left, cond-true, lt-ltb}
use Rattle.sets.specs.Sets.{has}
use Rattle.agreement.specs.declared.stage.Stage.TheVariants.{Running as On, Decided}
use Rattle.agreement.specs.declared.stage.Answer.TheVariants.{Word}
use Rattle.agreement.specs.Meanings.{Meaning, Lawful}
use Rattle.agreement.specs.Rounds.{kings, last_round}
use Rattle.agreement.specs.Calls.{Call, Open, Read, reply, answer, refusal, unless, replied, is_decided, word_answer, State, holds, advanced, next, stage_after, with_broken, marked, taken, effect, after, opened}
use Rattle.piles.proofs.Standing.{pile}
use Rattle.agreement.specs.Agreement.{Good as Good-by_calls, AllHold as AllHold-by_calls, Unstruck, is_round, rounds_in, Cue, EndsInOneWord, LampTellsAll, AllLitIsFinal, Agreement, AbovePiles}
use Rattle.sets.proofs.Masks.{has-mask_of}
use Rattle.words.specs.Kinds.{is_word}
use Rattle.words.proofs.KindLaws.{same_word, word-there}
use Rattle.agreement.proofs.Kings.{good-king}
use Rattle.agreement.proofs.Facts.{Cover, Agreed, Lights, facts-more}
use Rattle.agreement.proofs.Broken.{broken_calls, broken-set}
use Rattle.agreement.proofs.Runs.{base-fails, base-after, Running, running_open, running_round, keeps-round, Shape, same, round, mark, shape}

module _ {W : Type 0} (m : Meaning W) (law : Lawful m) where
  -- the broken set has the stations that the calls left broken
  abbrev pub Good : List (Call W) → ℕ → Type 0
  Good h p = (p < m.rule.n) × (has (after m h).broken p ≡ false)

  pub as_set : (h : List (Call W)) (p : ℕ) → Good-by_calls m h p → Good h p
  as_set h p g = (g.0, elim (cases_Bool (has (after m h).broken p)) [ inl t ↦ absurd (g.1 (broken_calls m law h p g.0 t)) | inr f ↦ f ])

  pub as_calls : (h : List (Call W)) (p : ℕ) → Good h p → Good-by_calls m h p
  as_calls h p g = (g.0, λ b. both_ways _ g.1 (broken-set m law h p g.0 b))

  marked_more : (broken p i : ℕ) → i < m.rule.n → has broken i ≡ true → has (marked broken p) i ≡ true
  unfolding marked
  marked_more broken p i l e = has-mask_of 16 (λ i. has broken i || eqb p i) i (omega (arith, law.rule.sized.1)) ∙ or_left _ _ e

  shape_grows : {s : State} {take caller r : ℕ} {s' : State} {k : ℕ} → Shape m law s take caller r s' k → (i : ℕ) → i < m.rule.n → has s.broken i ≡ true → has s'.broken i ≡ true
  unfolding advanced with_broken
  shape_grows same i l e = e
  shape_grows (round go) i l e = e
  shape_grows {s} (mark p lp t) i l e = marked_more s.broken p i l e

  shape_running : {s : State} {take caller r : ℕ} {s' : State} {k : ℕ} (word : W) → Shape m law s take caller r s' k → Running m law word take caller r s → Running m law word take caller (r + k) s'
  unfolding with_broken holds
  shape_running {s} {take} {caller} {r} word same run = subst (λ x. Running m law word take caller x s) (omega arith) run
  shape_running {s} {take} {caller} {r} word (round go) run =
      let e : suc r ≡ r + 1 = omega arith in
      subst (λ x. Running m law word take caller x (advanced m s (On take caller (kings m.rule caller) r))) e (running_round m law word take caller r s run go)
  shape_running {s} {take} {caller} {r} word (mark p lp t) run =
      let e : r ≡ r + 0 = omega arith in
      subst (λ x. Running m law word take caller x (with_broken s (marked s.broken p))) e
      (record {
        stage = run.stage;
        in_hall = run.in_hall;
        rounds = run.rounds;
        base = t;
        facts = facts-more m.rule _ caller _ r _ _ _ _ (λ i l h. marked_more s.broken p i l h) run.facts;
      })

  shape-keeps : {s : State} {take caller r : ℕ} {s' : State} {k : ℕ} (word : W) → Shape m law s take caller r s' k → Running m law word take caller r s
      → (b : ℕ → Bool) → Cover m.rule (has s.broken) b → (w : ℕ) → is_word m.kind.word w ≡ true → Agreed m.rule.n b (holds s) w → Lights m.rule.n b (has s.lit)
      → Agreed m.rule.n b (holds s') w × Lights m.rule.n b (has s'.lit)
  unfolding with_broken holds
  shape-keeps word same run b c w lw a z = (a, z)
  shape-keeps {s} {take} {caller} {r} word (round go) run b c w lw a z = keeps-round m law word take caller r s run go b c w lw a z
  shape-keeps word (mark p lp t) run b c w lw a z = (a, z)

  shape_still : {s : State} {take caller r : ℕ} {s' : State} {k : ℕ} → Shape m law s take caller r s' k → r ≡ last_round m.rule caller → (s'.held ≡ s.held) × (k ≡ 0)
  unfolding with_broken
  shape_still same e = (refl, refl)
  shape_still (round go) e = absurd (omega arith)
  shape_still (mark p lp t) e = (refl, refl)

  -- the state after one more call
  module _ (word : W) (take caller r : ℕ) (h : List (Call W)) (run : Running m law word take caller r (after m h)) where
    on-run : (later : List (Call W)) → Unstruck m h later → Running m law word take caller (r + rounds_in m h later) (after m (later ++ h))
    unfolding after
    on-run [] u = subst (λ x. Running m law word take caller x (after m h)) (omega arith) run
    on-run (c ∷ later) u =
        let ih = on-run later u.0 in
        let sh = shape m law word take caller (r + rounds_in m h later) (after m (later ++ h)) ih c u.1 in
        subst (λ x. Running m law word take caller x (after m (c ∷ (later ++ h)))) (omega arith) (shape_running word sh ih)

    on_shape : (c : Call W) (later : List (Call W)) (u : Unstruck m h (c ∷ later))
        → Shape m law (after m (later ++ h)) take caller (r + rounds_in m h later) (after m (c ∷ (later ++ h))) (cond (is_round m c && taken m (after m (later ++ h)) c) 1 0)
    unfolding after
    on_shape c later u = shape m law word take caller (r + rounds_in m h later) (after m (later ++ h)) (on-run later u.0) c u.1

    pub on_grows : (later : List (Call W)) → Unstruck m h later → (i : ℕ) → i < m.rule.n → has (after m h).broken i ≡ true → has (after m (later ++ h)).broken i ≡ true
    on_grows [] u i l e = e
    on_grows (c ∷ later) u i l e = shape_grows (on_shape c later u) i l (on_grows later u.0 i l e)

    on-good : (later : List (Call W)) → Unstruck m h later → (p : ℕ) → Good (later ++ h) p → Good h p
    on-good later u p g = (
      g.0,
      elim (cases_Bool (has (after m h).broken p)) [ inl t ↦ absurd (both_ways _ g.1 (on_grows later u p g.0 t)) | inr f ↦ f ],
    )

    on-keeps : (later : List (Call W)) → Unstruck m h later → (b : ℕ → Bool) → Cover m.rule (has (after m (later ++ h)).broken) b → (w : ℕ) → is_word m.kind.word w ≡ true
        → Agreed m.rule.n b (holds (after m h)) w → Lights m.rule.n b (has (after m h).lit)
        → Agreed m.rule.n b (holds (after m (later ++ h))) w × Lights m.rule.n b (has (after m (later ++ h)).lit)
    on-keeps [] u b c w lw a z = (a, z)
    on-keeps (x ∷ later) u b c w lw a z =
        let sh = on_shape x later u in
        let c' : Cover m.rule (has (after m (later ++ h)).broken) b = record { more = λ i l t. c.more i l (shape_grows sh i l t); can = c.can } in
        let k = on-keeps later u.0 b c' w lw a z in
        shape-keeps word sh (on-run later u.0) b c' w lw k.0 k.1

    on_still : r ≡ last_round m.rule caller → (later : List (Call W)) → Unstruck m h later → ((after m (later ++ h)).held ≡ (after m h).held) × (rounds_in m h later ≡ 0)
    on_still e [] u = (refl, refl)
    on_still e (c ∷ later) u =
        let ih = on_still e later u.0 in
        let st = shape_still (on_shape c later u) (omega (arith, ih.1)) in
        (st.0 ∙ ih.0, omega (arith, ih.1, st.1))

  pub cue_running : (h : List (Call W)) (caller : ℕ) (word : W) (r : ℕ) → Cue m h caller word r → (take : ℕ) × Running m law word take caller r (after m h)
  unfolding after effect next
  cue_running h caller word r q =
      let first : Running m law word q.take caller 0 (after m (Open q.take caller word ∷ q.before)) =
      subst (λ t. Running m law word q.take caller 0 (cond t (opened m q.take caller word (after m q.before).broken) (after m q.before))) (sym q.opened)
      (running_open m law (after m q.before) q.take caller word q.opened (base-after m law q.before)) in
      let last = on-run word q.take caller 0 (Open q.take caller word ∷ q.before) first q.later q.unstruck in
      let e : 0 + rounds_in m (Open q.take caller word ∷ q.before) q.later ≡ r = omega (arith, q.rounds) in (
        q.take,
        subst (λ x. Running m law word q.take caller r (after m x)) (sym q.run)
            (subst (λ k. Running m law word q.take caller k (after m (q.later ++ (Open q.take caller word ∷ q.before)))) e last),
      )

  -- the broken set itself, as one that contains it and can fail
  pub self : (h : List (Call W)) → Cover m.rule (has (after m h).broken) (has (after m h).broken)
  self h = record { more = λ i l t. t; can = base-fails m law (after m h) (base-after m law h) }

  decided : (take caller k r : ℕ) → 3 * k < r → stage_after take caller k r ≡ Decided
  unfolding stage_after
  decided take caller k r l = cond-true _ _ _ (lt-ltb _ _ l)

  read_gives : (s : State) (p : ℕ) (w : W) → s.stage ≡ Decided → p < m.rule.n → holds s p ≡ m.kind.code w → reply m s (Read p) ≡ Ok (Word w)
  unfolding reply refusal answer
  read_gives s p w st l e =
      let a : m.kind.word (holds s p) ≡ Some w = ap m.kind.word e ∙ law.kind.back w in
      ap (λ b. replied (unless b NotDecided (unless (ltb p m.rule.n) NoSuchStation (unless (is_word m.kind.word (holds s p)) HoldsVoid None))) (word_answer (m.kind.word (holds s p)))) (ap is_decided st)
      ∙ (ap (λ b. replied (unless b NoSuchStation (unless (is_word m.kind.word (holds s p)) HoldsVoid None)) (word_answer (m.kind.word (holds s p)))) (lt-ltb p m.rule.n l)
      ∙ ap (λ o. replied (unless (is_some o) HoldsVoid None) (word_answer o)) a)

  ends : (h : List (Call W)) → EndsInOneWord m h
  unfolding last_round holds
  ends h caller word q =
      let t = cue_running h caller word (last_round m.rule caller) q in
      let run = t.1 in
      let k = good-king m.rule law.rule caller run.in_hall (has (after m h).broken) (base-fails m law (after m h) (base-after m law h)) in
      let x = run.facts.ruled k.0 (omega (arith, k.1)) _ (self h) k.2 in
      let y = word-there m.kind.code m.kind.word law.kind.only x.0 x.1 in (
        y.0,
        (λ still u.
            let held : AllHold-by_calls m (still ++ h) y.0 = λ p g'.
            let g = as_set (still ++ h) p g' in
            let old = on-good word t.0 caller _ h run still u p g in
            ap (λ l. get_or l p 0) (on_still word t.0 caller _ h run refl still u).0 ∙ (x.2 p old.0 old.1 ∙ sym y.2) in
            let now = on-run word t.0 caller _ h run still u in
            let st = now.stage ∙ decided t.0 caller (kings m.rule caller) _ (omega arith) in
            (held, λ p g'. read_gives (after m (still ++ h)) p y.0 st g'.0 (held p g'))),
        (λ g'. let g = as_set h caller g' in same_word m.kind.code m.kind.word law.kind.back y.0 word (y.2 ∙ (sym (x.2 caller g.0 g.1) ∙ (run.facts.called (omega arith) _ (self h) g.1).0 caller g.0 g.1))),
      )

  tells_all : (h : List (Call W)) → LampTellsAll m h
  tells_all h caller word j q p g' z =
      let g = as_set h p g' in
      let run = (cue_running h caller word (3 * suc j) q).1 in
      let y = word-there m.kind.code m.kind.word law.kind.only (holds (after m h) p) (run.facts.said (omega arith) p g.0) in (
        y.0,
        sym y.2,
        λ i gi'. let gi = as_set h i gi' in run.facts.graded (omega arith) (omega arith) p i g.0 gi.0 g.1 gi.1 z ∙ sym y.2,
      )

  final : (h : List (Call W)) → AllLitIsFinal m h
  final h caller word r q z =
      let t = cue_running h caller word r q in
      let run = t.1 in
      let x = run.facts.lights _ (self h) (λ i l o. z i (as_calls h i (l, o))) in
      let y = word-there m.kind.code m.kind.word law.kind.only x.0 x.1 in (
        y.0,
        (λ p g'. let g = as_set h p g' in x.2 p g.0 g.1 ∙ sym y.2),
        (λ still u.
            let was : (i : ℕ) → i < m.rule.n → has (after m (still ++ h)).broken i ≡ false → Good h i = λ i l o. on-good word t.0 caller r h run still u i (l, o) in
            let k = on-keeps word t.0 caller r h run still u _ (self (still ++ h)) x.0 x.1
            (λ i l o. x.2 i l (was i l o).1) (λ i l o. z i (as_calls h i (was i l o))) in
            (λ p g'. let g = as_set (still ++ h) p g' in k.0 p g.0 g.1 ∙ sym y.2, λ p g'. let g = as_set (still ++ h) p g' in k.1 p g.0 g.1)),
      )

pub agreement : (W : Type 0) → Agreement W
agreement W m law h = record { ends = ends m law h; lamp = tells_all m law h; final = final m law h }

-- the meaning of a hall above a pile is lawful too
pub above_piles : (W : Type 0) → AbovePiles W
above_piles W = record {
  over_rig = λ m rule kind ps all rig lawful. agreement W _ (record { rule = rule; rig = ((pile ps all).over_rig rig.wire rig.trio lawful).lawful; kind = kind });
  over_mender = λ m rule kind ps all wire torn told lawful. agreement W _ (record { rule = rule; rig = ((pile ps all).over_mender wire torn told lawful).lawful; kind = kind });
}
