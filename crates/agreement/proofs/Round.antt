-- What is true after each round of a cue.
use Rattle.std.proofs.Common.{◌≡◌, ℕ, suc, ◌+◌, ◌*◌, ◌/◌, ◌%◌, ◌<◌, ◌≤◌, Bool, true, false, cond, not, ◌||◌, eqb, ◌≢◌, ◌⊎◌, sym, refl, ap, ◌∙◌, inl, inr, arith}
use Rattle.std.proofs.lemmas.Bool.{cases_Bool, cases_eq, eq-eqb, ne_eqb, both_ways, not-true, not_from_false, or_left, or_right, or_from, cond-true, cond-false}
use Rattle.sets.specs.Sets.{has}
use Rattle.rules.specs.Kings.{king}
use Rattle.rigs.specs.Lines.{silence}
use Rattle.agreement.specs.declared.stage.RoundKind.{RoundKind}
use Rattle.agreement.specs.declared.stage.RoundKind.TheVariants.{Caller, Weak, Graded, King}
use Rattle.agreement.specs.Meanings.{Rule, LawfulRule}
use Rattle.agreement.specs.Rounds.{fails, Setting, vote, weak_held, graded_held, graded_lit, wired_to, caller_held, king_held, kind_of, held_after, lit_after}
use Rattle.agreement.proofs.Searches.{find}
use Rattle.agreement.proofs.Failing.{another}
use Rattle.agreement.proofs.Weak.{weak-keeps, weak-is, weak-agrees}
use Rattle.agreement.proofs.Graded.{graded-word, graded-lit, graded-keeps, graded-lights}
use Rattle.agreement.proofs.Vote.{Sound, votes}
use Rattle.agreement.proofs.Facts.{Cover, Agreed, Lights, Facts, outside}
use Rattle.agreement.proofs.Kings.{wired_word, wired_is_word, sender}

mod3 : (x : ℕ) → (x % 3 ≡ 0) ⊎ ((x % 3 ≡ 1) ⊎ (x % 3 ≡ 2))
mod3 x = elim (cases_eq (x % 3) 0) [ inl e ↦ inl e | inr d ↦ elim (cases_eq (x % 3) 1) [ inl e ↦ inr (inl e) | inr c ↦ inr (inr (omega arith)) ] ]

module _ (R : Rule) (L : LawfulRule R) (e : Setting) (rest caller code r : ℕ) (lit : ℕ → Bool) (sound : Sound R.n e) (is_rest : e.words rest ≡ true)
    (broke : fails R (has e.broken) ≡ true) (is_code : e.words code ≡ true) (in_hall : caller < R.n) (kingIn : suc r % 3 ≡ 1 → sender caller (suc r / 3) < R.n)
    (facts : Facts R e.words caller code r (has e.broken) e.held lit) where
  abbrev pub held' : ℕ → ℕ
  held' = held_after (kind_of (suc r)) R e rest caller lit

  abbrev pub lit' : ℕ → Bool
  lit' = lit_after (kind_of (suc r)) R e rest lit

  -- what kind of round it is
  abbrev by : Bool → Bool → Bool → RoundKind
  by first weak graded = cond first Caller (cond weak Weak (cond graded Graded (King (suc r / 3))))

  is-weak : suc r % 3 ≡ 2 → kind_of (suc r) ≡ Weak
  unfolding kind_of
  is-weak x =
      ap (λ a. by a (eqb (suc r % 3) 2) (eqb (suc r % 3) 0)) (ne_eqb (suc r) 1 (omega arith))
      ∙ ap (λ b. by false b (eqb (suc r % 3) 0)) (eq-eqb (suc r % 3) 2 x)

  is-graded : suc r % 3 ≡ 0 → kind_of (suc r) ≡ Graded
  unfolding kind_of
  is-graded x =
      ap (λ a. by a (eqb (suc r % 3) 2) (eqb (suc r % 3) 0)) (ne_eqb (suc r) 1 (omega arith))
      ∙ (ap (λ b. by false b (eqb (suc r % 3) 0)) (ne_eqb (suc r % 3) 2 (omega arith)) ∙ ap (by false false) (eq-eqb (suc r % 3) 0 x))

  is-king : suc r % 3 ≡ 1 → r ≢ 0 → kind_of (suc r) ≡ King (suc r / 3)
  unfolding kind_of
  is-king x d =
      ap (λ a. by a (eqb (suc r % 3) 2) (eqb (suc r % 3) 0)) (ne_eqb (suc r) 1 (omega arith))
      ∙ (ap (λ b. by false b (eqb (suc r % 3) 0)) (ne_eqb (suc r % 3) 2 (omega arith)) ∙ ap (by false false) (ne_eqb (suc r % 3) 0 (omega arith)))

  is-first : r ≡ 0 → kind_of (suc r) ≡ Caller
  unfolding kind_of
  is-first x = ap (λ a. by a (eqb (suc r % 3) 2) (eqb (suc r % 3) 0)) (eq-eqb (suc r) 1 (omega arith))

  after-weak : suc r % 3 ≡ 2 → (p : ℕ) → held' p ≡ weak_held R e.words (vote e) p
  unfolding held_after
  after-weak x p = ap (λ k. held_after k R e rest caller lit p) (is-weak x)

  after-graded : suc r % 3 ≡ 0 → (p : ℕ) → held' p ≡ graded_held R e.words rest (vote e) p
  unfolding held_after
  after-graded x p = ap (λ k. held_after k R e rest caller lit p) (is-graded x)

  lit-graded : suc r % 3 ≡ 0 → (p : ℕ) → lit' p ≡ graded_lit R (vote e) p (graded_held R e.words rest (vote e) p)
  unfolding lit_after
  lit-graded x p = ap (λ k. lit_after k R e rest lit p) (is-graded x)

  lit-same : suc r % 3 ≢ 0 → (p : ℕ) → lit' p ≡ lit p
  unfolding lit_after
  lit-same d p = go (mod3 (suc r)) (cases_eq r 0)
    where
      go : (suc r % 3 ≡ 0) ⊎ ((suc r % 3 ≡ 1) ⊎ (suc r % 3 ≡ 2)) → (r ≡ 0) ⊎ (r ≡ 0 → ⊥) → lit' p ≡ lit p
      go (inl x) y = absurd (d x)
      go (inr (inl x)) (inl y) = ap (λ k. lit_after k R e rest lit p) (is-first y)
      go (inr (inl x)) (inr y) = ap (λ k. lit_after k R e rest lit p) (is-king x y)
      go (inr (inr x)) y = ap (λ k. lit_after k R e rest lit p) (is-weak x)

  -- round 1 is a king's round with the caller as king, since no lamp is lit yet
  after-wire : suc r % 3 ≡ 1 → (p : ℕ) → p < R.n → held' p ≡ king_held e rest lit (sender caller (suc r / 3)) p
  unfolding held_after caller_held king_held
  after-wire x p l = go (cases_eq r 0)
    where
      go : (r ≡ 0) ⊎ (r ≡ 0 → ⊥) → held' p ≡ king_held e rest lit (sender caller (suc r / 3)) p
      go (inl y) =
          ap (λ k. held_after k R e rest caller lit p) (is-first y)
          ∙ (ap (λ b. cond b (e.held p) (wired_to e rest caller p)) (sym (out (eqb p caller) ((facts.start y).1 p l)))
          ∙ ap (λ s. cond (eqb p s || lit p) (e.held p) (wired_to e rest s p)) (sym (ap (λ b. cond b caller (king caller (suc r / 3))) (eq-eqb (suc r / 3) 0 (omega arith)))))
        where
          out : (b : Bool) → lit p ≡ false → (b || lit p) ≡ b
          out true z = refl
          out false z = z
      go (inr y) =
          ap (λ k. held_after k R e rest caller lit p) (is-king x y)
          ∙ ap (λ s. cond (eqb p s || lit p) (e.held p) (wired_to e rest s p)) (sym (ap (λ b. cond b caller (king caller (suc r / 3))) (ne_eqb (suc r / 3) 0 (omega arith))))

  -- a station that is lit, or that wires, keeps its word in such a round
  wire-keeps : suc r % 3 ≡ 1 → (p : ℕ) → p < R.n → (p ≡ sender caller (suc r / 3)) ⊎ (lit p ≡ true) → held' p ≡ e.held p
  unfolding king_held
  wire-keeps x p l (inl k) = after-wire x p l ∙ cond-true _ _ _ (or_left _ _ (eq-eqb p _ k))
  wire-keeps x p l (inr k) = after-wire x p l ∙ cond-true _ _ _ (or_right _ _ k)

  wire_reads : suc r % 3 ≡ 1 → (p : ℕ) → p < R.n → p ≢ sender caller (suc r / 3) → lit p ≡ false → held' p ≡ wired_to e rest (sender caller (suc r / 3)) p
  unfolding king_held
  wire_reads x p l d k = after-wire x p l ∙ cond-false _ _ _ (or_from _ _ (ne_eqb p _ d) k)

  one : suc r % 3 ≡ 0 → (p q : ℕ) → p < R.n → q < R.n → has e.broken p ≡ false → has e.broken q ≡ false → e.words (e.held p) ≡ true → e.words (e.held q) ≡ true → e.held p ≡ e.held q
  one x = facts.weak (omega arith)

  module _ (b : ℕ → Bool) (cover : Cover R (has e.broken) b) where
    -- what all outside b hold stays, where in a wire round these are lit
    pub stays : (w : ℕ) → e.words w ≡ true → Agreed R.n b e.held w → (suc r % 3 ≡ 1 → Lights R.n b lit) → Agreed R.n b held' w
    stays w lw a z i l o = go (mod3 (suc r))
      where
        go : (suc r % 3 ≡ 0) ⊎ ((suc r % 3 ≡ 1) ⊎ (suc r % 3 ≡ 2)) → held' i ≡ w
        go (inl x) = after-graded x i ∙ graded-keeps R L e.words sound.small (has e.broken) e.held (vote e) (votes R.n e sound) b cover.more cover.can w lw a i l o rest
        go (inr (inl x)) = wire-keeps x i l (inr (z x i l o)) ∙ a i l o
        go (inr (inr x)) = after-weak x i ∙ weak-keeps R L e.words sound.small (has e.broken) e.held (vote e) (votes R.n e sound) b cover.more cover.can w lw a i l o

    pub lit-after : (w : ℕ) → e.words w ≡ true → Agreed R.n b e.held w → suc r % 3 ≡ 0 → Lights R.n b lit'
    lit-after w lw a x i l o =
        let k = graded-keeps R L e.words sound.small (has e.broken) e.held (vote e) (votes R.n e sound) b cover.more cover.can w lw a i l o rest in
        let g = graded-lights R L e.words sound.small (has e.broken) e.held (vote e) (votes R.n e sound) b cover.more cover.can w lw a i l o in
        lit-graded x i ∙ (ap (graded_lit R (vote e) i) k ∙ g)

    -- those that hold one word and are lit keep both
    pub keeps : (w : ℕ) → e.words w ≡ true → Agreed R.n b e.held w → Lights R.n b lit → Agreed R.n b held' w × Lights R.n b lit'
    keeps w lw a z = (
      stays w lw a (λ x. z),
      λ i l o. elim (cases_eq (suc r % 3) 0) [ inl x ↦ lit-after w lw a x i l o | inr x ↦ lit-same x i ∙ z i l o ],
    )

    -- the speaker of a wire round is good: all hold its word
    spoken : suc r % 3 ≡ 1 → b (sender caller (suc r / 3)) ≡ false → Agreed R.n b held' (e.held (sender caller (suc r / 3)))
    spoken x o i l oi = go (cases_eq i (sender caller (suc r / 3))) (cases_Bool (lit i)) (cases_eq r 0)
      where
        s : ℕ
        s = sender caller (suc r / 3)

        gs : has e.broken s ≡ false
        gs = outside R (has e.broken) b cover s (kingIn x) o

        gi : has e.broken i ≡ false
        gi = outside R (has e.broken) b cover i l oi

        go : (i ≡ s) ⊎ (i ≡ s → ⊥) → (lit i ≡ true) ⊎ (lit i ≡ false) → (r ≡ 0) ⊎ (r ≡ 0 → ⊥) → held' i ≡ e.held s
        go (inl k) z y = wire-keeps x i l (inl k) ∙ ap e.held k
        go (inr k) (inr z) y =
            wire_reads x i l k z ∙ wired_word R.n e sound rest s i (kingIn x) l (λ t. k (sym t)) gs gi (facts.said (omega arith) s (kingIn x))
        go (inr k) (inl z) (inl y) = absurd (both_ways _ ((facts.start y).1 i l) z)
        go (inr k) (inl z) (inr y) = wire-keeps x i l (inr z) ∙ sym (facts.graded (omega arith) (omega arith) i s l (kingIn x) gi gs z)

    -- what was settled stays settled
    settled : 1 ≤ r → (w : ℕ) → e.words w ≡ true → Agreed R.n b e.held w → (r % 3 ≡ 0 → Lights R.n b lit) → Agreed R.n b held' w × (suc r % 3 ≡ 0 → Lights R.n b lit')
    settled h w lw a z = (stays w lw a (λ x. z (omega arith)), lit-after w lw a)

  words' : suc r % 3 ≢ 2 → (p : ℕ) → p < R.n → e.words (held' p) ≡ true
  words' d p l = go (mod3 (suc r)) (cases_eq p (sender caller (suc r / 3))) (cases_Bool (lit p))
    where
      go : (suc r % 3 ≡ 0) ⊎ ((suc r % 3 ≡ 1) ⊎ (suc r % 3 ≡ 2)) → (p ≡ sender caller (suc r / 3)) ⊎ (p ≡ sender caller (suc r / 3) → ⊥) → (lit p ≡ true) ⊎ (lit p ≡ false) → e.words (held' p) ≡ true
      go (inl x) k z = ap e.words (after-graded x p) ∙ (graded-word R L e.words sound.small (has e.broken) e.held (vote e) (votes R.n e sound) rest is_rest p)
      go (inr (inl x)) (inl k) z = ap e.words (wire-keeps x p l (inl k)) ∙ (facts.said (omega arith) p l)
      go (inr (inl x)) (inr k) (inl z) = ap e.words (wire-keeps x p l (inr z)) ∙ (facts.said (omega arith) p l)
      go (inr (inl x)) (inr k) (inr z) = ap e.words (wire_reads x p l k z) ∙ (wired_is_word e rest _ p is_rest)
      go (inr (inr x)) k z = absurd (d x)

  casts' : (p : ℕ) → p < R.n → held' p ≢ silence
  casts' p l =
      elim (cases_eq (suc r % 3) 2) [
        | inr x ↦ (λ y. omega (arith, sound.small _ (words' x p l)))
        | inl x ↦ elim (weak-is R L e.words sound.small (has e.broken) e.held (vote e) (votes R.n e sound) p)
            [ inl t ↦ (λ y. omega (arith, after-weak x p, sound.small _ t.0)) | inr t ↦ (λ y. omega (arith, after-weak x p, t)) ]
      ]

  pub facts-round : Facts R e.words caller code (suc r) (has e.broken) held' lit'
  facts-round =
      record {
        casts = casts';
        said = words';
        start = λ x. absurd (omega arith);
        weak = λ x p q lp lq gp gq wp wq.
            after-weak x p ∙ (weak-agrees R L e.words sound.small (has e.broken) e.held (vote e) (votes R.n e sound) p q lp lq gp gq
            (ap e.words (sym (after-weak x p)) ∙ wp) (ap e.words (sym (after-weak x q)) ∙ wq) ∙ sym (after-weak x q));
        graded = λ x y p q lp lq gp gq t.
            after-graded x q ∙ (graded-lit R L e.words sound.small (has e.broken) e.held (vote e) (votes R.n e sound) broke (one x) rest is_rest p q lp lq gp gq (sym (lit-graded x p) ∙ t) ∙ sym (after-graded x p));
        called = called';
        ruled = ruled';
        lights = lights';
      }
    where
      called' : 1 ≤ suc r → (b : ℕ → Bool) → Cover R (has e.broken) b → b caller ≡ false → Agreed R.n b held' code × (suc r % 3 ≡ 0 → Lights R.n b lit')
      called' h b c o =
          elim (cases_eq r 0) [
            | inr y ↦ (let t = facts.called (omega arith) b c o in settled b c (omega arith) code is_code t.0 t.1)
            | inl y ↦
                (let x : suc r % 3 ≡ 1 = rw y refl in
                let k : sender caller (suc r / 3) ≡ caller = rw y refl in
                let a = spoken b c x (ap b k ∙ o) in
                (λ i l oi. a i l oi ∙ (ap e.held k ∙ (facts.start y).0), λ z. absurd (omega arith)))
          ]

      ruled' : (j : ℕ) → 3 * j + 1 ≤ suc r → (b : ℕ → Bool) → Cover R (has e.broken) b → b (sender caller j) ≡ false
          → (w : ℕ) × (e.words w ≡ true) × Agreed R.n b held' w × (suc r % 3 ≡ 0 → Lights R.n b lit')
      ruled' j h b c o =
          elim (cases_eq (3 * j + 1) (suc r)) [
            | inr y ↦
                (let t = facts.ruled j (omega arith) b c o in
                let u = settled b c (omega arith) t.0 t.1 t.2 t.3 in
                (t.0, t.1, u.0, u.1))
            | inl y ↦
                (let k : suc r / 3 ≡ j = omega arith in
                let x : suc r % 3 ≡ 1 = omega arith in
                (e.held (sender caller (suc r / 3)), facts.said (omega arith) _ (kingIn x), spoken b c x (ap (λ t. b (sender caller t)) k ∙ o), λ z. absurd (omega arith)))
          ]

      lights' : (b : ℕ → Bool) → Cover R (has e.broken) b → Lights R.n b lit' → (w : ℕ) × (e.words w ≡ true) × Agreed R.n b held' w
      lights' b c z = go (cases_eq (suc r % 3) 0) (find R.n (λ i. not (b i)))
        where
          go : (suc r % 3 ≡ 0) ⊎ (suc r % 3 ≡ 0 → ⊥) → ((i : ℕ) × (i < R.n) × (not (b i) ≡ true)) ⊎ ((i : ℕ) → i < R.n → not (b i) ≡ false) → (w : ℕ) × (e.words w ≡ true) × Agreed R.n b held' w
          go x (inr none) = absurd (another R L b caller in_hall c.can (λ q lq bq d. both_ways _ (none q lq) (not_from_false _ bq)))
          go (inl x) (inl t) =
              let p : ℕ = t.0 in
              let bp : b p ≡ false = not-true _ t.2 in (
                held' p,
                words' (omega arith) p t.1,
                λ i l o. after-graded x i ∙ (graded-lit R L e.words sound.small (has e.broken) e.held (vote e) (votes R.n e sound) broke (one x) rest is_rest p i t.1 l (outside R _ b c p t.1 bp) (outside R _ b c i l o) (sym (lit-graded x p) ∙ z p t.1 bp) ∙ sym (after-graded x p)),
              )
          go (inr x) (inl t) =
              let on : Lights R.n b lit = λ i l o. sym (lit-same x i) ∙ z i l o in
              let f = facts.lights b c on in
              (f.0, f.1, stays b c f.0 f.1 f.2 (λ y. on))
