-- The graded round, for a general rule.
use Rattle.std.proofs.Common.{◌≡◌, ℕ, ◌<◌, Bool, true, false, not, ◌&&◌, ◌||◌, eqb, ◌≢◌, ◌⊎◌, sym, ap, ◌∙◌, inl, inr}
use Rattle.std.proofs.lemmas.Bool.{cases_Bool, cases_eq, eqb-true, eqb-false, eq-eqb, ne_eqb, or_left, or_right, both_ways, and_parts, and_from, not-true, or_cases, not_from_false, or_parts}
use Rattle.sets.specs.Sets.{any}
use Rattle.sets.proofs.Tests.{any-decides}
use Rattle.agreement.specs.Meanings.{Rule, LawfulRule}
use Rattle.agreement.specs.Rounds.{fails, unanimous, in_y, graded_held, graded_lit}
use Rattle.agreement.proofs.Searches.{find, smallest-found, smallest_hit}
use Rattle.agreement.proofs.Failing.{fails-part, fails-single, fails-two, all_but, cannot_more, another}
use Rattle.agreement.proofs.Votes.{Votes, unanimous-at, all-w, all-unanimous}

module _ (R : Rule) (L : LawfulRule R) (words : ℕ → Bool) (small : (x : ℕ) → words x ≡ true → x < 4096) (bad : ℕ → Bool) (held : ℕ → ℕ) (v : ℕ → ℕ → ℕ → ℕ) (votes : Votes R.n words bad held v) where
  -- q with those r whose v(p,q,r) is w
  support : ℕ → ℕ → ℕ → ℕ → Bool
  support p w q r = eqb r q || (not (eqb r p) && eqb (v p q r) w)

  support-vote : (p w q r : ℕ) → support p w q r ≡ true → r ≢ q → (r ≢ p) × (v p q r ≡ w)
  unfolding support
  support-vote p w q r e d =
      elim (or_cases (eqb r q) (not (eqb r p) && eqb (v p q r) w) e) [
        | inl x ↦ absurd (d (eqb-true r q x))
        | inr x ↦ let t = and_parts (not (eqb r p)) (eqb (v p q r) w) x in (eqb-false r p (not-true _ t.0), eqb-true (v p q r) w t.1)
      ]

  in_y-parts : (p w q : ℕ) → in_y R v p w q ≡ true → (q ≢ p) × (fails R (support p w q) ≡ false)
  unfolding in_y support
  in_y-parts p w q e =
      let t = and_parts (not (eqb q p)) (not (fails R (support p w q))) e in
      (eqb-false q p (not-true _ t.0), not-true _ t.1)

  in_y-from : (p w q : ℕ) → q ≢ p → fails R (support p w q) ≡ false → in_y R v p w q ≡ true
  unfolding in_y support
  in_y-from p w q d f = and_from _ _ (not_from_false _ (ne_eqb q p d)) (not_from_false _ f)

  -- a set that cannot fail and holds q has a station beside q
  beside-q : (p w q : ℕ) → q < R.n → fails R (support p w q) ≡ false → (r : ℕ) × (r < R.n) × (support p w q r ≡ true) × (r ≢ q)
  beside-q p w q lq cannot = go (find R.n (λ r. support p w q r && not (eqb r q)))
    where
      go : ((r : ℕ) × (r < R.n) × ((support p w q r && not (eqb r q)) ≡ true)) ⊎ ((r : ℕ) → r < R.n → (support p w q r && not (eqb r q)) ≡ false) → (r : ℕ) × (r < R.n) × (support p w q r ≡ true) × (r ≢ q)
      go (inl t) = let x = and_parts (support p w q t.0) (not (eqb t.0 q)) t.2 in (t.0, t.1, x.0, eqb-false t.0 q (not-true _ x.1))
      go (inr none) =
          absurd (both_ways _ cannot (fails-part R L (support p w q) (λ s. eqb s q)
          (λ i l e. elim (cases_Bool (eqb i q)) [ inl t ↦ t | inr f ↦ absurd (both_ways _ (none i l) (and_from _ _ e (not_from_false _ f))) ]) (fails-single R L q lq)))

  -- and one outside every set that can fail
  member-out : (b : ℕ → Bool) → fails R b ≡ true → (f : ℕ → Bool) → fails R f ≡ false → (s : ℕ) × (s < R.n) × (f s ≡ true) × (b s ≡ false)
  member-out b can f cannot = go (find R.n (λ s. f s && not (b s)))
    where
      go : ((s : ℕ) × (s < R.n) × ((f s && not (b s)) ≡ true)) ⊎ ((s : ℕ) → s < R.n → (f s && not (b s)) ≡ false) → (s : ℕ) × (s < R.n) × (f s ≡ true) × (b s ≡ false)
      go (inl t) = let x = and_parts (f t.0) (not (b t.0)) t.2 in (t.0, t.1, x.0, not-true _ x.1)
      go (inr none) =
          absurd (both_ways _ cannot (fails-part R L f b
          (λ i l e. elim (cases_Bool (b i)) [ inl t ↦ t | inr g ↦ absurd (both_ways _ (none i l) (and_from _ _ e (not_from_false _ g))) ]) can))

  -- a station holds a word after a graded round
  pub graded-word : (rest : ℕ) → words rest ≡ true → (p : ℕ) → words (graded_held R words rest v p) ≡ true
  unfolding graded_held
  graded-word rest is_rest p = elim (smallest-found 4096 (λ w. words w && any R.n (in_y R v p w)) rest) [ inl t ↦ (and_parts _ _ t.1).0 | inr t ↦ ap words t.0 ∙ is_rest ]

  -- where Y(w) is not empty, what p holds has a Y that is not empty too
  graded_passes : (rest p w : ℕ) → words w ≡ true → any R.n (in_y R v p w) ≡ true → (words (graded_held R words rest v p) ≡ true) × (any R.n (in_y R v p (graded_held R words rest v p)) ≡ true)
  unfolding graded_held
  graded_passes rest p w lw y =
      and_parts (words (graded_held R words rest v p)) (any R.n (in_y R v p (graded_held R words rest v p)))
      (smallest_hit 4096 (λ w. words w && any R.n (in_y R v p w)) rest w (small w lw) (and_from _ _ lw y)).1

  -- the stations outside b are good, and all hold w
  module _ (b : ℕ → Bool) (more : (i : ℕ) → i < R.n → bad i ≡ true → b i ≡ true) (can : fails R b ≡ true)
      (w : ℕ) (is_word : words w ≡ true) (agreed : (i : ℕ) → i < R.n → b i ≡ false → held i ≡ w) (p : ℕ) (lp : p < R.n) (bp : b p ≡ false) where
    all_have : (s : ℕ) → s < R.n → p ≢ s → b s ≡ false → (r : ℕ) → r < R.n → r ≢ p → r ≢ s → v p s r ≡ w
    all_have s ls d bs = all-w R words bad held v votes b more w is_word agreed p s lp ls d bp bs

    -- then no other word is backed
    kept-only : (w' : ℕ) → any R.n (in_y R v p w') ≡ true → w' ≡ w
    kept-only w' y =
        let a = (any-decides (in_y R v p w') R.n).0 y in
        let q : ℕ = a.0 in
        let c = in_y-parts p w' q a.2 in
        let m = member-out b can (support p w' q) c.1 in
        elim (cases_eq m.0 q) [
          | inl e ↦ (let r = beside-q p w' q a.1 c.1 in
              let t = support-vote p w' q r.0 r.2 r.3 in
              sym t.1 ∙ all_have q a.1 (λ z. c.0 (sym z)) (ap b (sym e) ∙ m.3) r.0 r.1 t.0 r.3)
          | inr d ↦ (let t = support-vote p w' q m.0 m.2 d in
              sym t.1 ∙ (votes.swap p q m.0 ∙ all_have m.0 m.1 (λ z. t.0 (sym z)) m.3 q a.1 c.0 (λ z. d (sym z))))
        ]

    -- all outside b hold w after a graded round
    pub graded-keeps : (rest : ℕ) → graded_held R words rest v p ≡ w
    unfolding support
    graded-keeps rest =
        elim (cases_eq (graded_held R words rest v p) w) [
          | inl e ↦ e
          | inr ne ↦ absurd (another R L b p lp can (λ q lq bq d.
              ne (kept-only _ (graded_passes rest p w is_word ((any-decides (in_y R v p w) R.n).1 (q, lq, in_y-from p w q d (support-all q lq bq d)))).1)))
        ]
      where
        support-all : (q : ℕ) → q < R.n → b q ≡ false → q ≢ p → fails R (support p w q) ≡ false
        support-all q lq bq d = all_but R L (support p w q) p lp (λ i l x. at i l x (cases_eq i q))
          where
            at : (i : ℕ) → i < R.n → i ≢ p → (i ≡ q) ⊎ (i ≡ q → ⊥) → support p w q i ≡ true
            at i l x (inl e) = or_left _ _ (eq-eqb i q e)
            at i l x (inr y) = or_right _ _ (and_from _ _ (not_from_false _ (ne_eqb i p x)) (eq-eqb _ w (all_have q lq (λ z. d (sym z)) bq i l x y)))

    -- and are lit
    pub graded-lights : graded_lit R v p w ≡ true
    unfolding graded_lit
    graded-lights = elim (cases_Bool (fails R (λ q. eqb q p || unanimous R.n v p w q))) [ inr f ↦ not_from_false _ f | inl t ↦ absurd (fails-two R L b (λ q. eqb q p || unanimous R.n v p w q) can t (λ i l x y. let z = or_parts (eqb i p) (unanimous R.n v p w i) y in both_ways _ z.1 (all-unanimous R words bad held v votes b more w is_word agreed p i lp l (λ e. eqb-false i p z.0 (sym e)) bp x))) ]

  -- Graded round: good stations that hold words hold one word (as after a weak round).
  module _ (broke : fails R bad ≡ true) (one : (p q : ℕ) → p < R.n → q < R.n → bad p ≡ false → bad q ≡ false → words (held p) ≡ true → words (held q) ≡ true → held p ≡ held q) where
    -- what stands in some Y(w) was held by a good station
    backed : (p w q : ℕ) → p < R.n → q < R.n → bad p ≡ false → words w ≡ true → in_y R v p w q ≡ true → (s : ℕ) × (s < R.n) × (bad s ≡ false) × (held s ≡ w)
    backed p w q lp lq gp lw y = go (cases_eq (held p) w)
      where
        d : q ≢ p
        d = (in_y-parts p w q y).0

        no : fails R (support p w q) ≡ false
        no = (in_y-parts p w q y).1

        -- a member of the set beside q, where p did not hold w
        beside : (held p ≡ w → ⊥) → (r : ℕ) → r < R.n → support p w q r ≡ true → r ≢ q → (bad q ≡ false → held q ≡ w) × (bad r ≡ false → held r ≡ w)
        beside np r lr sr dr =
            let t = support-vote p w q r sr dr in
            elim (votes.source p q r w lp lq lr (λ e. d (sym e)) (λ e. t.0 (sym e)) (λ e. dr (sym e)) gp lw t.1)
            [ inl e ↦ absurd (np e) | inr x ↦ x ]

        member : (held p ≡ w → ⊥) → (s : ℕ) × (s < R.n) × (bad s ≡ false) × (held s ≡ w)
        member np =
            let m = member-out bad broke (support p w q) no in
            elim (cases_eq m.0 q) [
              | inl e ↦ (let r = beside-q p w q lq no in
                  let g : bad q ≡ false = ap bad (sym e) ∙ m.3 in
                  (q, lq, g, (beside np r.0 r.1 r.2 r.3).0 g))
              | inr ne ↦ (m.0, m.1, m.3, (beside np m.0 m.1 m.2 ne).1 m.3)
            ]

        go : (held p ≡ w) ⊎ (held p ≡ w → ⊥) → (s : ℕ) × (s < R.n) × (bad s ≡ false) × (held s ≡ w)
        go (inl e) = (p, lp, gp, e)
        go (inr np) = member np

    -- no two words are backed
    graded-one : (p p' w w' : ℕ) → p < R.n → p' < R.n → bad p ≡ false → bad p' ≡ false → words w ≡ true → words w' ≡ true
        → any R.n (in_y R v p w) ≡ true → any R.n (in_y R v p' w') ≡ true → w ≡ w'
    graded-one p p' w w' lp lp' gp gp' lw lw' y y' =
        let a = (any-decides (in_y R v p w) R.n).0 y in
        let a' = (any-decides (in_y R v p' w') R.n).0 y' in
        let s = backed p w a.0 lp a.1 gp lw a.2 in
        let s' = backed p' w' a'.0 lp' a'.1 gp' lw' a'.2 in
        let e : held s.0 ≡ w = s.3 in
        let e' : held s'.0 ≡ w' = s'.3 in
        sym e ∙ (one s.0 s'.0 s.1 s'.1 s.2 s'.2 (ap words e ∙ lw) (ap words e' ∙ lw') ∙ e')

    module _ (rest : ℕ) (is_rest : words rest ≡ true) where
      -- where Y(w) is not empty, w is what p holds
      graded-is : (p w : ℕ) → p < R.n → bad p ≡ false → words w ≡ true → any R.n (in_y R v p w) ≡ true → graded_held R words rest v p ≡ w
      graded-is p w lp gp lw y = let u = graded_passes rest p w lw y in graded-one p p _ w lp lp gp gp u.0 lw u.1 y

      -- all good stations hold the word of a good one that is lit
      pub graded-lit : (p q : ℕ) → p < R.n → q < R.n → bad p ≡ false → bad q ≡ false
          → graded_lit R v p (graded_held R words rest v p) ≡ true → graded_held R words rest v q ≡ graded_held R words rest v p
      unfolding graded_lit support
      graded-lit p q lp lq gp gq t = elim (cases_eq p q) [ inl e ↦ ap (graded_held R words rest v) (sym e) | inr d ↦ graded-is q _ lq gq (graded-word rest is_rest p) ((any-decides (in_y R v q w) R.n).1 (p, lp, in_y-from q w p d (supported d))) ]
        where
          w : ℕ
          w = graded_held R words rest v p

          no : fails R (λ s. eqb s p || unanimous R.n v p w s) ≡ false
          no = not-true _ t

          -- a vote at p is the vote at q
          across : p ≢ q → (r : ℕ) → r < R.n → r ≢ p → r ≢ q → v p q r ≡ w → support q w p r ≡ true
          across d r lr x y e =
              or_right _ _ (and_from _ _ (not_from_false _ (ne_eqb r q y)) (eq-eqb _ w (votes.same q p r lq lp lr (λ z. d (sym z)) (λ z. y (sym z)) (λ z. x (sym z)) gq gp ∙ e)))

          supported : p ≢ q → fails R (support q w p) ≡ false
          supported d = elim (cases_Bool (unanimous R.n v p w q)) [ inl u ↦ all_but R L (support q w p) q lq (λ i l x. whole d u i l x (cases_eq i p)) | inr f ↦ cannot_more R L (λ s. eqb s p || unanimous R.n v p w s) (support q w p) (λ i l e. part d f i l (cases_eq i p) e) no ]
            where
              whole : p ≢ q → unanimous R.n v p w q ≡ true → (i : ℕ) → i < R.n → i ≢ q → (i ≡ p) ⊎ (i ≡ p → ⊥) → support q w p i ≡ true
              whole d u i l x (inl e) = or_left _ _ (eq-eqb i p e)
              whole d u i l x (inr y) = across d i l y x (unanimous-at R.n v p w q i u l y x)

              part : p ≢ q → unanimous R.n v p w q ≡ false → (i : ℕ) → i < R.n → (i ≡ p) ⊎ (i ≡ p → ⊥) → (eqb i p || unanimous R.n v p w i) ≡ true → support q w p i ≡ true
              part d f i l (inl e) x = or_left _ _ (eq-eqb i p e)
              part d f i l (inr y) x =
                  elim (or_cases (eqb i p) (unanimous R.n v p w i) x) [
                    | inl z ↦ absurd (y (eqb-true i p z))
                    | inr u ↦ elim (cases_eq i q) [
                      | inl e ↦ absurd (both_ways _ f (rw e at u))
                      | inr k ↦ across d i l y k (votes.swap p q i ∙ unanimous-at R.n v p w i q u lq (λ z. d (sym z)) (λ z. k (sym z)))
                    ]
                  ]
