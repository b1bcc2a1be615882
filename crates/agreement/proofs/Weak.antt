-- The weak round, for a general rule.
use Rattle.std.proofs.Common.{◌≡◌, ℕ, ◌<◌, Bool, true, false, not, ◌&&◌, eqb, ◌≢◌, ◌⊎◌, sym, ap, ◌∙◌, inl, inr, arith}
use Rattle.std.proofs.lemmas.Bool.{cases_Bool, cases_eq, eqb-false, ne_eqb, both_ways, and_parts, and_from, not-true, not_from_false}
use Rattle.rigs.specs.Lines.{void}
use Rattle.agreement.specs.Meanings.{Rule, LawfulRule}
use Rattle.agreement.specs.Rounds.{fails, unanimous, weak_test, weak_held}
use Rattle.agreement.proofs.Searches.{smallest-found, smallest_hit}
use Rattle.agreement.proofs.Failing.{fails-part, fails-two, another}
use Rattle.agreement.proofs.Votes.{Votes, third, unanimous-at, good, all-unanimous}

module _ (R : Rule) (L : LawfulRule R) (v : ℕ → ℕ → ℕ → ℕ) where
  -- the test of a weak round, by what it leaves out
  out : ℕ → ℕ → ℕ → Bool
  out p w q = not (eqb q p) && not (unanimous R.n v p w q)

  left_out : (p w q : ℕ) → out p w q ≡ false → (q ≡ p) ⊎ (unanimous R.n v p w q ≡ true)
  unfolding out
  left_out p w q e = go (cases_eq q p) (cases_Bool (unanimous R.n v p w q))
    where
      go : (q ≡ p) ⊎ (q ≡ p → ⊥) → (unanimous R.n v p w q ≡ true) ⊎ (unanimous R.n v p w q ≡ false) → (q ≡ p) ⊎ (unanimous R.n v p w q ≡ true)
      go (inl a) b = inl a
      go (inr a) (inl b) = inr b
      go (inr a) (inr b) =
          absurd (both_ways (out p w q) e (and_from _ _ (not_from_false _ (ne_eqb q p a)) (not_from_false _ b)))

  -- p passes the weak test at w: then its X(w) has a member
  weak-member : (p w : ℕ) → p < R.n → weak_test R v p w ≡ true → ((s : ℕ) → s < R.n → s ≢ p → unanimous R.n v p w s ≡ true → ⊥) → ⊥
  unfolding weak_test out
  weak-member p w l t h =
      another R L (out p w) p l t (λ q k a d. elim (left_out p w q a) [ inl e ↦ d e | inr u ↦ h q k d u ])

  -- at most one word passes at any station, good or broken
  pub weak-one : ((p q r : ℕ) → v p q r ≡ v p r q) → (p w w' : ℕ) → p < R.n → weak_test R v p w ≡ true → weak_test R v p w' ≡ true → w ≡ w'
  weak-one swap p w w' lp t u = elim (cases_eq w w') [ inl e ↦ e | inr ne ↦ absurd (weak-member p w lp t (λ s ls ds us. weak-member p w' lp u (λ q lq dq uq. meet ne s ls ds us q lq dq uq (cases_eq q s)))) ]
    where
      meet : w ≢ w' → (s : ℕ) → s < R.n → s ≢ p → unanimous R.n v p w s ≡ true → (q : ℕ) → q < R.n → q ≢ p → unanimous R.n v p w' q ≡ true → (q ≡ s) ⊎ (q ≡ s → ⊥) → ⊥
      meet ne s ls ds us q lq dq uq (inl e) =
          let t3 = third R.n p s L.sized.0 in
          let a : v p s t3.0 ≡ w = unanimous-at R.n v p w s t3.0 us t3.1 t3.2 t3.3 in
          let b : v p s t3.0 ≡ w' = unanimous-at R.n v p w' s t3.0 (ap (unanimous R.n v p w') (sym e) ∙ uq) t3.1 t3.2 t3.3 in
          ne (sym a ∙ b)
      meet ne s ls ds us q lq dq uq (inr d) =
          let a : v p s q ≡ w = unanimous-at R.n v p w s q us lq dq d in
          let b : v p q s ≡ w' = unanimous-at R.n v p w' q s uq ls ds (λ e. d (sym e)) in
          ne (sym a ∙ (swap p s q ∙ b))

module _ (R : Rule) (L : LawfulRule R) (words : ℕ → Bool) (small : (x : ℕ) → words x ≡ true → x < 4096) (bad : ℕ → Bool) (held : ℕ → ℕ) (v : ℕ → ℕ → ℕ → ℕ) (votes : Votes R.n words bad held v) where
  -- q, other than p, in X(w) at p; p in X(w') at q; then w is w'
  weak_crossed : (p q w w' : ℕ) → p < R.n → q < R.n → p ≢ q → bad p ≡ false → bad q ≡ false → w ≢ w'
      → weak_test R v p w ≡ true → unanimous R.n v q w' p ≡ true → ⊥
  weak_crossed p q w w' lp lq d gp gq ne t u = weak-member R L v p w lp t (λ s ls ds us. at s ls ds us (cases_eq s q))
    where
      at : (s : ℕ) → s < R.n → s ≢ p → unanimous R.n v p w s ≡ true → (s ≡ q) ⊎ (s ≡ q → ⊥) → ⊥
      at s ls ds us (inr nq) =
          let a : v p s q ≡ w = unanimous-at R.n v p w s q us lq (omega arith) (omega arith) in
          let b : v q p s ≡ w' = unanimous-at R.n v q w' p s u ls (omega arith) (omega arith) in
          ne (sym a ∙ (votes.swap p s q ∙ (votes.same p q s lp lq ls (omega arith) (omega arith) (omega arith) gp gq ∙ b)))
      at s ls ds us (inl e) =
          let t3 = third R.n p q L.sized.0 in
          let r : ℕ = t3.0 in
          let a : v p q r ≡ w = unanimous-at R.n v p w q r (rw e at us) t3.1 t3.2 t3.3 in
          let b : v q p r ≡ w' = unanimous-at R.n v q w' p r u t3.1 t3.3 t3.2 in
          ne (sym a ∙ (votes.same p q r lp lq t3.1 d (omega (arith, t3.2)) (omega (arith, t3.3)) gp gq ∙ b))

  -- no two words pass at two good stations
  pub weak-apart : (p q w w' : ℕ) → p < R.n → q < R.n → p ≢ q → bad p ≡ false → bad q ≡ false
      → weak_test R v p w ≡ true → weak_test R v q w' ≡ true → w ≡ w'
  unfolding weak_test out
  weak-apart p q w w' lp lq d gp gq t u = elim (cases_eq w w') [ inl e ↦ e | inr ne ↦ absurd (clash ne) ]
    where
      both : w ≢ w' → (i : ℕ) → i < R.n → (i ≡ p) ⊎ (unanimous R.n v p w i ≡ true) → (i ≡ q) ⊎ (unanimous R.n v q w' i ≡ true) → ⊥
      both ne i l (inl e) (inl f) = d (sym e ∙ f)
      both ne i l (inl e) (inr f) = weak_crossed p q w w' lp lq d gp gq ne t (rw e at f)
      both ne i l (inr e) (inl f) = weak_crossed q p w' w lq lp (λ x. d (sym x)) gq gp (λ x. ne (sym x)) u (rw f at e)
      both ne i l (inr e) (inr f) = at (cases_eq i p) (cases_eq i q)
        where
          at : (i ≡ p) ⊎ (i ≡ p → ⊥) → (i ≡ q) ⊎ (i ≡ q → ⊥) → ⊥
          at (inl x) y = weak_crossed p q w w' lp lq d gp gq ne t (rw x at f)
          at (inr x) (inl y) = weak_crossed q p w' w lq lp (λ z. d (sym z)) gq gp (λ z. ne (sym z)) u (rw y at e)
          at (inr x) (inr y) =
              let a : v p i q ≡ w = unanimous-at R.n v p w i q e lq (omega arith) (omega arith) in
              let b : v q i p ≡ w' = unanimous-at R.n v q w' i p f lp (omega arith) (omega arith) in
              ne (sym a ∙ (votes.swap p i q ∙ (votes.same p q i lp lq l d (omega arith) (omega arith) gp gq ∙ (votes.swap q p i ∙ b))))

      clash : w ≢ w' → ⊥
      clash ne = fails-two R L (out R L v p w) (out R L v q w') t u (λ i l a b. both ne i l (left_out R L v p w i a) (left_out R L v q w' i b))

  -- b: the stations outside b are good, and all hold w
  module _ (b : ℕ → Bool) (more : (i : ℕ) → i < R.n → bad i ≡ true → b i ≡ true) (can : fails R b ≡ true)
      (w : ℕ) (is_word : words w ≡ true) (agreed : (i : ℕ) → i < R.n → b i ≡ false → held i ≡ w) where
    was : (i : ℕ) → i < R.n → b i ≡ false → bad i ≡ false
    was = good R words bad held v votes b more w is_word agreed

    weak_passes_lem : (p : ℕ) → p < R.n → b p ≡ false → weak_test R v p w ≡ true
    unfolding weak_test out
    weak_passes_lem p lp bp = fails-part R L (out R L v p w) b (λ i l e. inside i l e (cases_Bool (b i))) can
      where
        inside : (i : ℕ) → i < R.n → out R L v p w i ≡ true → (b i ≡ true) ⊎ (b i ≡ false) → b i ≡ true
        inside i l e (inl t) = t
        inside i l e (inr f) =
            let t = and_parts (not (eqb i p)) (not (unanimous R.n v p w i)) e in
            absurd (both_ways _ (not-true _ t.1) (all-unanimous R words bad held v votes b more w is_word agreed p i lp l (λ x. eqb-false i p (not-true _ t.0) (sym x)) bp f))

    -- all outside b hold w after a weak round
    pub weak-keeps : (p : ℕ) → p < R.n → b p ≡ false → weak_held R words v p ≡ w
    unfolding weak_held
    weak-keeps p lp bp =
        let t = smallest_hit 4096 (λ w. words w && weak_test R v p w) void w (small w is_word) (and_from _ _ is_word (weak_passes_lem p lp bp)) in
        let u = and_parts (words (weak_held R words v p)) (weak_test R v p (weak_held R words v p)) t.1 in
        elim (cases_eq (weak_held R words v p) w) [
          | inl e ↦ e
          | inr ne ↦ absurd (another R L b p lp can (λ q lq bq d.
              ne (weak-apart p q _ w lp lq (λ e. d (sym e)) (was p lp bp) (was q lq bq) u.1 (weak_passes_lem q lq bq))))
        ]

  pub weak-is : (p : ℕ) → ((words (weak_held R words v p) ≡ true) × (weak_test R v p (weak_held R words v p) ≡ true)) ⊎ (weak_held R words v p ≡ void)
  unfolding weak_held
  weak-is p = elim (smallest-found 4096 (λ w. words w && weak_test R v p w) void) [ inl t ↦ inl (and_parts _ _ t.1) | inr t ↦ inr t.0 ]

  -- after a weak round good stations that hold words hold one word
  pub weak-agrees : (p q : ℕ) → p < R.n → q < R.n → bad p ≡ false → bad q ≡ false
      → words (weak_held R words v p) ≡ true → words (weak_held R words v q) ≡ true → weak_held R words v p ≡ weak_held R words v q
  weak-agrees p q lp lq gp gq wp wq = go (cases_eq p q) (weak-is p) (weak-is q)
    where
      go : (p ≡ q) ⊎ (p ≡ q → ⊥) → ((words (weak_held R words v p) ≡ true) × (weak_test R v p (weak_held R words v p) ≡ true)) ⊎ (weak_held R words v p ≡ void) → ((words (weak_held R words v q) ≡ true) × (weak_test R v q (weak_held R words v q) ≡ true)) ⊎ (weak_held R words v q ≡ void) → weak_held R words v p ≡ weak_held R words v q
      go (inl e) x y = ap (weak_held R words v) e
      go (inr d) (inl x) (inl y) = weak-apart p q _ _ lp lq d gp gq x.1 y.1
      go (inr d) (inl x) (inr y) = absurd (omega (arith, small _ wq))
      go (inr d) (inr x) y = absurd (omega (arith, small _ wp))
