-- The broken set of the state has just the stations that were marked and not cleared since.
use Rattle.std.proofs.Common.{◌≡◌, ℕ, ◌<◌, Bool, true, false, cond, not, ◌&&◌, ◌||◌, eqb, ◌⊎◌, List, [], ◌∷◌, sym, refl, ap, ◌∙◌, inl, inr, arith}
use Rattle.std.proofs.lemmas.Bool.{both_ways, or_left, or_right, or_cases, and_parts, and_from, eqb-true, eqb-false, eq-eqb, ne_eqb, not-true, not_from_false}
use Rattle.sets.specs.Sets.{has}
use Rattle.agreement.specs.declared.stage.Stage.{Stage}
use Rattle.agreement.specs.declared.stage.Stage.TheVariants.{Idle, Running as On, Decided}
use Rattle.agreement.specs.Meanings.{Meaning, Lawful}
use Rattle.agreement.specs.Calls.{Call, Open, Round, Strike, Mark, Clear, Read, Lamp, State, next, blank, opened, advanced, with_broken, marked, cleared, taken, effect, after}
use Rattle.agreement.specs.Agreement.{Broken}
use Rattle.sets.proofs.Masks.{has-mask_of, has-none}

module _ {W : Type 0} (m : Meaning W) (law : Lawful m) where
  -- one call's part in it
  One : State → Call W → State → ℕ → Type 0
  One s c s' p =
      (has s'.broken p ≡ true → ((c ≡ Mark p) × (taken m s c ≡ true)) ⊎ ((has s.broken p ≡ true) × (c ≡ Clear p → taken m s c ≡ true → ⊥)))
      × (((c ≡ Mark p) × (taken m s c ≡ true)) ⊎ ((has s.broken p ≡ true) × (c ≡ Clear p → taken m s c ≡ true → ⊥)) → has s'.broken p ≡ true)

  -- a call that is neither marks nor clears
  plain : (s : State) (c : Call W) (s' : State) (p : ℕ) → s'.broken ≡ s.broken → (c ≡ Mark p → ⊥) → (c ≡ Clear p → ⊥) → One s c s' p
  unfolding One
  plain s c s' p e x y = (
    (λ t. inr (ap (λ z. has z p) (sym e) ∙ t, λ k. absurd (y k))),
    elim [ inl t ↦ absurd (x t.0) | inr t ↦ ap (λ z. has z p) e ∙ t.0 ],
  )

  -- a call that is refused
  refused : (s : State) (c : Call W) (p : ℕ) → taken m s c ≡ false → One s c s p
  unfolding One
  refused s c p e = ((λ t. inr (t, λ k u. both_ways _ e u)), elim [ inl t ↦ absurd (both_ways _ e t.1) | inr t ↦ t.0 ])

  step : (s : State) (c : Call W) (p : ℕ) → p < m.rule.n → taken m s c ≡ true → One s c (effect m s c) p
  unfolding effect opened blank with_broken marked cleared advanced One
  step s (Open a b w) p l t = plain s (Open a b w) (effect m s (Open a b w)) p refl (λ e. let z : ◌≡◌ {A = ℕ} 0 1 = cc in omega arith) (λ e. let z : ◌≡◌ {A = ℕ} 0 1 = cc in omega arith)
  step s (Round sh) p l t = at s.stage
    where
      at : (g : Stage) → One s (Round sh) (advanced m s g) p
      at Idle = plain s (Round sh) s p refl (λ e. let z : ◌≡◌ {A = ℕ} 0 1 = cc in omega arith) (λ e. let z : ◌≡◌ {A = ℕ} 0 1 = cc in omega arith)
      at Decided = plain s (Round sh) s p refl (λ e. let z : ◌≡◌ {A = ℕ} 0 1 = cc in omega arith) (λ e. let z : ◌≡◌ {A = ℕ} 0 1 = cc in omega arith)
      at (On a b k c) = plain s (Round sh) (advanced m s (On a b k c)) p refl (λ e. let z : ◌≡◌ {A = ℕ} 0 1 = cc in omega arith) (λ e. let z : ◌≡◌ {A = ℕ} 0 1 = cc in omega arith)
  step s Strike p l t = plain s Strike (effect m s Strike) p refl (λ e. let z : ◌≡◌ {A = ℕ} 0 1 = cc in omega arith) (λ e. let z : ◌≡◌ {A = ℕ} 0 1 = cc in omega arith)
  step s (Mark q) p l t = marks
    where
      is : has (marked s.broken q) p ≡ (has s.broken p || eqb q p)
      is = has-mask_of 16 (λ i. has s.broken i || eqb q i) p (omega (arith, law.rule.sized.1))

      marks : One s (Mark q) (with_broken s (marked s.broken q)) p
      marks = (
        (λ h. elim (or_cases (has s.broken p) (eqb q p) (sym is ∙ h))
            [ inl x ↦ inr (x, λ e. absurd (let z : ◌≡◌ {A = ℕ} 0 1 = cc in omega arith)) | inr x ↦ inl (ap Mark (eqb-true q p x), t) ]),
        elim [ inl x ↦ (let e : q ≡ p = cc x.0 in is ∙ or_right _ _ (eq-eqb q p e)) | inr x ↦ is ∙ or_left _ _ x.0 ],
      )
  step s (Clear q) p l t = clears
    where
      is : has (cleared s.broken q) p ≡ (has s.broken p && not (eqb q p))
      is = has-mask_of 16 (λ i. has s.broken i && not (eqb q i)) p (omega (arith, law.rule.sized.1))

      clears : One s (Clear q) (with_broken s (cleared s.broken q)) p
      clears = (
        (λ h. let x = and_parts (has s.broken p) (not (eqb q p)) (sym is ∙ h) in inr (x.0, λ e u. eqb-false q p (not-true _ x.1) (cc e))),
        elim [
          | inl x ↦ absurd (let e = x.0 in let z : ◌≡◌ {A = ℕ} 0 1 = cc in omega arith)
          | inr x ↦ is ∙ and_from _ _ x.0 (not_from_false _ (ne_eqb q p (λ e. x.1 (ap Clear e) t)))
        ],
      )
  step s (Read q) p l t = plain s (Read q) (effect m s (Read q)) p refl (λ e. let z : ◌≡◌ {A = ℕ} 0 1 = cc in omega arith) (λ e. let z : ◌≡◌ {A = ℕ} 0 1 = cc in omega arith)
  step s (Lamp q) p l t = plain s (Lamp q) (effect m s (Lamp q)) p refl (λ e. let z : ◌≡◌ {A = ℕ} 0 1 = cc in omega arith) (λ e. let z : ◌≡◌ {A = ℕ} 0 1 = cc in omega arith)

  either : (h : List (Call W)) (c : Call W) (p : ℕ) → p < m.rule.n → One (after m h) c (after m (c ∷ h)) p
  unfolding after next
  either h c p l = at (taken m (after m h) c) refl
    where
      at : (t : Bool) → taken m (after m h) c ≡ t → One (after m h) c (cond t (effect m (after m h) c) (after m h)) p
      at true e = step (after m h) c p l e
      at false e = refused (after m h) c p e

  pub broken_calls : (h : List (Call W)) (p : ℕ) → p < m.rule.n → has (after m h).broken p ≡ true → Broken m h p
  unfolding after blank One
  broken_calls [] p l e = both_ways _ (has-none p) e
  broken_calls (c ∷ h) p l e =
      elim ((either h c p l).0 e) [ inl t ↦ inl t | inr t ↦ inr (broken_calls h p l t.0, t.1) ]

  pub broken-set : (h : List (Call W)) (p : ℕ) → p < m.rule.n → Broken m h p → has (after m h).broken p ≡ true
  unfolding after blank One
  broken-set [] p l b = absurd b
  broken-set (c ∷ h) p l b =
      (either h c p l).1 (elim b [ inl t ↦ inl t | inr t ↦ inr (broken-set h p l t.0, t.1) ])
