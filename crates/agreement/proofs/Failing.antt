-- The laws of a rule, over tests of stations in place of masks.
use Rattle.std.proofs.Common.{◌≡◌, ℕ, ◌<◌, Bool, true, false, ◌||◌, eqb, ◌≢◌, ◌⊎◌, sym, ◌∙◌, inl, inr}
use Rattle.std.proofs.lemmas.Bool.{cases_Bool, eqb-true, eqb-false, eq-eqb, or_left, or_right, both_ways}
use Rattle.sets.specs.Sets.{has, mask_of}
use Rattle.sets.proofs.Masks.{mask_of-lt, has-mask_of, has_one}
use Rattle.sets.proofs.Bounds.{has-below}
use Rattle.agreement.specs.Meanings.{Rule, LawfulRule}
use Rattle.agreement.specs.Rounds.{fails}

-- a station of the set of those that pass a test is below n
pub mask_in : (n : ℕ) (f : ℕ → Bool) (i : ℕ) → has (mask_of n f) i ≡ true → i < n
mask_in n f i e = has-below n (mask_of n f) i (mask_of-lt n f) e

module _ (R : Rule) (L : LawfulRule R) where
  pub fails-part : (f g : ℕ → Bool) → ((i : ℕ) → i < R.n → f i ≡ true → g i ≡ true) → fails R g ≡ true → fails R f ≡ true
  unfolding fails
  fails-part f g h t =
      L.part _ _ (λ i e. let l = mask_in R.n f i e in has-mask_of R.n g i l ∙ h i l (sym (has-mask_of R.n f i l) ∙ e)) t

  pub fails-single : (p : ℕ) → p < R.n → fails R (λ s. eqb s p) ≡ true
  unfolding fails
  fails-single p l =
      L.part _ _
      (λ i e. let k = mask_in R.n (λ s. eqb s p) i e in let q : i ≡ p = eqb-true i p (sym (has-mask_of R.n (λ s. eqb s p) i k) ∙ e) in has_one p i ∙ eq-eqb p i (sym q)) (L.single p l)

  -- two sets that can fail leave some station out of both
  pub fails-two : (f g : ℕ → Bool) → fails R f ≡ true → fails R g ≡ true → ((i : ℕ) → i < R.n → f i ≡ false → g i ≡ false → ⊥) → ⊥
  unfolding fails
  fails-two f g t u h = L.apart _ _ t u (λ i l. at i l (cases_Bool (f i)) (cases_Bool (g i)))
    where
      at : (i : ℕ) → i < R.n → (f i ≡ true) ⊎ (f i ≡ false) → (g i ≡ true) ⊎ (g i ≡ false) → (has (mask_of R.n f) i || has (mask_of R.n g) i) ≡ true
      at i l (inl a) b = or_left _ _ (has-mask_of R.n f i l ∙ a)
      at i l (inr a) (inl b) = or_right _ _ (has-mask_of R.n g i l ∙ b)
      at i l (inr a) (inr b) = absurd (h i l a b)

  -- a set that holds all but p cannot fail
  pub all_but : (f : ℕ → Bool) (p : ℕ) → p < R.n → ((i : ℕ) → i < R.n → i ≢ p → f i ≡ true) → fails R f ≡ false
  all_but f p l h = go (cases_Bool (fails R f))
    where
      go : (fails R f ≡ true) ⊎ (fails R f ≡ false) → fails R f ≡ false
      go (inr e) = e
      go (inl e) =
          absurd (fails-two f (λ s. eqb s p) e (fails-single p l) (λ i k a b. both_ways (f i) a (h i k (eqb-false i p b))))

  -- what contains a set that cannot fail cannot fail
  pub cannot_more : (f g : ℕ → Bool) → ((i : ℕ) → i < R.n → f i ≡ true → g i ≡ true) → fails R f ≡ false → fails R g ≡ false
  cannot_more f g h t = go (cases_Bool (fails R g))
    where
      go : (fails R g ≡ true) ⊎ (fails R g ≡ false) → fails R g ≡ false
      go (inr e) = e
      go (inl e) = absurd (both_ways (fails R f) t (fails-part f g h e))

  -- outside a set that can fail there is a station other than p
  pub another : (b : ℕ → Bool) (p : ℕ) → p < R.n → fails R b ≡ true → ((q : ℕ) → q < R.n → b q ≡ false → q ≢ p → ⊥) → ⊥
  another b p l t h = fails-two b (λ s. eqb s p) t (fails-single p l) (λ i k a e. h i k a (eqb-false i p e))
