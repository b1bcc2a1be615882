-- A search that keeps the lowest code that passes finds the smallest word that passes, where each such word is among the codes.
use Rattle.std.proofs.Common.{◌≡◌, ℕ, zero, suc, ◌<◌, Bool, true, false, ◌&&◌, ◌⊎◌, Some, None, Option, unwrap_or, sym, refl, ap, ◌∙◌, inl, inr, ⊎_elim, arith}
use Rattle.std.proofs.lemmas.Bool.{lt-ltb, ltb-true, cases_eq, cases_Bool, both_ways, and_parts, and_from, cond-true, cond-false}
use Rattle.sets.specs.Sets.{smallest}
use Rattle.sets.proofs.Tests.{smallest-is}
use Rattle.agreement.proofs.Searches.{Smallest, smallest-found}
use Rattle.rounds.specs.Searches.{under, lower, lowest}

under-same : (best : Option ℕ) (w : ℕ) → best ≡ Some w → under best w ≡ false
under-same best w e = rw e (grind arith)

under-more : (best : Option ℕ) (w c : ℕ) → w < c → under best c ≡ true → under best w ≡ true
under-more None w c l h = refl
under-more (Some b) w c l h = lt-ltb w b (omega (arith, ltb-true c b h))

module _ (t : ℕ → Bool) where
  -- what is found passes, or was found before
  lower-holds : (best code : Option ℕ) (w : ℕ) → lower t best code ≡ Some w → (best ≡ Some w) ⊎ (t w ≡ true)
  lower-holds best None w e = inl e
  lower-holds best (Some c) w e =
      ⊎_elim
      (λ (h : (under best c && t c) ≡ true). let z : c ≡ w = cc (sym (cond-true (under best c && t c) (Some c) best h) ∙ e) in inr (ap t (sym z) ∙ (and_parts (under best c) (t c) h).1))
      (λ (h : (under best c && t c) ≡ false). inl (sym (cond-false (under best c && t c) (Some c) best h) ∙ e))
      (cases_Bool (under best c && t c))

  lower-past : (best code : Option ℕ) (w : ℕ) → under (lower t best code) w ≡ true → under best w ≡ true
  lower-past best None w e = e
  lower-past best (Some c) w e =
      ⊎_elim
      (λ (h : (under best c && t c) ≡ true).
      under-more best w c (ltb-true w c (ap (λ x. under x w) (sym (cond-true (under best c && t c) (Some c) best h)) ∙ e)) (and_parts (under best c) (t c) h).0)
      (λ (h : (under best c && t c) ≡ false). ap (λ x. under x w) (sym (cond-false (under best c && t c) (Some c) best h)) ∙ e)
      (cases_Bool (under best c && t c))

  lower-tried : (best : Option ℕ) (c : ℕ) → under (lower t best (Some c)) c ≡ true → t c ≡ false
  lower-tried best c e =
      ⊎_elim
      (λ (h : t c ≡ true).
      absurd (both_ways (under (lower t best (Some c)) c)
      (under-same _ c (cond-true (under best c && t c) (Some c) best (and_from (under best c) (t c) (lower-past best (Some c) c e) h))) e))
      (λ h. h)
      (cases_Bool (t c))

  module _ (f : ℕ → Option ℕ) (from : Option ℕ) where
    pub lowest-holds : (n w : ℕ) → lowest t f from n ≡ Some w → (from ≡ Some w) ⊎ (t w ≡ true)
    unfolding lowest
    lowest-holds zero w e = inl e
    lowest-holds (suc n) w e = ⊎_elim (λ x. lowest-holds n w x) (λ x. inr x) (lower-holds (lowest t f from n) (f n) w e)

    -- what is below what is found was below what was found before, and does not pass if it was tried
    pub lowest-past : (n w : ℕ) → under (lowest t f from n) w ≡ true → under from w ≡ true
    unfolding lowest
    lowest-past zero w e = e
    lowest-past (suc n) w e = lowest-past n w (lower-past (lowest t f from n) (f n) w e)

    pub lowest-tried : (n w k : ℕ) → k < n → f k ≡ Some w → under (lowest t f from n) w ≡ true → t w ≡ false
    unfolding lowest
    lowest-tried zero w k l is e = absurd (omega arith)
    lowest-tried (suc n) w k l is e =
        ⊎_elim
        (λ (z : k ≡ n). lower-tried (lowest t f from n) w (ap (λ x. under (lower t (lowest t f from n) x) w) (sym (ap f (sym z) ∙ is)) ∙ e))
        (λ z. lowest-tried n w k (omega arith) is (lower-past (lowest t f from n) (f n) w e))
        (cases_eq k n)

  -- what is found, or d where nothing passes, is the smallest that passes
  pub smallest-word : (small : (w : ℕ) → t w ≡ true → w < 4096) (best : Option ℕ) → ((w : ℕ) → best ≡ Some w → t w ≡ true) → ((w : ℕ) → under best w ≡ true → t w ≡ false)
      → (d : ℕ) → unwrap_or best d ≡ smallest 4096 t d
  smallest-word small None holds past d = go (smallest-found 4096 t d)
    where
      go : Smallest 4096 t d (smallest 4096 t d) → d ≡ smallest 4096 t d
      go (inl x) = absurd (both_ways (t (smallest 4096 t d)) (past _ refl) x.1)
      go (inr x) = sym x.0
  smallest-word small (Some b) holds past d =
      sym (smallest-is 4096 t d b (small b (holds b refl)) (λ w l. past w (lt-ltb w b l)) (holds b refl))
