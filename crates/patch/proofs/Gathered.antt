-- Sets gathered one station after another: the b for which some j below i has f b j.
use Rattle.std.proofs.Common.{◌≡◌, ℕ, zero, suc, ◌+◌, Bool, true, false, cond, ◌&&◌, ◌||◌, eqb, [], ◌∷◌, ◌++◌, fold, sym, ap, ◌∙◌, ap₂, ⊎_elim, add-one, zero-add, arith}
use Rattle.std.specs.List.{range_with_len}
use Rattle.std.proofs.lemmas.List.Sums.{fold-append}
use Rattle.std.proofs.lemmas.Bool.Decides.{nat_tests}
use Rattle.std.proofs.lemmas.Bool.{cond-true, cond-false, cases_Bool}
use Rattle.sets.specs.Sets.{has, mask_of, any}
use Rattle.sets.proofs.Masks.{has-mask_of, mask_of-lt, mask_is, has-none}

any_next : (i : ℕ) (g : ℕ → Bool) → any (i + 1) g ≡ (g i || any i g)
unfolding any
any_next i g = ap (λ n. any n g) (add-one i)

-- none at first
pub gather_none : (f : ℕ → ℕ → Bool) → 0 ≡ mask_of 16 (λ b. any 0 (f b))
unfolding any
gather_none f = mask_is 16 0 (λ b. any 0 (f b)) (omega arith) (λ c l. has-none c)

-- b joins where f b i is the test of b alone
pub gather_more : (i : ℕ) (f : ℕ → ℕ → Bool) (b set : ℕ) → ((c : ℕ) → eqb b c ≡ f c i) → set ≡ mask_of 16 (λ c. any i (f c))
    → mask_of 16 (λ c. has set c || eqb b c) ≡ mask_of 16 (λ c. any (i + 1) (f c))
gather_more i f b set e h =
    mask_is 16 (mask_of 16 (λ c. has set c || eqb b c)) (λ c. any (i + 1) (f c)) (mask_of-lt 16 (λ c. has set c || eqb b c))
    (λ c l. has-mask_of 16 (λ c. has set c || eqb b c) c l
    ∙ ap₂ (λ x y. x || y) (ap (λ x. has x c) h ∙ has-mask_of 16 (λ c. any i (f c)) c l) (e c)
    ∙ (let z : (any i (f c) || f c i) ≡ (f c i || any i (f c)) = grind (arith, nat_tests) in z) ∙ sym (any_next i (f c)))

-- nothing joins where f has nothing at i
pub gather_same : (i : ℕ) (f : ℕ → ℕ → Bool) (set : ℕ) → ((c : ℕ) → f c i ≡ false) → set ≡ mask_of 16 (λ c. any i (f c)) → set ≡ mask_of 16 (λ c. any (i + 1) (f c))
gather_same i f set e h =
    h ∙ mask_is 16 (mask_of 16 (λ c. any i (f c))) (λ c. any (i + 1) (f c)) (mask_of-lt 16 (λ c. any i (f c)))
    (λ c l. has-mask_of 16 (λ c. any i (f c)) c l ∙ sym (any_next i (f c) ∙ ap (λ x. x || any i (f c)) (e c)))

-- the box of station i joins where i is in the set s
gather_step : (f : ℕ → ℕ) (s i under : ℕ) → under ≡ mask_of 16 (λ b. any i (λ j. has s j && eqb (f j) b))
    → cond (has s i) (mask_of 16 (λ j. has under j || eqb (f i) j)) under ≡ mask_of 16 (λ b. any (i + 1) (λ j. has s j && eqb (f j) b))
gather_step f s i under q =
    let test : ℕ → ℕ → Bool = λ b j. has s j && eqb (f j) b in
    ⊎_elim
    (λ (t : has s i ≡ true). cond-true (has s i) _ _ t ∙ gather_more i test (f i) under (λ c. ap (λ x. x && eqb (f i) c) (sym t)) q)
    (λ (t : has s i ≡ false). cond-false (has s i) _ _ t ∙ gather_same i test under (λ c. ap (λ x. x && eqb (f i) c) t) q)
    (cases_Bool (has s i))

-- the numbers from a on, with one more at the end
range_more : (a n j : ℕ) → a + n ≡ j → range_with_len a (suc n) ≡ range_with_len a n ++ (j ∷ [])
range_more a zero j e = ap (λ x. x ∷ []) (let z : a ≡ j = omega arith in z)
range_more a (suc n) j e = ap (λ l. a ∷ l) (range_more (a + 1) n j (omega arith))

-- the boxes of the stations of s, gathered in turn, are the boxes under s
pub gathered : (f : ℕ → ℕ) (s n : ℕ)
    → fold (λ under i. cond (has s i) (mask_of 16 (λ j. has under j || eqb (f i) j)) under) 0 (range_with_len 0 n) ≡ mask_of 16 (λ b. any n (λ j. has s j && eqb (f j) b))
gathered f s zero = gather_none (λ b j. has s j && eqb (f j) b)
gathered f s (suc n) =
    let before = fold join 0 (range_with_len 0 n) in
    ap (fold join 0) (range_more 0 n n (zero-add n))
    ∙ fold-append join 0 (range_with_len 0 n) (n ∷ [])
    ∙ gather_step f s n before (gathered f s n)
    ∙ ap (λ m. mask_of 16 (λ b. any m (λ j. has s j && eqb (f j) b))) (add-one n)
  where
    join : ℕ → ℕ → ℕ
    join under i = cond (has s i) (mask_of 16 (λ j. has under j || eqb (f i) j)) under
