-- The kings of a caller: what is added turn by turn, and what holds at the end.
use Rattle.std.proofs.Common.{◌≡◌, ℕ, ◌+◌, ◌^◌, ◌<◌, ◌≤◌, Bool, true, false, not, ◌&&◌, ◌||◌, eqb, ltb, sym, ap, ◌∙◌, ap₂, subst, ⊎_elim, arith}
use Rattle.std.proofs.lemmas.Bool.{cases_lt, cases_Bool, both_ways, not_from_true, not_from_false}
use Rattle.std.proofs.lemmas.Nat.{pow_below}
use Rattle.std.proofs.lemmas.Bool.Decides.{nat_tests}
use Rattle.sets.specs.Sets.{has, mask_of, Whole}
use Rattle.sets.proofs.Masks.{has-mask_of, has-mask_of-high, mask_of-lt, mask_is, has-none, has_one}
use Rattle.sets.proofs.Bounds.{mask_cut, has-below}
use Rattle.sets.proofs.Tests.{smallest-is}
use Rattle.rules.specs.Rules.{Sized, Singles, Apart}
use Rattle.rules.specs.Kings.{others_below, first_others, with_caller, king_count, king, KingFacts}

-- who is among the first k others
first-has : (n c k s : ℕ) → s < n → has (first_others n c k) s ≡ (not (eqb s c) && ltb (others_below c s) k)
unfolding first_others
first-has n c k s l = has-mask_of n (λ s. not (eqb s c) && ltb (others_below c s) k) s l

first-lt : (n c k : ℕ) → first_others n c k < 2 ^ n
unfolding first_others
first-lt n c k = mask_of-lt n (λ s. not (eqb s c) && ltb (others_below c s) k)

pub first_below : (n c k s : ℕ) → has (first_others n c k) s ≡ true → s < n
first_below n c k s e = has-below n (first_others n c k) s (first-lt n c k) e

pub first-none : (n c : ℕ) → 0 ≡ first_others n c 0
unfolding first_others
first-none n c = mask_is n 0 (λ s. not (eqb s c) && ltb (others_below c s) 0) (omega (arith, first-lt n c 0)) (λ s l. has-none s ∙ no_one (not (eqb s c)) (others_below c s))
  where
    no_one : (b : Bool) (m : ℕ) → false ≡ (b && ltb m 0)
    no_one b m = grind (arith, nat_tests)

-- how many others there are below a station
pub others-none : (c : ℕ) → others_below c 0 ≡ 0
unfolding others_below
others-none c = grind (arith, nat_tests)

pub others_skip : (c i : ℕ) → i ≡ c → others_below c i ≡ others_below c (i + 1)
unfolding others_below
others_skip c i e = grind (arith, nat_tests)

pub others_join : (c i : ℕ) → (i ≡ c → ⊥) → others_below c i + 1 ≡ others_below c (i + 1)
unfolding others_below
others_join c i d = grind (arith, nat_tests)

pub others-few : (c i n : ℕ) → i ≤ n → c < n → others_below c i < n
unfolding others_below
others-few c i n l h = grind (arith, nat_tests)

others-all : (c n : ℕ) → c < n → others_below c n + 1 ≡ n
unfolding others_below
others-all c n h = grind (arith, nat_tests)

-- one station more, at the place where it stands in the rising order
join_at : (c i s : ℕ) (b : Bool) → (i ≡ c → ⊥) → b ≡ (not (eqb s c) && ltb (others_below c s) (others_below c i)) → (b || eqb i s) ≡ (not (eqb s c) && ltb (others_below c s) (others_below c i + 1))
unfolding others_below
join_at c i s b d e = grind (arith, nat_tests)

first_joins : (n c i k : ℕ) → n ≤ 16 → i < n → (i ≡ c → ⊥) → k ≡ others_below c i → mask_of 16 (λ j. has (first_others n c k) j || eqb i j) ≡ first_others n c (k + 1)
unfolding first_others
first_joins n c i k high l d e =
    mask_cut n 16 (λ j. has (first_others n c k) j || eqb i j) (λ s. not (eqb s c) && ltb (others_below c s) (k + 1)) high
    (λ s q. subst (λ x. (has (first_others n c x) s || eqb i s) ≡ (not (eqb s c) && ltb (others_below c s) (x + 1))) (sym e)
    (join_at c i s (has (first_others n c (others_below c i)) s) d (first-has n c (others_below c i) s q)))
    (λ s q _. outside s (has-mask_of-high n (λ s. not (eqb s c) && ltb (others_below c s) k) s q) q)
  where
    outside : (s : ℕ) → has (first_others n c k) s ≡ false → n ≤ s → (has (first_others n c k) s || eqb i s) ≡ false
    outside s f q = grind (arith, nat_tests)

-- who is among a set and the caller
with_has : (c set s : ℕ) → s < 16 → has (with_caller c set) s ≡ (has set s || eqb c s)
with_has c set s l = has-mask_of 16 (λ s. has set s || eqb c s) s l

everyone : (c n s : ℕ) → c < n → s < n → ((not (eqb s c) && ltb (others_below c s) (others_below c n)) || eqb c s) ≡ true
unfolding others_below
everyone c n s h l = grind (arith, nat_tests)

all_whole : (n c : ℕ) → n ≤ 16 → c < n → let all = with_caller c (first_others n c (others_below c n)) in Whole n all all
all_whole n c high h s l =
    let e : has (with_caller c (first_others n c (others_below c n))) s ≡ true =
    with_has c (first_others n c (others_below c n)) s (omega arith) ∙ ap (λ b. b || eqb c s) (first-has n c (others_below c n) s l) ∙ everyone c n s h l in
    ap (λ b. b || b) e

alone : (c s : ℕ) (b : Bool) → b ≡ false → (b || eqb c s) ≡ eqb c s
alone c s b e = grind (arith, nat_tests)

-- the caller with no king is a single station
with_none : (n c : ℕ) → c < 16 → with_caller c (first_others n c 0) ≡ 2 ^ c
with_none n c l =
    sym (mask_is 16 (2 ^ c) (λ s. has (first_others n c 0) s || eqb c s) (pow_below c 16 l)
    (λ s q. has_one c s ∙ sym (alone c s (has (first_others n c 0) s) (ap (λ x. has x s) (sym (first-none n c)) ∙ has-none s))))

-- the kings' numbers
king-other : (c j : ℕ) → 1 ≤ j → king c j ≡ c → ⊥
king-other c j l e = grind (arith, nat_tests)

king-others : (c k : ℕ) → k ≡ others_below c (king c (k + 1))
unfolding others_below
king-others c k = grind (arith, nat_tests)

king-rising : (c i j : ℕ) → 1 ≤ i → i < j → king c i < king c j
king-rising c i j l h = grind (arith, nat_tests)

king_place : (c j k : ℕ) → 1 ≤ j → j ≤ k → (not (eqb (king c j) c) && ltb (others_below c (king c j)) k) ≡ true
unfolding others_below
king_place c j k l h = grind (arith, nat_tests)

king-below : (n c j : ℕ) → c < n → 1 ≤ j → j < n → king c j < n
king-below n c j h l m = grind (arith, nat_tests)

king-back : (c s k : ℕ) → (not (eqb s c) && ltb (others_below c s) k) ≡ true → (others_below c s + 1 ≤ k) × (s ≡ king c (others_below c s + 1))
unfolding others_below
king-back c s k e = (grind (arith, nat_tests), grind (arith, nat_tests))

module _ (n : ℕ) (fails : ℕ → Bool) (sized : Sized n) (apart : Apart n fails) (c : ℕ) (h : c < n) where
  -- where the caller and all the others are together, they cannot fail
  pub all_cannot : fails (with_caller c (first_others n c (others_below c n))) ≡ false
  all_cannot =
      let all = with_caller c (first_others n c (others_below c n)) in
      ⊎_elim (λ t. absurd (apart all all t t (all_whole n c sized.1 h))) (λ f. f) (cases_Bool (fails all))

  -- while caller and kings can fail, there is a station to come
  pub goes_on : (i k set : ℕ) → i ≤ n → k ≡ others_below c i → set ≡ first_others n c k → fails (with_caller c set) ≡ true → i < n
  goes_on i k set l e q t =
      ⊎_elim (λ (m : i < n). m)
      (λ (m : n ≤ i).
      let z : i ≡ n = omega arith in
      absurd (both_ways (fails (with_caller c set)) (ap (λ x. fails (with_caller c x)) (q ∙ ap (first_others n c) (e ∙ ap (others_below c) z)) ∙ all_cannot) t))
      (cases_lt i n)

  -- and so one more king
  pub one_more : (k set : ℕ) → k < n → set ≡ first_others n c k → fails (with_caller c set) ≡ true → k + 1 < n
  one_more k set l q t =
      ⊎_elim (λ (m : k + 1 < n). m)
      (λ (m : n ≤ k + 1). absurd (omega (arith, goes_on n k set (omega arith) (omega (arith, others-all c n h)) q t)))
      (cases_lt (k + 1) n)

  -- with king number k + 1 they are the first k + 1 kings
  pub king_joins : (k set i : ℕ) → k + 1 < n → set ≡ first_others n c k → i ≡ king c (k + 1) → mask_of 16 (λ j. has set j || eqb i j) ≡ first_others n c (k + 1)
  king_joins k set i l q e =
      ap₂ (λ x y. mask_of 16 (λ j. has x j || eqb y j)) q e
      ∙ first_joins n c (king c (k + 1)) k sized.1 (king-below n c (k + 1) h (omega arith) l) (king-other c (k + 1) (omega arith)) (king-others c k)

  -- the first number that passes is the number of kings
  pub count-is : (k : ℕ) → k < n → ((j : ℕ) → j < k → fails (with_caller c (first_others n c j)) ≡ true) → fails (with_caller c (first_others n c k)) ≡ false → king_count n fails c ≡ k
  unfolding king_count
  count-is k l before e =
      smallest-is n (λ k. not (fails (with_caller c (first_others n c k)))) n k l (λ j q. not_from_true _ (before j q)) (not_from_false _ e)

  pub facts : Singles n fails → (k : ℕ) → k < n → ((j : ℕ) → j < k → fails (with_caller c (first_others n c j)) ≡ true) → fails (with_caller c (first_others n c k)) ≡ false
      → KingFacts n fails (record { caller = c; set = first_others n c k; count = k })
  facts single k l before e =
      record {
        some = ⊎_elim (λ (q : 0 < k). q) (λ (q : k ≤ 0). absurd (none (let z : k ≡ 0 = omega arith in z))) (cases_lt 0 k);
        few = l;
        together = e;
        fewer = before;
        each = λ j p q. first-has n c k (king c j) (king-below n c j h p (omega arith)) ∙ king_place c j k p q;
        only = λ s t. let r = king-back c s k (sym (first-has n c k s (first_below n c k s t)) ∙ t) in (others_below c s + 1, omega arith, r.0, r.1);
        below = λ s t. first_below n c k s t;
        other = λ j p. king-other c j p;
        rising = λ i j p q. king-rising c i j p q;
      }
    where
      none : k ≡ 0 → ⊥
      none z =
          both_ways (fails (2 ^ c)) (ap fails (sym (ap (λ x. with_caller c (first_others n c x)) z ∙ with_none n c (omega (arith, sized.1)))) ∙ e) (single c h)
