-- The laws of the group rule, and when masks keep the third of them.
use Rattle.std.specs.Prelude.{◌≡◌, ℕ, zero, suc, ◌+◌, ◌^◌, ◌<◌, ◌≤◌, Bool, true, false, not, ◌||◌, ◌⊎◌, List, [], ◌∷◌, length, drop, nat_le, slice_index, slice_index_or, refl}
use Rattle.std.proofs.Common.{sym, ap, subst, ◌∙◌, arith, add-one, drop-cons}
use Rattle.std.proofs.Math.Logic.{inl, inr, ⊎_elim}
use Rattle.std.proofs.lemmas.List.{drop_all}
use Rattle.std.proofs.lemmas.Bool.{or_cases, or_left, or_right, leb-true, le-leb, both_ways}
use Rattle.std.proofs.lemmas.Nat.{pow_below}
use Rattle.std.proofs.lemmas.Bool.Decides.{nat_tests}
use Rattle.sets.specs.Sets.{has, mask_of, count_of, members, inside, Part, Whole}
use Rattle.sets.proofs.Masks.{has-mask_of, mask_of-lt}
use Rattle.sets.proofs.Bounds.{part-lt, mask_16}
use Rattle.sets.proofs.Counts.{count_of_ext, count-below, count-not}
use Rattle.sets.proofs.Tests.{inside-decides}
use Rattle.rules.specs.Rules.{Own, Parts, Singles, Apart}
use Rattle.rules.specs.Group.{lies, group_fails, Below}
use Rattle.rules.specs.Flaws.{OneOf}
use Rattle.rules.specs.Making.{Sound}
use Rattle.rules.specs.CountLaws.{one-member, part-members, whole-members, own-parts, own_from}

-- the masks from place i on: the first of them, and the others
pub lies_from_place : (ms : List ℕ) (i s : ℕ) → i < length ms → lies (drop i ms) s ≡ (inside s (slice_index ms i) || lies (drop (i + 1) ms) s)
lies_from_place ms i s h = ap (λ x. lies x s) (drop-cons ms i 0 h) ∙ ap (λ x. inside s (slice_index ms i) || lies (drop x ms) s) (sym (add-one i))

pub lies-at-end : (ms : List ℕ) (i s : ℕ) → length ms ≤ i → lies (drop i ms) s ≡ false
lies-at-end ms i s h = ap (λ x. lies x s) (drop_all i ms h)

-- a set that lies within a mask lies within one of them
lies_at : (ms : List ℕ) (s : ℕ) → lies ms s ≡ true → (k : ℕ) × (k < length ms) × (inside s (slice_index ms k) ≡ true)
lies_at [] s e = absurd (both_ways false refl e)
lies_at (m ∷ ms) s e =
    ⊎_elim (λ h. (0, omega arith, h))
    (λ h. let r = lies_at ms s h in (suc r.0, omega (arith, r.1), r.2))
    (or_cases (inside s m) (lies ms s) e)

lies_in : (ms : List ℕ) (s k : ℕ) → k < length ms → inside s (slice_index ms k) ≡ true → lies ms s ≡ true
lies_in [] s k h e = absurd (omega arith)
lies_in (m ∷ ms) s zero h e = or_left (inside s m) (lies ms s) e
lies_in (m ∷ ms) s (suc k) h e = or_right (inside s m) (lies ms s) (lies_in ms s k (omega arith) e)

-- what makes up all n does so in either order, and with more
or_swap : (x y : Bool) → (x || y) ≡ true → (y || x) ≡ true
or_swap x y h = grind (arith, nat_tests)

whole-swap : (n a b : ℕ) → Whole n a b → Whole n b a
whole-swap n a b w i l = or_swap (has a i) (has b i) (w i l)

whole-more : (n a m b : ℕ) → Part a m → Whole n a b → Whole n m b
whole-more n a m b p w i l = ⊎_elim (λ e. or_left (has m i) (has b i) (p i e)) (λ e. or_right (has m i) (has b i) e) (or_cases (has a i) (has b i) (w i l))

module _ (n : ℕ) (high : n ≤ 16) (ms : List ℕ) where
  test : ℕ → Bool
  test s = nat_le (members s) 1 || lies ms s

  pub group-own : Own n (group_fails n ms)
  unfolding test
  group-own s e = (own-parts n test s e).0

  -- a set that can fail has at most one member or is a part of a mask
  which : (s : ℕ) → group_fails n ms s ≡ true → (members s ≤ 1) ⊎ ((k : ℕ) × (k < length ms) × Part s (slice_index ms k))
  unfolding test
  which s e =
      let h = own-parts n test s e in
      ⊎_elim (λ f. inl (leb-true (members s) 1 f))
      (λ f. let r = lies_at ms s f in inr (r.0, r.1, (inside-decides s (slice_index ms r.0) (mask_16 n s high h.0)).0 r.2))
      (or_cases (nat_le (members s) 1) (lies ms s) h.1)

  pub few-fail : (s : ℕ) → s < 2 ^ n → members s ≤ 1 → group_fails n ms s ≡ true
  unfolding test
  few-fail s l h = own_from n test s l (or_left (nat_le (members s) 1) (lies ms s) (le-leb (members s) 1 h))

  pub parts-fail : (s k : ℕ) → s < 2 ^ n → k < length ms → Part s (slice_index ms k) → group_fails n ms s ≡ true
  unfolding test
  parts-fail s k l h p =
      own_from n test s l (or_right (nat_le (members s) 1) (lies ms s) (lies_in ms s k h ((inside-decides s (slice_index ms k) (mask_16 n s high l)).1 p)))

  pub group-part : Parts (group_fails n ms)
  group-part a b p e =
      let l = part-lt n a b (group-own b e) p in
      ⊎_elim (λ h. few-fail a l (omega (arith, part-members a b p, h))) (λ r. parts-fail a r.0 l r.1 (λ i t. r.2 i (p i t))) (which b e)

  pub group-single : Singles n (group_fails n ms)
  group-single i l = few-fail (2 ^ i) (pow_below i n l) (one-member i)

  module _ (low : 3 ≤ n) (all : (k : ℕ) → k < length ms → Sound n ms (slice_index ms k)) where
    pub sound_below : Below n ms
    sound_below k h = (all k h).0

    one_mask : (a b : ℕ) → members a ≤ 1 → (k : ℕ) → k < length ms → Part b (slice_index ms k) → Whole n a b → ⊥
    one_mask a b ca k h p w =
        let m = slice_index_or ms k 0 in
        omega (arith, ca, whole-members n m a high (whole-more n b m a p (whole-swap n a b w)), (all k h).1)

    pub sound_apart : Apart n (group_fails n ms)
    sound_apart a b ea eb w = go (which a ea) (which b eb)
      where
        go : (members a ≤ 1) ⊎ ((k : ℕ) × (k < length ms) × Part a (slice_index ms k)) → (members b ≤ 1) ⊎ ((k : ℕ) × (k < length ms) × Part b (slice_index ms k)) → ⊥
        go (inl ca) (inl cb) = omega (arith, ca, cb, low, whole-members n a b high w)
        go (inl ca) (inr r) = one_mask a b ca r.0 r.1 r.2 w
        go (inr r) (inl cb) = one_mask b a cb r.0 r.1 r.2 (whole-swap n a b w)
        go (inr r) (inr q) =
            let m = slice_index_or ms r.0 0 in
            let o = slice_index_or ms q.0 0 in
            let v = whole-more n b o m q.2 (whole-swap n m b (whole-more n a m b r.2 w)) in
            (all r.0 r.1).2 q.0 q.1 v

  -- masks with a flaw make no rule
  module _ (below : Below n ms) (apart : Apart n (group_fails n ms)) where
    mask_fails : (m : ℕ) → OneOf m ms → group_fails n ms m ≡ true
    mask_fails m o =
        let e : slice_index_or ms o.0 0 ≡ m = o.2 in
        subst (λ x. group_fails n ms x ≡ true) e (parts-fail (slice_index ms o.0) o.0 (below o.0 o.1) o.1 (λ i t. t))

    pub not-together : (a b : ℕ) → OneOf a ms → OneOf b ms → Whole n a b → ⊥
    not-together a b oa ob w = apart a b (mask_fails a oa) (mask_fails b ob) w

    either : (x : Bool) → (x || not x) ≡ true
    either true = refl
    either false = refl

    -- the stations that a mask leaves out are more than one
    pub not_one_missing : (m : ℕ) → OneOf m ms → n ≤ members m + 1 → ⊥
    not_one_missing m o near =
        let b = mask_of n (λ i. not (has m i)) in
        let bl : b < 2 ^ n = mask_of-lt n (λ i. not (has m i)) in
        let cb : members b ≡ count_of n (λ i. not (has m i)) =
        count-below n b high bl ∙ count_of_ext n (has b) (λ i. not (has m i)) (λ i l. has-mask_of n (λ i. not (has m i)) i l) in
        apart m b (mask_fails m o) (few-fail b bl (omega (arith, cb, count-below n m high (group-own m (mask_fails m o)), count-not n (has m), near)))
        (λ i l. ap (λ x. has m i || x) (has-mask_of n (λ i. not (has m i)) i l) ∙ either (has m i))

    pub not_stranger : (m : ℕ) → OneOf m ms → 2 ^ n ≤ m → ⊥
    not_stranger m o l = omega (arith, group-own m (mask_fails m o), l)

-- no masks at all
pub no_masks_apart : (n : ℕ) → 3 ≤ n → n ≤ 16 → Apart n (group_fails n [])
no_masks_apart n low high = sound_apart n high [] low (λ k h. absurd (omega arith))
