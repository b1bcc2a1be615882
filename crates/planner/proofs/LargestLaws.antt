-- When a set is a largest one that can fail, and the list of such sets, one set after the other.
use Rattle.std.proofs.Common.{◌≡◌, ℕ, ◌+◌, ◌-◌, ◌^◌, ◌<◌, ◌≤◌, Bool, true, false, cond, not, ◌&&◌, ◌||◌, eqb, ltb, List, [], ◌∷◌, ◌++◌, length, get_or, sym, refl, ap, ◌∙◌, subst, ⊎_elim, arith, length-append, pow_pos, pow_mono, zero, suc, append-nil, Decides, map-id}
use Rattle.std.specs.List.{filter, list_all, range_with_len}
use Rattle.std.proofs.lemmas.List.{get_or_push, get_or_append_left}
use Rattle.std.proofs.lemmas.List.Elements.{filter-append}
use Rattle.std.proofs.lemmas.List.FromFn.{length-range_with_len, get_or-range_with_len, map-range_with_len_more}
use Rattle.std.proofs.lemmas.List.Sums.{AllPass-from_list_all, list_all-from_AllPass}
use Rattle.std.proofs.lemmas.Bool.{cases_lt, cases_Bool, cases_eq, both_ways, or_left, or_right, or_cases, eqb-true, eq-eqb, and_from, not_from_false, and_parts, not-true}
use Rattle.sets.specs.Sets.{has, mask_of, Part}
use Rattle.sets.proofs.Masks.{has-mask_of, mask_of-lt, mask_is}
use Rattle.sets.proofs.Bounds.{has-below, has-ones, mask_16}
use Rattle.rules.specs.Rules.{Own, Parts}
use Rattle.planner.specs.Largest.{with_station, Largest, LargestSets, may_join, none_may_join}

module _ (n : ℕ) (high : n ≤ 16) (fails : ℕ → Bool) (own : Own n fails) (part : Parts fails) (s : ℕ) (can : fails s ≡ true) where
  joined-part : (i b : ℕ) → Part s b → has b i ≡ true → Part (with_station s i) b
  joined-part i b p e j t =
      let l : j < 16 = has-below 16 (with_station s i) j (mask_of-lt 16 (λ j. has s j || eqb i j)) t in
      ⊎_elim (λ h. p j h) (λ h. ap (has b) (sym (eqb-true i j h)) ∙ e) (or_cases (has s j) (eqb i j) (sym (has-mask_of 16 (λ j. has s j || eqb i j) j l) ∙ t))

  -- where no station may join, the set is a largest one
  pub none_joins : ((i : ℕ) → i < n → (not (has s i) && fails (with_station s i)) ≡ false) → Largest fails s
  none_joins none = (
    can,
    λ b cb p i e. ⊎_elim (λ t. t)
        (λ f. absurd (both_ways _ (none i (has-below n b i (own b cb) e)) (and_from _ _ (not_from_false _ f) (part (with_station s i) b (joined-part i b p e) cb))))
        (cases_Bool (has s i)),
  )

  -- where one may, it is not
  pub one_joins : (i : ℕ) → i < n → (not (has s i) && fails (with_station s i)) ≡ true → Largest fails s → ⊥
  one_joins i l e largest =
      let h = and_parts (not (has s i)) (fails (with_station s i)) e in
      let more : Part s (with_station s i) = λ j t. has-mask_of 16 (λ j. has s j || eqb i j) j (has-below 16 s j (mask_16 n s high (own s can)) t) ∙ or_left (has s j) (eqb i j) t in
      let here : has (with_station s i) i ≡ true = has-mask_of 16 (λ j. has s j || eqb i j) i (omega arith) ∙ or_right (has s i) (eqb i i) (eq-eqb i i refl) in
      both_ways (has s i) (not-true _ h.0) (largest.1 (with_station s i) h.1 more i here)

-- the set with a station of its own is the set
pub with_own : (s i : ℕ) → s < 2 ^ 16 → has s i ≡ true → s ≡ with_station s i
with_own s i small t = mask_is 16 s (λ j. has s j || eqb i j) small (λ j l. ⊎_elim
    (λ h. rw h refl)
    (λ h. rw h (⊎_elim (λ q. absurd (both_ways (has s j) h (ap (has s) (sym (eqb-true i j q)) ∙ t))) (λ q. rw q refl) (cases_Bool (eqb i j))))
    (cases_Bool (has s j)))

-- one of n numbers passes a test, so not all fail it
pub one_passes : (n : ℕ) (t : ℕ → Bool) (i : ℕ) → i < n → t i ≡ true → false ≡ list_all (λ i. not (t i)) (range_with_len 0 n)
one_passes n t i l e = ⊎_elim
    (λ h. let j : get_or (range_with_len 0 n) i 0 ≡ i = omega (arith, get_or-range_with_len 0 n i 0 l) in
    absurd (both_ways (t i) (not-true _ (rw (← j) (AllPass-from_list_all (λ i. not (t i)) _ h i 0 (rw length-range_with_len l)))) e))
    (λ f. sym f) (cases_Bool (list_all (λ i. not (t i)) (range_with_len 0 n)))

-- none of them passes it, so all fail it
pub none_passes : (n : ℕ) (t : ℕ → Bool) → ((i : ℕ) → i < n → t i ≡ false) → true ≡ list_all (λ i. not (t i)) (range_with_len 0 n)
none_passes n t none = sym (list_all-from_AllPass (λ i. not (t i)) _ (λ k d l. let j : k < n = rw (sym (length-range_with_len 0 n)) l in
    let e : k ≡ get_or (range_with_len 0 n) k d = omega (arith, get_or-range_with_len 0 n k d j) in
    ap (λ i. not (t i)) (sym e) ∙ ap not (none k j)))

module _ (n : ℕ) (high : n ≤ 16) (fails : ℕ → Bool) (own : Own n fails) (part : Parts fails) (s : ℕ) where
  may-not : (i : ℕ) → i < n → Largest fails s → may_join fails s i ≡ false
  may-not i l p = ⊎_elim (λ e. absurd (one_joins n high fails own part s p.0 i l e p)) (λ f. f) (cases_Bool (may_join fails s i))

  -- the test by stations tells the largest sets
  pub largest_by_stations : Decides (none_may_join n fails s) (Largest fails s)
  largest_by_stations = (
    (λ e. let h = and_parts (fails s) _ e in
        none_joins n high fails own part s h.0 (λ i l. let j : get_or (range_with_len 0 n) i 0 ≡ i = omega (arith, get_or-range_with_len 0 n i 0 l) in
        not-true _ (rw (← j) (AllPass-from_list_all (λ i. not (may_join fails s i)) _ h.1 i 0 (rw length-range_with_len l))))),
    (λ p. and_from _ _ p.0 (list_all-from_AllPass (λ i. not (may_join fails s i)) _ (λ k d l. let j : k < n = rw (sym (length-range_with_len 0 n)) l in
        let e : k ≡ get_or (range_with_len 0 n) k d = omega (arith, get_or-range_with_len 0 n k d j) in
        ap (λ i. not (may_join fails s i)) (sym e) ∙ ap not (may-not k j p)))),
  )

-- the largest sets among the masks below m
pub record FoundBelow (fails : ℕ → Bool) (m : ℕ) (ms : List ℕ) : Type 0 where
  pub each : (k : ℕ) → k < length ms → Largest fails (get_or ms k 0) × (get_or ms k 0 < m)
  pub all : (s : ℕ) → s < m → Largest fails s → (k : ℕ) × (k < length ms) × (get_or ms k 0 ≡ s)
  pub rising : (i j : ℕ) → i < j → j < length ms → get_or ms i 0 < get_or ms j 0

pub found_none : (fails : ℕ → Bool) → FoundBelow fails 0 []
found_none fails = record { each = λ k h. absurd (omega arith); all = λ s h. absurd (omega arith); rising = λ i j h q. absurd (omega arith) }

-- a mask that is no largest set is passed over
pub found_skips : (fails : ℕ → Bool) (m : ℕ) (ms : List ℕ) → FoundBelow fails m ms → (Largest fails m → ⊥) → FoundBelow fails (m + 1) ms
found_skips fails m ms f none =
    record {
      each = λ k h. ((f.each k h).0, omega (arith, (f.each k h).1));
      all = λ s h p. ⊎_elim (λ (e : s ≡ m). absurd (none (subst (Largest fails) e p))) (λ (d : s ≡ m → ⊥). f.all s (omega arith) p) (cases_eq s m);
      rising = f.rising;
    }

module _ (fails : ℕ → Bool) (m : ℕ) (ms : List ℕ) (f : FoundBelow fails m ms) (here : Largest fails m) where
  last-is : get_or (ms ++ m ∷ []) (length ms) 0 ≡ m
  last-is = get_or_push ms m 0 (length ms) refl

  old_is : (k : ℕ) → k < length ms → get_or (ms ++ m ∷ []) k 0 ≡ get_or ms k 0
  old_is k h = get_or_append_left ms (m ∷ []) 0 k h

  one_more : length (ms ++ m ∷ []) ≡ length ms + 1
  one_more = length-append ms (m ∷ [])

  -- one that is joins the list
  pub found_joins : FoundBelow fails (m + 1) (ms ++ m ∷ [])
  found_joins =
      record {
        each = λ k h. ⊎_elim
            (λ (l : k < length ms). (subst (Largest fails) (sym (old_is k l)) (f.each k l).0, omega (arith, old_is k l, (f.each k l).1)))
            (λ (l : length ms ≤ k). let e : length ms ≡ k = omega (arith, one_more) in
            let q : get_or (ms ++ m ∷ []) k 0 ≡ m = ap (λ x. get_or (ms ++ m ∷ []) x 0) (sym e) ∙ last-is in (subst (Largest fails) (sym q) here, omega arith))
            (cases_lt k (length ms));
        all = λ s h p. ⊎_elim
            (λ (e : s ≡ m). (length ms, omega (arith, one_more), last-is ∙ sym e))
            (λ (d : s ≡ m → ⊥). let r = f.all s (omega arith) p in (r.0, omega (arith, one_more, r.1), old_is r.0 r.1 ∙ r.2))
            (cases_eq s m);
        rising = λ i j h q. ⊎_elim
            (λ (l : j < length ms). omega (arith, old_is i (omega arith), old_is j l, f.rising i j h l))
            (λ (l : length ms ≤ j). let e : length ms ≡ j = omega (arith, one_more) in
            let z : get_or (ms ++ m ∷ []) j 0 ≡ m = ap (λ x. get_or (ms ++ m ∷ []) x 0) (sym e) ∙ last-is in
            omega (arith, z, old_is i (omega arith), (f.each i (omega arith)).1))
            (cases_lt j (length ms));
      }

-- the last mask of n stations
pub all-is : (n : ℕ) → n ≤ 16 → mask_of 16 (λ j. ltb j n) + 1 ≡ 2 ^ n
all-is n high =
    let up : 2 ^ n ≤ 2 ^ 16 = pow_mono high in
    let e : 2 ^ n - 1 ≡ mask_of 16 (λ j. ltb j n) = mask_is 16 (2 ^ n - 1) (λ j. ltb j n) (omega (arith, pow_pos n)) (λ i _. has-ones n i) in
    omega (arith, e, pow_pos n)

-- past the last mask there is no set that can fail
pub found_all : (n m : ℕ) (fails : ℕ → Bool) (ms : List ℕ) → Own n fails → 2 ^ n ≤ m → FoundBelow fails m ms → LargestSets fails ms
found_all n m fails ms own h f =
    record { each = λ k l. (f.each k l).0; all = λ s p. f.all s (omega (arith, own s p.0)) p; rising = f.rising }

-- the numbers below m + 1
range-more : (m : ℕ) → range_with_len 0 (m + 1) ≡ range_with_len 0 m ++ m ∷ []
range-more m = sym (map-id _) ∙ map-range_with_len_more (λ x. x) 0 m m (omega arith) ∙ ap (λ l. l ++ m ∷ []) (map-id _)

module _ (n : ℕ) (high : n ≤ 16) (fails : ℕ → Bool) (own : Own n fails) (part : Parts fails) where
  abbrev test : ℕ → Bool
  test = none_may_join n fails

  abbrev passed : ℕ → List ℕ
  passed m = filter test (range_with_len 0 m)

  next : (m : ℕ) (b : Bool) → test m ≡ b → FoundBelow fails m (passed m) → FoundBelow fails (m + 1) (passed m ++ cond b (m ∷ []) [])
  next m true e f = found_joins fails m (passed m) f ((largest_by_stations n high fails own part m).0 e)
  next m false e f = rw append-nil (found_skips fails m (passed m) f (λ p. both_ways _ e ((largest_by_stations n high fails own part m).1 p)))

  -- the masks below m that pass the test
  found_passed : (m : ℕ) → FoundBelow fails m (passed m)
  found_passed zero = found_none fails
  found_passed (suc m) =
      let e : m + 1 ≡ suc m = omega arith in
      let f : FoundBelow fails (m + 1) (filter test (range_with_len 0 (m + 1))) = rw (range-more, filter-append) (next m (test m) refl (found_passed m)) in
      subst (λ k. FoundBelow fails k (passed k)) e f

  -- are the largest sets, where no mask from m on can fail
  pub found_by_test : (m : ℕ) → 2 ^ n ≤ m → LargestSets fails (passed m)
  found_by_test m h = found_all n m fails (passed m) own h (found_passed m)
