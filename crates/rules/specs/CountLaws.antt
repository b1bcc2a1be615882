-- The laws of the count rule.
use Rattle.std.specs.Prelude.{◌≡◌, ℕ, ◌+◌, ◌*◌, ◌^◌, ◌<◌, ◌≤◌, Bool, true, ◌&&◌, ◌||◌, nat_eq, nat_le}
use Rattle.std.proofs.Common.{sym, subst}
use native.Mathlib.Omega.{arith}
use Rattle.std.proofs.lemmas.Bool.{le-leb, leb-true, and_parts, and_from}
use Rattle.std.proofs.lemmas.Nat.{pow_below}
use Rattle.sets.specs.Sets.{has, members, among, Part, Whole}
use Rattle.sets.proofs.Masks.{has_one}
use Rattle.sets.proofs.Bounds.{among-lt, lt-among, part-lt}
use Rattle.sets.proofs.Counts.{count_of_ext, count_le, count-up, count_or, count_full, count-one}
use Rattle.rules.specs.Rules.{Own, Parts, Singles, Apart}
use Rattle.rules.specs.Count.{count_fails}

-- a single station is one member
pub one-member : (i : ℕ) → members (2 ^ i) ≤ 1
one-member i = subst (λ x. x ≤ 1) (sym (count_of_ext 16 (has (2 ^ i)) (λ j. nat_eq i j) (λ j l. has_one i j))) (count-one 16 i)

-- a part has no more members
pub part-members : (a b : ℕ) → Part a b → members a ≤ members b
part-members a b p = count_le 16 (has a) (has b) (λ i _. p i)

-- two sets that make up all n have n members between them
pub whole-members : (n a b : ℕ) → n ≤ 16 → Whole n a b → n ≤ members a + members b
whole-members n a b l w =
    let f = count_full n (λ i. has a i || has b i) w in
    let o = count_or n (has a) (has b) in
    let p = count-up n 16 (has a) l in
    let q = count-up n 16 (has b) l in
    omega arith

-- a set that passes a test of its stations and another of its members
pub own-parts : (n : ℕ) (f : ℕ → Bool) (s : ℕ) → (among n s && f s) ≡ true → (s < 2 ^ n) × (f s ≡ true)
own-parts n f s e = let p = and_parts (among n s) (f s) e in (among-lt n s p.0, p.1)

pub own_from : (n : ℕ) (f : ℕ → Bool) (s : ℕ) → s < 2 ^ n → f s ≡ true → (among n s && f s) ≡ true
own_from n f s l e = and_from (among n s) (f s) (lt-among n s l) e

module _ (n t : ℕ) where
  few : ℕ → Bool
  few s = nat_le (members s) t

  pub count-own : Own n (count_fails n t)
  unfolding few
  count-own s e = (own-parts n few s e).0

  pub count-part : Parts (count_fails n t)
  unfolding few
  count-part a b p e =
      let h = own-parts n few b e in
      let m = part-members a b p in
      let l = leb-true (members b) t h.1 in
      own_from n few a (part-lt n a b h.0 p) (le-leb (members a) t (omega arith))

  pub count-single : 1 ≤ t → Singles n (count_fails n t)
  unfolding few
  count-single h i l = let o = one-member i in own_from n few (2 ^ i) (pow_below i n l) (le-leb (members (2 ^ i)) t (omega arith))

  pub count-apart : n ≤ 16 → 2 * t < n → Apart n (count_fails n t)
  unfolding few
  count-apart l h a b ea eb w =
      let c = whole-members n a b l w in
      let x = leb-true (members a) t (own-parts n few a ea).1 in
      let y = leb-true (members b) t (own-parts n few b eb).1 in
      omega arith
