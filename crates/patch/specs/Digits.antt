-- The digits of a patch number: below 16, and each once where the number is accepted.
use Rattle.std.specs.Prelude.{◌≡◌, ℕ, ◌+◌, ◌*◌, ◌%◌, ◌^◌, ◌<◌, ◌≤◌, Bool, true, false, cond, not, Some, None, ◌≢◌, nat_eq, refl}
use Rattle.std.proofs.Common.{sym, ap, ap₂, ◌∙◌, ⊎_elim, arith, add-one, pow_mono}
use Rattle.std.proofs.Math.Nat.{div-eq_of_lt}
use Rattle.std.proofs.lemmas.Bool.{eq-eqb, eqb-true, cases_order, both_ways, not-true, not_from_false, and_from}
use Rattle.sets.specs.Sets.{has, mask_of, every, any}
use Rattle.sets.proofs.Masks.{has-mask_of}
use Rattle.sets.proofs.Tests.{every-decides, any-decides}
use Rattle.patch.specs.Boxes.{box_of, OneEach, Twice, all_once}

pub box_lt : (p i : ℕ) → box_of p i < 16
unfolding box_of
box_lt p i = omega arith

-- a number of sixteen digits has 0 beyond them
pub box_high : (p i : ℕ) → p < 2 ^ 64 → 16 ≤ i → 0 ≡ box_of p i
unfolding box_of
box_high p i l h =
    let up : 2 ^ 64 ≤ 2 ^ (4 * i) = pow_mono (let z : 64 ≤ 4 * i = omega arith in z) in
    let lt : p < 2 ^ (4 * i) = omega arith in
    sym (ap (λ x. x % 16) (div-eq_of_lt lt))

-- whether the digit at i occurs before i
abbrev pub before : ℕ → ℕ → Bool
before p i = any i (λ j. nat_eq (box_of p j) (box_of p i))

-- the first i digits have none twice
abbrev pub once_below : ℕ → ℕ → Bool
once_below p i = every i (λ j. not (before p j))

pub once-none : (p : ℕ) → once_below p 0 ≡ true
unfolding every
once-none p = refl

pub once_more : (p i : ℕ) → once_below p i ≡ true → before p i ≡ false → once_below p (i + 1) ≡ true
unfolding every
once_more p i e h = ap (once_below p) (add-one i) ∙ and_from (not (before p i)) (once_below p i) (not_from_false (before p i) h) e

pub once-all : (p i : ℕ) → i ≡ 16 → once_below p i ≡ true → all_once p ≡ true
unfolding all_once
once-all p i e h = ap (once_below p) (sym e) ∙ h

-- a digit that occurred before occurs twice
pub before-twice : (p i : ℕ) → i < 16 → before p i ≡ true → Twice p
before-twice p i l h =
    let r = (any-decides (λ j. nat_eq (box_of p j) (box_of p i)) i).0 h in
    (r.0, i, r.1, l, eqb-true (box_of p r.0) (box_of p i) r.2)

module _ (p : ℕ) (accepted : all_once p ≡ true) where
  box_less : (i j : ℕ) → j < 16 → i < j → box_of p i ≢ box_of p j
  unfolding all_once
  box_less i j l h e =
      both_ways (before p j)
      (not-true (before p j) ((every-decides (λ j. not (before p j)) 16).0 accepted j l))
      ((any-decides (λ i. nat_eq (box_of p i) (box_of p j)) j).1 (i, h, eq-eqb (box_of p i) (box_of p j) e))

  -- an accepted number sets each station on a box of its own
  pub one_each : OneEach (box_of p)
  one_each = record {
    within = λ i _. box_lt p i;
    once = λ i j li lj e. ⊎_elim (λ q. q) (⊎_elim (λ q. absurd (box_less i j lj q e)) (λ q. absurd (box_less j i li q (sym e)))) (cases_order i j);
  }

-- what the loop of `new` has seen
pub seen_has : (p i b seen : ℕ) → b ≡ box_of p i → seen ≡ mask_of 16 (λ b. any i (λ j. nat_eq (box_of p j) b)) → has seen b ≡ before p i
seen_has p i b seen e q = ap₂ has q e ∙ has-mask_of 16 (λ b. any i (λ j. nat_eq (box_of p j) b)) (box_of p i) (box_lt p i)

-- what is made of a value that is kept unless h holds
pub joined : (h : Bool) (m more : ℕ) → cond h None (Some m) ≡ Some more → (h ≡ false) × (more ≡ m)
joined true m more e = (cc, cc)
joined false m more e = (refl, cc)

pub not-joined : (h : Bool) (m : ℕ) → cond h None (Some m) ≡ None → h ≡ true
not-joined true m e = refl
not-joined false m e = cc
