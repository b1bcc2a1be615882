-- The worked cases, by computation.
use Rattle.std.proofs.Common.{◌≡◌, ℕ, ◌+◌, ◌*◌, ◌/◌, ◌%◌, ◌^◌, true, false, cond, ltb, sym, refl, ap, ◌∙◌, ⊎_elim, arith}
use native.Mathlib.Nat.{add-mul-mod_self_right}
use Rattle.std.proofs.lemmas.Bool.{cond-true, cond-false, cases_Bool, lt-ltb}
use Rattle.sets.specs.Sets.{has, mask_of, every, any}
use Rattle.sets.proofs.Masks.{has-mask_of}
use Rattle.rigs.specs.declared.keys.WireKey.{WireKey}
use Rattle.rigs.specs.Keys.{good_wire, good_trio, wire_place}
use Rattle.rigs.specs.Lines.{Trio, silence, Casts}
use Rattle.rigs.proofs.Trios.{wire-facts}
use Rattle.rig_kinds.specs.Plain.{plain_wire}
use Rattle.rig_kinds.specs.Noises.{noise_sound}
use Rattle.patch.specs.Boxes.{box_of, all_once, boxes}
use Rattle.patch.specs.Patching.{patched_trio}
use Rattle.patch.specs.Digits.{one_each}
use Rattle.rig_cases.specs.Worked.{turned, first_three, WorkedRigs}

pub noise-one : (place seed code : ℕ) → (place + seed) % 2 ^ 32 ≡ 1 → noise_sound seed place code ≡ 40503
noise-one place seed code e =
    let q = (place + seed) / 2 ^ 32 in
    let split : (place + seed) * 2654435761 ≡ 2654435761 + (q * 2654435761) * 2 ^ 32 = omega arith in
    ap (λ x. x % 2 ^ 32 / 65536) split ∙ ap (λ x. x / 65536) (add-mul-mod_self_right 2654435761 (q * 2654435761) (2 ^ 32))

turned-once : all_once turned ≡ true
unfolding all_once every any box_of
turned-once = refl

box_0 : box_of turned 0 ≡ 2
unfolding box_of
box_0 = refl

box_1 : box_of turned 1 ≡ 1
unfolding box_of
box_1 = refl

box_2 : box_of turned 2 ≡ 0
unfolding box_of
box_2 = refl

turned-trio : (h : Casts) (take round speaker code broken : ℕ) → good_trio (first_three take round speaker) ≡ true
    → let below : Trio = h (first_three take round (box_of turned speaker)) code (boxes (box_of turned) broken) in
    patched_trio (box_of turned) h (first_three take round speaker) code broken ≡ (below.2, below.1, below.0)
unfolding box_of
turned-trio h take round speaker code broken e = cond-true (good_trio (first_three take round speaker)) _ _ e

-- a broken sender on the noise rig with place plus seed 1
pub first-noise : (k : WireKey) (code broken seed place : ℕ) → broken ≡ mask_of 16 (λ j. ltb j 16) → place ≡ wire_place k → (place + seed) % 2 ^ 32 ≡ 1
    → plain_wire (noise_sound seed) k code broken ≡ cond (good_wire k) 40503 silence
first-noise k code broken seed place all at one =
    ⊎_elim
    (λ (e : good_wire k ≡ true).
    let lt = (wire-facts k e).1 in
    let broke : has broken k.from ≡ true = ap (λ x. has x k.from) all ∙ has-mask_of 16 (λ j. ltb j 16) k.from lt ∙ lt-ltb k.from 16 lt in
    cond-true (good_wire k) _ _ e ∙ cond-true (has broken k.from) _ _ broke
    ∙ noise-one (wire_place k) seed code (ap (λ x. (x + seed) % 2 ^ 32) (sym at) ∙ one) ∙ sym (cond-true (good_wire k) 40503 silence e))
    (λ (e : good_wire k ≡ false). cond-false (good_wire k) _ _ e ∙ sym (cond-false (good_wire k) 40503 silence e))
    (cases_Bool (good_wire k))

pub worked : WorkedRigs
worked = record {
  noise = noise-one;
  accepted = one_each turned turned-once;
  first = box_0;
  second = box_1;
  third = box_2;
  trio = turned-trio;
}
