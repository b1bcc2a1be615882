-- A pile of no floors: every station on the box of its own number.
use Rattle.std.proofs.Common.{◌≡◌, ℕ, ◌^◌, ◌<◌, true, false, sym, ap, ◌∙◌, ap₂, ⊎_elim, arith}
use Rattle.std.proofs.lemmas.Bool.{cond-true, cases_Bool}
use Rattle.sets.proofs.Masks.{mask_ext}
use Rattle.rigs.specs.declared.keys.WireKey.{WireKey}
use Rattle.rigs.specs.declared.keys.TrioKey.{TrioKey}
use Rattle.rigs.specs.Keys.{good_wire, good_trio}
use Rattle.rigs.specs.Lines.{Trio, silent, heard_at, each, Wires, Casts}
use Rattle.rigs.specs.Laws.{BadWire, Mute}
use Rattle.rigs.proofs.Trios.{trio-facts, at_a, at_b, at_c}
use Rattle.patch.specs.Boxes.{OneEach, boxes, low3, mid3, high3}
use Rattle.patch.specs.Patching.{trio_down, patched_wire, patched_trio}
use Rattle.patch.specs.Boxing.{has-boxes}
use Rattle.patch.specs.Down.{patched_bad, patched_mute}
use Rattle.piles.proofs.Composed.{boxes-lt}

pub one-each-own : OneEach (λ i. i)
one-each-own = record { within = λ i l. l; once = λ i j li lj e. e }

own-set : (s : ℕ) → s < 2 ^ 16 → boxes (λ i. i) s ≡ s
own-set s l = mask_ext 16 (boxes (λ i. i) s) s (boxes-lt (λ i. i) s) l (λ i k. has-boxes (λ i. i) one-each-own s i k)

rising_stays : (a b c : ℕ) → a < b → b < c → (low3 a b c ≡ a) × (mid3 a b c ≡ b) × (high3 a b c ≡ c)
rising_stays a b c p q = (omega arith, omega arith, omega arith)

own-trio : (k : TrioKey) → good_trio k ≡ true → trio_down (λ i. i) k ≡ k
own-trio k e =
    let t = trio-facts k e in
    let r = rising_stays k.a k.b k.c t.1 t.2 in
    (λ i. record { take = k.take; round = k.round; a = r.0 i; b = r.1 i; c = r.2 i; speaker = k.speaker })

-- a wire that keeps the law of bad keys is its own patch by no boxes
pub wire_no_floors : (w : Wires) → BadWire w → (k : WireKey) (code broken : ℕ) → broken < 2 ^ 16 → w k code broken ≡ patched_wire (λ i. i) w k code broken
wire_no_floors w bad k code broken l =
    ⊎_elim
    (λ (e : good_wire k ≡ true). sym (cond-true (good_wire k) _ _ e ∙ ap (w k code) (own-set broken l)))
    (λ (e : good_wire k ≡ false). bad k code broken e ∙ sym (patched_bad (λ i. i) w k code broken e))
    (cases_Bool (good_wire k))

-- and so is a trio line
pub trio_no_floors : (h : Casts) → Mute h → (k : TrioKey) (code broken : ℕ) → broken < 2 ^ 16 → h k code broken ≡ patched_trio (λ i. i) h k code broken
trio_no_floors h mute k code broken l =
    ⊎_elim
    (λ (e : good_trio k ≡ true).
    let x = h k code broken in
    let down : Trio = h (trio_down (λ i. i) k) code (boxes (λ i. i) broken) in
    let at : (s : ℕ) → heard_at (trio_down (λ i. i) k) down s ≡ heard_at k x s
    = (λ s. ap₂ (λ key set. heard_at key (h key code set) s) (own-trio k e) (own-set broken l)) in
    let a = sym (at k.a ∙ at_a k x) in
    let b = sym (at k.b ∙ at_b k x e) in
    let c = sym (at k.c ∙ at_c k x e) in
    (λ i. (a i, b i, c i)) ∙ sym (cond-true (good_trio k) (each k (λ s. heard_at (trio_down (λ i. i) k) down s)) silent e))
    (λ (e : good_trio k ≡ false). mute k code broken e ∙ sym (patched_mute (λ i. i) h k code broken e))
    (cases_Bool (good_trio k))
