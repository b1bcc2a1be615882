-- Two floors of boxes, g under f, are one floor with the box g (f i) under station i.
use Rattle.std.proofs.Common.{◌≡◌, ℕ, ◌<◌, true, false, ◌&&◌, eqb, ◌⊎◌, Decides, sym, refl, ap, ◌∙◌, ap₂, inl, inr, ⊎_elim, arith}
use Rattle.std.proofs.lemmas.Bool.{cond-true, cases_Bool, cases_eq, eq-eqb, eqb-true, and_parts, and_from}
use Rattle.std.proofs.lemmas.Bool.Decides.{same_from_decides, Decides-like}
use Rattle.sets.specs.Sets.{has, any}
use Rattle.sets.proofs.Masks.{has-mask_of, mask_of-lt, mask_ext}
use Rattle.sets.proofs.Tests.{any-decides}
use Rattle.rigs.specs.declared.keys.WireKey.{WireKey}
use Rattle.rigs.specs.declared.keys.TrioKey.{TrioKey}
use Rattle.rigs.specs.Keys.{good_wire, good_trio, in_trio}
use Rattle.rigs.specs.Lines.{silent, heard_at, each, Wires, Casts}
use Rattle.rigs.proofs.Trios.{trio-facts, in_cases, in_a, in_b, in_c}
use Rattle.patch.specs.Boxes.{Boxes, OneEach, boxes, low3, mid3, high3}
use Rattle.patch.specs.Patching.{wire_down, trio_down, patched_wire, patched_trio}
use Rattle.patch.specs.Boxing.{in_down, trio-down-good, wire-down-good}
use Rattle.patch.specs.Down.{patched_bad, patched_mute, patched_at}

pub one_each-composed : (f g : Boxes) → OneEach f → OneEach g → OneEach (λ i. g (f i))
one_each-composed f g o q = record {
  within = λ i l. q.within (f i) (o.within i l);
  once = λ i j li lj e. o.once i j li lj (q.once (f i) (f j) (o.within i li) (o.within j lj) e);
}

-- some station of the set s stands on the box b
Stood : Boxes → ℕ → ℕ → Type 0
Stood f s b = (i : ℕ) × (i < 16) × (has s i ≡ true) × (f i ≡ b)

stood : (f : Boxes) (s b : ℕ) → b < 16 → Decides (has (boxes f s) b) (Stood f s b)
unfolding boxes Stood
stood f s b l =
    let at = has-mask_of 16 (λ b. any 16 (λ i. has s i && eqb (f i) b)) b l in
    let d = any-decides (λ i. has s i && eqb (f i) b) 16 in (
      (λ e. let r = d.0 (sym at ∙ e) in let t = and_parts (has s r.0) (eqb (f r.0) b) r.2 in (r.0, r.1, t.0, eqb-true (f r.0) b t.1)),
      (λ r. at ∙ d.1 (r.0, r.1, and_from (has s r.0) (eqb (f r.0) b) r.2 (eq-eqb (f r.0) b r.3))),
    )

pub boxes-lt : (f : Boxes) (s : ℕ) → boxes f s < 65536
unfolding boxes
boxes-lt f s = mask_of-lt 16 (λ b. any 16 (λ i. has s i && eqb (f i) b))

-- a set goes down two floors as it goes down the one
pub boxes_composed : (f g : Boxes) (s : ℕ) → OneEach f → boxes g (boxes f s) ≡ boxes (λ i. g (f i)) s
unfolding Stood
boxes_composed f g s o =
    mask_ext 16 (boxes g (boxes f s)) (boxes (λ i. g (f i)) s) (boxes-lt g (boxes f s)) (boxes-lt (λ i. g (f i)) s)
    (λ b l. same_from_decides (has (boxes g (boxes f s)) b) (has (boxes (λ i. g (f i)) s) b)
    (Decides-like (has (boxes g (boxes f s)) b)
    (λ (r : Stood g (boxes f s) b). let t = (stood f s r.0 r.1).0 r.2 in (t.0, t.1, t.2, ap g t.3 ∙ r.3))
    (λ (r : Stood (λ i. g (f i)) s b).
    let lt = o.within r.0 r.1 in
    (f r.0, lt, (stood f s (f r.0) lt).1 (r.0, r.1, r.2, refl), r.3))
    (stood g (boxes f s) b l))
    (stood (λ i. g (f i)) s b l))

-- a number that cannot be none of three is one of them
one_of : (s x y z : ℕ) → ((s ≡ x → ⊥) → (s ≡ y → ⊥) → (s ≡ z → ⊥) → ⊥) → (s ≡ x) ⊎ ((s ≡ y) ⊎ (s ≡ z))
one_of s x y z h =
    ⊎_elim (λ e. inl e)
    (λ a. ⊎_elim (λ e. inr (inl e)) (λ b. ⊎_elim (λ e. inr (inr e)) (λ c. absurd (h a b c)) (cases_eq s z)) (cases_eq s y))
    (cases_eq s x)

-- each of three numbers in order is one of the three
low-one : (x y z : ℕ) → (low3 x y z ≡ x) ⊎ ((low3 x y z ≡ y) ⊎ (low3 x y z ≡ z))
low-one x y z = one_of (low3 x y z) x y z (λ a b c. omega arith)

mid-one : (x y z : ℕ) → (mid3 x y z ≡ x) ⊎ ((mid3 x y z ≡ y) ⊎ (mid3 x y z ≡ z))
mid-one x y z = one_of (mid3 x y z) x y z (λ a b c. omega arith)

high_one : (x y z : ℕ) → (high3 x y z ≡ x) ⊎ ((high3 x y z ≡ y) ⊎ (high3 x y z ≡ z))
high_one x y z = one_of (high3 x y z) x y z (λ a b c. omega arith)

-- two rows of three rising numbers, the second among the first, are the same
rising-same : (a b c x y z : ℕ) → a < b → b < c → x < y → y < z
    → (x ≡ a) ⊎ ((x ≡ b) ⊎ (x ≡ c)) → (y ≡ a) ⊎ ((y ≡ b) ⊎ (y ≡ c)) → (z ≡ a) ⊎ ((z ≡ b) ⊎ (z ≡ c)) → (a ≡ x) × (b ≡ y) × (c ≡ z)
rising-same a b c x y z ab bc xy yz hx hy hz = (omega arith, omega arith, omega arith)

module _ (f g : Boxes) (o : OneEach f) (q : OneEach g) where
  -- what stands under one of the three stations is one of the three boxes two floors down
  under_two : (k : TrioKey) (x s : ℕ) → x ≡ g (f s) → in_trio k s ≡ true → in_trio (trio_down g (trio_down f k)) x ≡ true
  under_two k x s e i = ap (in_trio (trio_down g (trio_down f k))) e ∙ in_down g (trio_down f k) (f s) (in_down f k s i)

  -- a key goes down two floors as it goes down the one
  pub trio_composed : (k : TrioKey) → good_trio k ≡ true → trio_down g (trio_down f k) ≡ trio_down (λ i. g (f i)) k
  trio_composed k e =
      let two = trio_down g (trio_down f k) in
      let one = trio_down (λ i. g (f i)) k in
      let t2 = trio-facts two (trio-down-good g q (trio_down f k) (trio-down-good f o k e)) in
      let t1 = trio-facts one (trio-down-good (λ i. g (f i)) (one_each-composed f g o q) k e) in
      let at : (x : ℕ) → (x ≡ g (f k.a)) ⊎ ((x ≡ g (f k.b)) ⊎ (x ≡ g (f k.c))) → (x ≡ two.a) ⊎ ((x ≡ two.b) ⊎ (x ≡ two.c))
      = (λ x h. in_cases two x (⊎_elim (λ r. under_two k x k.a r (in_a k)) (⊎_elim (λ r. under_two k x k.b r (in_b k)) (λ r. under_two k x k.c r (in_c k))) h)) in
      let r = rising-same two.a two.b two.c one.a one.b one.c t2.1 t2.2 t1.1 t1.2
      (at one.a (low-one (g (f k.a)) (g (f k.b)) (g (f k.c))))
      (at one.b (mid-one (g (f k.a)) (g (f k.b)) (g (f k.c))))
      (at one.c (high_one (g (f k.a)) (g (f k.b)) (g (f k.c)))) in
      (λ i. record { take = k.take; round = k.round; a = r.0 i; b = r.1 i; c = r.2 i; speaker = g (f k.speaker) })

  -- the wire of two floors
  pub wire_floors : (w : Wires) (k : WireKey) (code broken : ℕ) → patched_wire f (patched_wire g w) k code broken ≡ patched_wire (λ i. g (f i)) w k code broken
  wire_floors w k code broken =
      ⊎_elim
      (λ (e : good_wire k ≡ true). cond-true (good_wire k) _ _ e ∙ cond-true (good_wire (wire_down f k)) _ _ (wire-down-good f o k e)
      ∙ ap (w (wire_down (λ i. g (f i)) k) code) (boxes_composed f g broken o) ∙ sym (cond-true (good_wire k) _ _ e))
      (λ (e : good_wire k ≡ false). patched_bad f (patched_wire g w) k code broken e ∙ sym (patched_bad (λ i. g (f i)) w k code broken e))
      (cases_Bool (good_wire k))

  -- what one of three stations hears on the trio line of two floors
  floors_at : (h : Casts) (k : TrioKey) (code broken s : ℕ) → good_trio k ≡ true → in_trio k s ≡ true
      → heard_at (trio_down f k) (patched_trio g h (trio_down f k) code (boxes f broken)) (f s)
      ≡ heard_at (trio_down (λ i. g (f i)) k) (h (trio_down (λ i. g (f i)) k) code (boxes (λ i. g (f i)) broken)) (g (f s))
  floors_at h k code broken s e i =
      patched_at g h (trio_down f k) code (boxes f broken) (f s) (trio-down-good f o k e) (in_down f k s i)
      ∙ ap₂ (λ key set. heard_at key (h key code set) (g (f s))) (trio_composed k e) (boxes_composed f g broken o)

  -- the trio line of two floors
  pub trio_floors : (h : Casts) (k : TrioKey) (code broken : ℕ) → patched_trio f (patched_trio g h) k code broken ≡ patched_trio (λ i. g (f i)) h k code broken
  trio_floors h k code broken =
      ⊎_elim
      (λ (e : good_trio k ≡ true).
      let a = floors_at h k code broken k.a e (in_a k) in
      let b = floors_at h k code broken k.b e (in_b k) in
      let c = floors_at h k code broken k.c e (in_c k) in
      cond-true (good_trio k) (each k (λ s. heard_at (trio_down f k) (patched_trio g h (trio_down f k) code (boxes f broken)) (f s))) silent e
      ∙ (λ i. (a i, b i, c i))
      ∙ sym (cond-true (good_trio k) (each k (λ s. heard_at (trio_down (λ i. g (f i)) k) (h (trio_down (λ i. g (f i)) k) code (boxes (λ i. g (f i)) broken)) (g (f s)))) silent e))
      (λ (e : good_trio k ≡ false). patched_mute f (patched_trio g h) k code broken e ∙ sym (patched_mute (λ i. g (f i)) h k code broken e))
      (cases_Bool (good_trio k))
