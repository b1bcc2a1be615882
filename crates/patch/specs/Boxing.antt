-- Where no two stations stand on one box, good keys go down as good keys and members as members.
use Rattle.std.specs.Prelude.{◌≡◌, ℕ, ◌<◌, Bool, true, false, ◌&&◌, ◌⊎◌, ◌==◌, ◌≢◌, nat_eq, refl}
use Rattle.std.proofs.Math.Path.{sym}
use Rattle.std.proofs.Common.{ap, ◌∙◌, inl, inr, arith}
use Rattle.std.proofs.Math.Logic.{⊎_elim}
use Rattle.std.proofs.lemmas.Bool.{eq-eqb, eqb-true, cases_Bool, both_ways, and_parts, and_from}
use Rattle.sets.specs.Sets.{has, any}
use Rattle.sets.proofs.Masks.{has-mask_of}
use Rattle.sets.proofs.Tests.{any-decides}
use Rattle.rigs.specs.declared.keys.WireKey.{WireKey}
use Rattle.rigs.specs.declared.keys.TrioKey.{TrioKey}
use Rattle.rigs.specs.Keys.{good_wire, good_trio, in_trio}
use Rattle.rigs.proofs.Trios.{wire-facts, wire-good, trio-facts, trio-good, in_cases, in_below, not_none}
use Rattle.patch.specs.Boxes.{Boxes, OneEach, boxes, low3, mid3, high3}
use Rattle.patch.specs.Patching.{wire_down, trio_down}

-- three different numbers in order
in_order : (x y z : ℕ) → (x ≢ y) → (y ≢ z) → (x ≢ z) → (low3 x y z < mid3 x y z) × (mid3 x y z < high3 x y z)
in_order x y z a b c = (omega arith, omega arith)

high_lt : (x y z : ℕ) → x < 16 → y < 16 → z < 16 → high3 x y z < 16
high_lt x y z a b c = omega arith

sorted_in : (x y z s : ℕ) → (s ≡ x) ⊎ ((s ≡ y) ⊎ (s ≡ z)) → (s ≢ low3 x y z) → (s ≢ mid3 x y z) → (s ≢ high3 x y z) → ⊥
sorted_in x y z s c a b d = ⊎_elim (λ e. omega arith) (⊎_elim (λ e. omega arith) (λ e. omega arith)) c

-- the box of one of three stations is one of their three boxes
pub in_down : (f : Boxes) (k : TrioKey) (s : ℕ) → in_trio k s ≡ true → in_trio (trio_down f k) (f s) ≡ true
in_down f k s i =
    not_none (trio_down f k) (f s)
    (sorted_in (f k.a) (f k.b) (f k.c) (f s)
    (⊎_elim (λ e. inl (ap f e)) (⊎_elim (λ e. inr (inl (ap f e))) (λ e. inr (inr (ap f e)))) (in_cases k s i)))

module _ (f : Boxes) (o : OneEach f) where
  -- a station is in a set where its box is in the set that went down
  pub has-boxes : (s i : ℕ) → i < 16 → has (boxes f s) (f i) ≡ has s i
  unfolding boxes
  has-boxes s i l =
      let test : ℕ → Bool = λ j. has s j && nat_eq (f j) (f i) in
      has-mask_of 16 (λ b. any 16 (λ i. has s i && f i == b)) (f i) (o.within i l)
      ∙ ⊎_elim
      (λ (e : has s i ≡ true). (any-decides test 16).1 (i, l, and_from (has s i) (f i == f i) e (eq-eqb (f i) (f i) refl)) ∙ sym e)
      (λ (e : has s i ≡ false). ⊎_elim
      (λ (q : any 16 test ≡ true).
      let r = (any-decides test 16).0 q in
      let t = and_parts (has s r.0) (f r.0 == f i) r.2 in
      absurd (both_ways (has s i) e (ap (has s) (sym (o.once r.0 i r.1 l (eqb-true (f r.0) (f i) t.1))) ∙ t.0)))
      (λ (q : any 16 test ≡ false). q ∙ sym e)
      (cases_Bool (any 16 test)))
      (cases_Bool (has s i))

  pub wire-down-good : (k : WireKey) → good_wire k ≡ true → good_wire (wire_down f k) ≡ true
  wire-down-good k e =
      let w = wire-facts k e in
      wire-good (wire_down f k) w.0 (o.within k.from w.1) (o.within k.«to» w.2) (λ q. w.3 (o.once k.from k.«to» w.1 w.2 q))

  pub trio-down-good : (k : TrioKey) → good_trio k ≡ true → good_trio (trio_down f k) ≡ true
  trio-down-good k e =
      let t = trio-facts k e in
      let la : k.a < 16 = omega (arith, t.1, t.2, t.3) in
      let lb : k.b < 16 = omega (arith, t.2, t.3) in
      let r = in_order (f k.a) (f k.b) (f k.c)
      (λ q. let z = o.once k.a k.b la lb q in omega (arith, z, t.1))
      (λ q. let z = o.once k.b k.c lb t.3 q in omega (arith, z, t.2))
      (λ q. let z = o.once k.a k.c la t.3 q in omega (arith, z, t.1, t.2)) in
      trio-good (trio_down f k) t.0 r.0 r.1
      (high_lt (f k.a) (f k.b) (f k.c) (o.within k.a la) (o.within k.b lb) (o.within k.c t.3)) (in_down f k k.speaker t.4)

  -- a good station stands on a good box
  pub good-down : (k : TrioKey) (broken s : ℕ) → good_trio k ≡ true → in_trio k s ≡ true → has broken s ≡ false → has (boxes f broken) (f s) ≡ false
  good-down k broken s e i h = has-boxes broken s (in_below k s e i) ∙ h
