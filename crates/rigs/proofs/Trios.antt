-- Good keys and the three stations of one: what good_wire, good_trio, in_trio and heard_at say of each other.
use Rattle.std.proofs.Common.{◌≡◌, ℕ, ◌<◌, true, ◌||◌, eqb, ◌⊎◌, inl, inr, ⊎_elim, arith}
use Rattle.std.proofs.lemmas.Bool.Decides.{nat_tests}
use Rattle.std.proofs.lemmas.Bool.{or_cases, eqb-true}
use Rattle.rigs.specs.declared.keys.WireKey.{WireKey}
use Rattle.rigs.specs.declared.keys.TrioKey.{TrioKey}
use Rattle.rigs.specs.Keys.{good_round, good_wire, good_trio, in_trio}
use Rattle.rigs.specs.Lines.{Trio, heard_at, each}

-- what a good wire key has
pub wire-facts : (k : WireKey) → good_wire k ≡ true → (good_round k.round ≡ true) × (k.from < 16) × (k.«to» < 16) × (k.from ≡ k.«to» → ⊥)
wire-facts k e = (grind (arith, nat_tests), grind (arith, nat_tests), grind (arith, nat_tests), grind (arith, nat_tests))

pub wire-good : (k : WireKey) → good_round k.round ≡ true → k.from < 16 → k.«to» < 16 → (k.from ≡ k.«to» → ⊥) → good_wire k ≡ true
wire-good k r p q n = grind (arith, nat_tests)

-- what a good trio key has
pub trio-facts : (k : TrioKey) → good_trio k ≡ true → (good_round k.round ≡ true) × (k.a < k.b) × (k.b < k.c) × (k.c < 16) × (in_trio k k.speaker ≡ true)
trio-facts k e = (grind (arith, nat_tests), grind (arith, nat_tests), grind (arith, nat_tests), grind (arith, nat_tests), grind (arith, nat_tests))

pub trio-good : (k : TrioKey) → good_round k.round ≡ true → k.a < k.b → k.b < k.c → k.c < 16 → in_trio k k.speaker ≡ true → good_trio k ≡ true
trio-good k r p q l i = grind (arith, nat_tests)

-- a station of the three is a, b or c
pub in_cases : (k : TrioKey) (s : ℕ) → in_trio k s ≡ true → (s ≡ k.a) ⊎ ((s ≡ k.b) ⊎ (s ≡ k.c))
in_cases k s h =
    ⊎_elim
    (λ r. ⊎_elim (λ e. inl (eqb-true s k.a e)) (λ e. inr (inl (eqb-true s k.b e))) (or_cases (eqb s k.a) (eqb s k.b) r))
    (λ e. inr (inr (eqb-true s k.c e)))
    (or_cases (eqb s k.a || eqb s k.b) (eqb s k.c) h)

pub in_below : (k : TrioKey) (s : ℕ) → good_trio k ≡ true → in_trio k s ≡ true → s < 16
in_below k s g h = let f = trio-facts k g in let c = in_cases k s h in omega arith

-- a station that cannot be none of a, b and c is one of the three
pub not_none : (k : TrioKey) (s : ℕ) → ((s ≡ k.a → ⊥) → (s ≡ k.b → ⊥) → (s ≡ k.c → ⊥) → ⊥) → in_trio k s ≡ true
not_none k s h = grind (arith, nat_tests)

-- a, b and c are
pub in_a : (k : TrioKey) → in_trio k k.a ≡ true
in_a k = grind (arith, nat_tests)

pub in_b : (k : TrioKey) → in_trio k k.b ≡ true
in_b k = grind (arith, nat_tests)

pub in_c : (k : TrioKey) → in_trio k k.c ≡ true
in_c k = grind (arith, nat_tests)

-- in an answer made station by station each station has its own
pub at_each : (k : TrioKey) (f : ℕ → ℕ) (s : ℕ) → in_trio k s ≡ true → heard_at k (each k f) s ≡ f s
at_each k f s h = grind (arith, nat_tests)

-- where all three hear the same, each station has it
pub at_all : (k : TrioKey) (x s : ℕ) → heard_at k (x, x, x) s ≡ x
at_all k x s = grind (arith, nat_tests)

-- a, b and c have the first, the second and the third of an answer
pub at_a : (k : TrioKey) (h : Trio) → heard_at k h k.a ≡ h.0
at_a k h = grind (arith, nat_tests)

pub at_b : (k : TrioKey) (h : Trio) → good_trio k ≡ true → heard_at k h k.b ≡ h.1
at_b k h e = let f = trio-facts k e in grind (arith, nat_tests)

pub at_c : (k : TrioKey) (h : Trio) → good_trio k ≡ true → heard_at k h k.c ≡ h.2
at_c k h e = let f = trio-facts k e in grind (arith, nat_tests)
