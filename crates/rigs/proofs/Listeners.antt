-- The two listeners of a trio key, and the wire between them.
use Rattle.std.proofs.Common.{◌≡◌, ℕ, ◌<◌, true, ◌⊎◌, ⊎_elim, arith}
use Rattle.std.proofs.lemmas.Bool.Decides.{nat_tests}
use Rattle.rigs.specs.declared.keys.TrioKey.{TrioKey}
use Rattle.rigs.specs.Keys.{good_trio, good_tell, in_trio, other_than}
use Rattle.rigs.proofs.Trios.{trio-facts, in_cases}

abbrev OneOf : ℕ → ℕ → ℕ → ℕ → Type 0
OneOf a b c s = (s ≡ a) ⊎ ((s ≡ b) ⊎ (s ≡ c))

by_one : {G : Type 0} (a b c s : ℕ) → OneOf a b c s → (s ≡ a → G) → (s ≡ b → G) → (s ≡ c → G) → G
by_one a b c s h x y z = ⊎_elim x (⊎_elim y z) h

-- of three stations one alone is neither p nor s
only : (a b c p s o t : ℕ) → a < b → b < c → OneOf a b c s → OneOf a b c t → OneOf a b c p → OneOf a b c o
    → (s ≡ p → ⊥) → (o ≡ p → ⊥) → (o ≡ s → ⊥) → (t ≡ p → ⊥) → (t ≡ s → ⊥) → t ≡ o
only a b c p s o t ab bc cs ct cp co h1 h2 h3 h4 h5 =
    by_one a b c s cs
    (λ e. by_one a b c p cp (λ f. omega arith) (λ f. omega arith) (λ f. omega arith))
    (λ e. by_one a b c p cp (λ f. omega arith) (λ f. omega arith) (λ f. omega arith))
    (λ e. by_one a b c p cp (λ f. omega arith) (λ f. omega arith) (λ f. omega arith))

-- what a good key of a telling has
pub tell-facts : (k : TrioKey) (t : ℕ) → good_tell k t ≡ true → (good_trio k ≡ true) × (in_trio k t ≡ true) × (t ≡ k.speaker → ⊥)
tell-facts k t e = (grind (arith, nat_tests), grind (arith, nat_tests), grind (arith, nat_tests))

-- s is a listener
module _ (k : TrioKey) (s : ℕ) (good : good_trio k ≡ true) (here : in_trio k s ≡ true) (hears : s ≡ k.speaker → ⊥) where
  pub may_tell : good_tell k s ≡ true
  may_tell = grind (arith, nat_tests)

  pub other_in : in_trio k (other_than k s) ≡ true
  other_in = grind (arith, nat_tests)

  pub other_hears : other_than k s ≡ k.speaker → ⊥
  other_hears = grind (arith, nat_tests)

  pub other-back : other_than k (other_than k s) ≡ s
  other-back = grind (arith, nat_tests)

  pub other_differs : other_than k s ≡ s → ⊥
  other_differs = grind (arith, nat_tests)

  -- there is no third listener
  pub other-only : (t : ℕ) → in_trio k t ≡ true → (t ≡ k.speaker → ⊥) → (t ≡ s → ⊥) → t ≡ other_than k s
  other-only t h n d =
      let f = trio-facts k good in
      only k.a k.b k.c k.speaker s (other_than k s) t f.1 f.2 (in_cases k s here) (in_cases k t h) (in_cases k k.speaker f.4)
      (in_cases k (other_than k s) other_in) hears other_hears other_differs n d
