-- What a vote gives, and what it gives where all of many good stations cast one word.
use Rattle.std.proofs.Common.{◌≡◌, ℕ, ◌<◌, ◌≤◌, Bool, true, false, ◌||◌, eqb, ◌≢◌, ◌⊎◌, sym, inl, inr, arith}
use Rattle.std.proofs.lemmas.Bool.{cases_Bool, cases_eq, eqb-true, eq-eqb, or_left, or_right, both_ways, or_cases}
use Rattle.sets.proofs.Tests.{every-decides}
use Rattle.agreement.specs.Meanings.{Rule}
use Rattle.agreement.specs.Rounds.{unanimous}

-- What a vote gives, where the stations of bad are broken, each station cast what held says, and the codes that pass `words` are words.
pub record Votes (n : ℕ) (words : ℕ → Bool) (bad : ℕ → Bool) (held : ℕ → ℕ) (v : ℕ → ℕ → ℕ → ℕ) : Type 0 where
  pub swap : (p q r : ℕ) → v p q r ≡ v p r q
  pub same : (p q r : ℕ) → p < n → q < n → r < n → p ≢ q → p ≢ r → q ≢ r → bad p ≡ false → bad q ≡ false → v p q r ≡ v q p r
  pub two : (p q r w : ℕ) → p < n → q < n → r < n → p ≢ q → p ≢ r → q ≢ r → bad p ≡ false → bad q ≡ false → words w ≡ true
      → held p ≡ w → held q ≡ w → v p q r ≡ w
  pub source : (p q r w : ℕ) → p < n → q < n → r < n → p ≢ q → p ≢ r → q ≢ r → bad p ≡ false → words w ≡ true → v p q r ≡ w
      → (held p ≡ w) ⊎ ((bad q ≡ false → held q ≡ w) × (bad r ≡ false → held r ≡ w))

pub third : (n p q : ℕ) → 3 ≤ n → (r : ℕ) × (r < n) × (r ≢ p) × (r ≢ q)
third n p q h = go (cases_eq p 0) (cases_eq q 0) (cases_eq p 1) (cases_eq q 1)
  where
    go : (p ≡ 0) ⊎ (p ≡ 0 → ⊥) → (q ≡ 0) ⊎ (q ≡ 0 → ⊥) → (p ≡ 1) ⊎ (p ≡ 1 → ⊥) → (q ≡ 1) ⊎ (q ≡ 1 → ⊥) → (r : ℕ) × (r < n) × (r ≢ p) × (r ≢ q)
    go (inr a) (inr b) c d = (0, omega arith, omega arith, omega arith)
    go (inr a) (inl b) (inr c) d = (1, omega arith, omega arith, omega arith)
    go (inr a) (inl b) (inl c) d = (2, omega arith, omega arith, omega arith)
    go (inl a) b c (inr d) = (1, omega arith, omega arith, omega arith)
    go (inl a) b c (inl d) = (2, omega arith, omega arith, omega arith)

pub unanimous-at : (n : ℕ) (v : ℕ → ℕ → ℕ → ℕ) (p w q r : ℕ) → unanimous n v p w q ≡ true → r < n → r ≢ p → r ≢ q → v p q r ≡ w
unfolding unanimous
unanimous-at n v p w q r e l x y =
    let t = (every-decides (λ r. (eqb r p || eqb r q) || eqb (v p q r) w) n).0 e r l in
    elim (or_cases (eqb r p || eqb r q) (eqb (v p q r) w) t) [
      | inl a ↦ elim (or_cases (eqb r p) (eqb r q) a) [ inl c ↦ absurd (x (eqb-true r p c)) | inr c ↦ absurd (y (eqb-true r q c)) ]
      | inr b ↦ eqb-true (v p q r) w b
    ]

pub unanimous_from : (n : ℕ) (v : ℕ → ℕ → ℕ → ℕ) (p w q : ℕ) → ((r : ℕ) → r < n → r ≢ p → r ≢ q → v p q r ≡ w) → unanimous n v p w q ≡ true
unfolding unanimous
unanimous_from n v p w q h =
    (every-decides (λ r. (eqb r p || eqb r q) || eqb (v p q r) w) n).1 (λ r l. go r l (cases_eq r p) (cases_eq r q))
  where
    go : (r : ℕ) → r < n → (r ≡ p) ⊎ (r ≡ p → ⊥) → (r ≡ q) ⊎ (r ≡ q → ⊥) → ((eqb r p || eqb r q) || eqb (v p q r) w) ≡ true
    go r l (inl e) d = or_left _ _ (or_left _ _ (eq-eqb r p e))
    go r l (inr c) (inl e) = or_left _ _ (or_right _ _ (eq-eqb r q e))
    go r l (inr c) (inr d) = or_right _ _ (eq-eqb (v p q r) w (h r l c d))

-- The stations outside b are good, all hold the word w, and b can fail.
module _ (R : Rule) (words : ℕ → Bool) (bad : ℕ → Bool) (held : ℕ → ℕ) (v : ℕ → ℕ → ℕ → ℕ) (votes : Votes R.n words bad held v)
    (b : ℕ → Bool) (more : (i : ℕ) → i < R.n → bad i ≡ true → b i ≡ true) (w : ℕ) (is_word : words w ≡ true) (agreed : (i : ℕ) → i < R.n → b i ≡ false → held i ≡ w) where
  pub good : (i : ℕ) → i < R.n → b i ≡ false → bad i ≡ false
  good i l e = elim (cases_Bool (bad i)) [ inl t ↦ absurd (both_ways (b i) e (more i l t)) | inr f ↦ f ]

  -- two of them have w of every trio
  pub all-w : (p s : ℕ) → p < R.n → s < R.n → p ≢ s → b p ≡ false → b s ≡ false → (r : ℕ) → r < R.n → r ≢ p → r ≢ s → v p s r ≡ w
  all-w p s lp ls d bp bs r lr x y =
      votes.two p s r w lp ls lr d (λ e. x (sym e)) (λ e. y (sym e)) (good p lp bp) (good s ls bs) is_word (agreed p lp bp) (agreed s ls bs)

  pub all-unanimous : (p s : ℕ) → p < R.n → s < R.n → p ≢ s → b p ≡ false → b s ≡ false → unanimous R.n v p w s ≡ true
  all-unanimous p s lp ls d bp bs = unanimous_from R.n v p w s (all-w p s lp ls d bp bs)
