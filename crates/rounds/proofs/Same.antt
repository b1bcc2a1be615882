-- What stations make of votes depends only on what three different stations have of their trios.
use Rattle.std.proofs.Common.{◌≡◌, ℕ, ◌+◌, ◌*◌, ◌/◌, ◌%◌, ◌<◌, ◌≤◌, Bool, true, not, ◌&&◌, ◌||◌, eqb, ◌≢◌, ◌⊎◌, List, take, refl, ap, ◌∙◌, inl, inr, arith}
use Rattle.std.proofs.lemmas.Bool.{cases_eq, eq-eqb, ne_eqb, cond-true}
use Rattle.std.proofs.lemmas.List.{get_or-take}
use Rattle.rigs.specs.Lines.{void}
use Rattle.agreement.specs.Meanings.{Rule}
use Rattle.agreement.specs.Rounds.{Setting, fails, vote, unanimous, weak_test, weak_held, in_y, graded_held, graded_lit}
use Rattle.agreement.specs.Sheets.{three_of, vote_entry, vote_sheet}
use Rattle.agreement.proofs.Searches.{get_or-filled}
use Rattle.rounds.specs.Sheets.{votes_on}
use Rattle.rounds.specs.Tallies.{Votes, agrees, backs, sure}
use Rattle.rounds.proofs.Scans.{mask_same, every-same, any_same, smallest-same}
use Rattle.rounds.proofs.Entries.{three_from}

abbrev pub SameVotes : ℕ → Votes → Votes → Type 0
SameVotes n v v' = (p q r : ℕ) → p < n → q < n → r < n → p ≢ q → p ≢ r → q ≢ r → v p q r ≡ v' p q r

module _ (R : Rule) (v v' : Votes) (same : SameVotes R.n v v') (p : ℕ) (lp : p < R.n) where
  unanimous-same : (w q : ℕ) → q < R.n → p ≢ q → unanimous R.n v p w q ≡ unanimous R.n v' p w q
  unfolding unanimous
  unanimous-same w q lq d = every-same R.n (agrees v p w q) (agrees v' p w q) (λ r l. at r l (cases_eq r p) (cases_eq r q))
    where
      at : (r : ℕ) → r < R.n → (r ≡ p) ⊎ (r ≡ p → ⊥) → (r ≡ q) ⊎ (r ≡ q → ⊥) → agrees v p w q r ≡ agrees v' p w q r
      at r l (inl e) y = rw (eq-eqb r p e) refl
      at r l (inr x) (inl e) = rw (ne_eqb r p x, eq-eqb r q e) refl
      at r l (inr x) (inr y) = ap (λ z. (eqb r p || eqb r q) || eqb z w) (same p q r lp lq l d (omega arith) (omega arith))

  weak_test-same : (w : ℕ) → weak_test R v p w ≡ weak_test R v' p w
  unfolding weak_test fails
  weak_test-same w = ap R.can_fail (mask_same R.n (out v) (out v') (λ q l. at q l (cases_eq q p)))
    where
      out : Votes → ℕ → Bool
      out u q = not (eqb q p) && not (unanimous R.n u p w q)

      at : (q : ℕ) → q < R.n → (q ≡ p) ⊎ (q ≡ p → ⊥) → out v q ≡ out v' q
      at q l (inl e) = rw (eq-eqb q p e) refl
      at q l (inr x) = ap (λ b. not (eqb q p) && not b) (unanimous-same w q l (omega arith))

  pub weak_held-same : (words : ℕ → Bool) → weak_held R words v p ≡ weak_held R words v' p
  unfolding weak_held
  weak_held-same words = smallest-same 4096 _ _ void (λ w. ap (λ b. words w && b) (weak_test-same w))

  in_y-same : (w q : ℕ) → q < R.n → in_y R v p w q ≡ in_y R v' p w q
  unfolding in_y fails
  in_y-same w q lq = go (cases_eq q p)
    where
      at : p ≢ q → (r : ℕ) → r < R.n → (r ≡ q) ⊎ (r ≡ q → ⊥) → (r ≡ p) ⊎ (r ≡ p → ⊥) → backs v p w q r ≡ backs v' p w q r
      at d r l (inl e) y = rw (eq-eqb r q e) refl
      at d r l (inr x) (inl e) = rw (ne_eqb r q x, eq-eqb r p e) refl
      at d r l (inr x) (inr y) = ap (λ z. eqb r q || (not (eqb r p) && eqb z w)) (same p q r lp lq l d (omega arith) (omega arith))

      go : (q ≡ p) ⊎ (q ≡ p → ⊥) → in_y R v p w q ≡ in_y R v' p w q
      go (inl e) = rw (eq-eqb q p e) refl
      go (inr x) =
          let d : p ≢ q = omega arith in
          ap (λ S. not (eqb q p) && not (R.can_fail S)) (mask_same R.n (backs v p w q) (backs v' p w q) (λ r l. at d r l (cases_eq r q) (cases_eq r p)))

  pub graded_held-same : (words : ℕ → Bool) (rest : ℕ) → graded_held R words rest v p ≡ graded_held R words rest v' p
  unfolding graded_held
  graded_held-same words rest =
      smallest-same 4096 _ _ rest (λ w. ap (λ b. words w && b) (any_same R.n (in_y R v p w) (in_y R v' p w) (λ q l. in_y-same w q l)))

  pub graded_lit-same : (w : ℕ) → graded_lit R v p w ≡ graded_lit R v' p w
  unfolding graded_lit fails
  graded_lit-same w = ap (λ S. not (R.can_fail S)) (mask_same R.n (sure R.n v p w) (sure R.n v' p w) (λ q l. at q l (cases_eq q p)))
    where
      at : (q : ℕ) → q < R.n → (q ≡ p) ⊎ (q ≡ p → ⊥) → sure R.n v p w q ≡ sure R.n v' p w q
      at q l (inl e) = rw (eq-eqb q p e) refl
      at q l (inr x) = ap (λ b. eqb q p || b) (unanimous-same w q l (omega arith))

entry_is : (n : ℕ) (e : Setting) (k p q r : ℕ) → k / 256 ≡ p → k / 16 % 16 ≡ q → k % 16 ≡ r → three_of n p q r ≡ true → vote_entry n e k ≡ vote e p q r
unfolding vote_entry
entry_is n e k p q r a b c t = rw (a, b, c) (cond-true _ _ _ t)

-- the votes on the sheet of a vote are its votes
pub sheet-votes : (n : ℕ) (e : Setting) (sheet : List ℕ) → n ≤ 16 → SameVotes n (votes_on (vote_sheet n e sheet)) (vote e)
unfolding vote_sheet
sheet-votes n e sheet few p q r lp lq lr x y z =
    get_or-filled (vote_entry n e) 4096 sheet (256 * p + 16 * q + r) 0 (omega arith)
    ∙ entry_is n e (256 * p + 16 * q + r) p q r (omega arith) (omega arith) (omega arith) (three_from n p q r (record { lp = lp; lq = lq; lr = lr; pq = x; pr = y; qr = z }))

-- so are those on the first 4,096 entries of a sheet
pub first_votes : (n : ℕ) (sheet : List ℕ) → n ≤ 16 → SameVotes n (votes_on (take 4096 sheet)) (votes_on sheet)
first_votes n sheet few p q r lp lq lr x y z = get_or-take 4096 sheet (256 * p + 16 * q + r) 0 (omega arith)
