-- Which words can pass a station's test: only such as are among its votes.
use Rattle.std.proofs.Common.{◌≡◌, ℕ, ◌<◌, Bool, true, false, not, ◌&&◌, eqb, ◌≢◌, ◌⊎◌, List, get_or, Some, None, Option, unwrap_or, sym, refl, ap, ◌∙◌, inl, inr, ⊎_elim, arith}
use Rattle.std.proofs.lemmas.Bool.{eq-eqb, ne_eqb, cases_Bool, cases_lt, both_ways, and_parts, and_from, not_from_false}
use Rattle.std.proofs.lemmas.Bool.Decides.{nat_tests}
use Rattle.sets.specs.Sets.{mask_of, smallest}
use Rattle.agreement.specs.Meanings.{Rule, LawfulRule}
use Rattle.agreement.specs.Rounds.{fails, unanimous, weak_test}
use Rattle.agreement.proofs.Searches.{find}
use Rattle.agreement.proofs.Failing.{all_but}
use Rattle.agreement.proofs.Votes.{unanimous-at}
use Rattle.rounds.specs.Searches.{lowest}
use Rattle.rounds.specs.Tallies.{Votes, third_of, row_code, is_code, left_out, weak_tried}
use Rattle.rounds.proofs.Scans.{mask_same}
use Rattle.rounds.proofs.Lowest.{lowest-holds, lowest-tried, smallest-word}

absorb : (x y : Bool) → (not x && not (not x && y)) ≡ (not x && not y)
absorb true y = refl
absorb false y = refl

both-not : (x y : Bool) → x ≡ false → (not x && y) ≡ false → not y ≡ true
both-not true y h k = absurd (both_ways true h refl)
both-not false true h k = absurd (both_ways true k refl)
both-not false false h k = refl

pub third-is : (p q : ℕ) → (third_of p q < 3) × (third_of p q ≢ p) × (third_of p q ≢ q)
third-is p q = (grind (arith, nat_tests), (λ e. grind (arith, nat_tests)), (λ e. grind (arith, nat_tests)))

module _ (R : Rule) (L : LawfulRule R) (v : Votes) (p : ℕ) where
  -- q is in X(w): another station whose v(p,q,r) is w for every other r
  abbrev in_x : ℕ → ℕ → Bool
  in_x w q = not (eqb q p) && unanimous R.n v p w q

  pub third-agrees : (q w : ℕ) → unanimous R.n v p w q ≡ true → v p q (third_of p q) ≡ w
  third-agrees q w h = let t = third-is p q in unanimous-at R.n v p w q (third_of p q) h (omega (arith, t.0, L.sized.0)) t.1 t.2

  row-some : (q w : ℕ) → in_x w q ≡ true → row_code R.n v p q ≡ Some w
  unfolding row_code
  row-some q w h =
      let z : v p q (third_of p q) ≡ w = third-agrees q w (and_parts (not (eqb q p)) (unanimous R.n v p w q) h).1 in
      rw (z, h) refl

  row_is : (q w : ℕ) → is_code (row_code R.n v p q) w ≡ in_x w q
  unfolding row_code
  row_is q w =
      let c = v p q (third_of p q) in
      ⊎_elim
      (λ (h : in_x w q ≡ true). ap (λ x. is_code x w) (row-some q w h) ∙ eq-eqb w w refl ∙ sym h)
      (λ (h : in_x w q ≡ false).
      ⊎_elim
      (λ (k : in_x c q ≡ true). rw k (ne_eqb c w (λ z. both_ways (in_x w q) h (ap (λ x. in_x x q) (sym z) ∙ k))) ∙ sym h)
      (λ (k : in_x c q ≡ false). rw k refl ∙ sym h)
      (cases_Bool (in_x c q)))
      (cases_Bool (in_x w q))

  -- all but p and those in X(w), from the codes of p's rows
  pub out-same : (row : List (Option ℕ)) → ((q : ℕ) → q < R.n → get_or row q None ≡ row_code R.n v p q)
      → (w : ℕ) → R.can_fail (mask_of R.n (left_out row p w)) ≡ weak_test R v p w
  unfolding weak_test fails
  out-same row is w =
      ap R.can_fail
      (mask_same R.n (left_out row p w) (λ q. not (eqb q p) && not (unanimous R.n v p w q))
      (λ q l. ap (λ b. not (eqb q p) && not b) (ap (λ x. is_code x w) (is q l) ∙ row_is q w) ∙ absorb (eqb q p) (unanimous R.n v p w q)))

  -- a word that passes the weak test has a station in X(w)
  pub weak_some : (w : ℕ) → weak_test R v p w ≡ true → (q : ℕ) × (q < R.n) × (in_x w q ≡ true)
  unfolding weak_test
  weak_some w h = go (find R.n (in_x w))
    where
      out : ℕ → Bool
      out q = not (eqb q p) && not (unanimous R.n v p w q)

      is_out : ((q : ℕ) → q < R.n → in_x w q ≡ false) → (i : ℕ) → i < R.n → i ≢ p → out i ≡ true
      is_out none i l d = let e = ne_eqb i p d in and_from (not (eqb i p)) (not (unanimous R.n v p w i)) (not_from_false _ e) (both-not (eqb i p) (unanimous R.n v p w i) e (none i l))

      cannot : ((q : ℕ) → q < R.n → in_x w q ≡ false) → fails R out ≡ false
      cannot none =
          ⊎_elim
          (λ lp. all_but R L out p lp (is_out none))
          (λ ge. all_but R L out 0 (omega (arith, L.sized.0)) (λ i l _. is_out none i l (λ e. omega arith)))
          (cases_lt p R.n)

      go : ((q : ℕ) × (q < R.n) × (in_x w q ≡ true)) ⊎ ((q : ℕ) → q < R.n → in_x w q ≡ false) → (q : ℕ) × (q < R.n) × (in_x w q ≡ true)
      go (inl t) = t
      go (inr none) = absurd (both_ways (fails R out) (cannot none) h)

  -- the lowest code of p's rows that passes is the smallest word that passes
  pub weak_found : (words : ℕ → Bool) → ((x : ℕ) → words x ≡ true → x < 4096) → (row : List (Option ℕ)) → ((q : ℕ) → q < R.n → get_or row q None ≡ row_code R.n v p q)
      → (d : ℕ) → unwrap_or (lowest (weak_tried R v p words) (λ q. get_or row q None) None R.n) d ≡ smallest 4096 (weak_tried R v p words) d
  weak_found words small row is d =
      smallest-word t (λ w h. small w (and_parts (words w) (weak_test R v p w) h).0) (lowest t f None R.n)
      (λ w e. ⊎_elim (λ x. absurd (cc)) (λ x. x) (lowest-holds t f None R.n w e))
      (λ w e. ⊎_elim (λ x. let s = weak_some w (and_parts (words w) (weak_test R v p w) x).1 in absurd (both_ways (t w) (lowest-tried t f None R.n w s.0 s.1 (is s.0 s.1 ∙ row-some s.0 w s.2) e) x)) (λ x. x) (cases_Bool (t w)))
      d
    where
      t : ℕ → Bool
      t = weak_tried R v p words

      f : ℕ → Option ℕ
      f q = get_or row q None
