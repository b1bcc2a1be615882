-- Sheets that are overwritten part by part, each part by a test of its entries.
use Rattle.std.proofs.Common.{◌≡◌, ℕ, ◌+◌, ◌<◌, ◌≤◌, Bool, true, false, cond, ◌&&◌, ◌||◌, eqb, ltb, List, get_or, sym, refl, ap, ◌∙◌, arith}
use Rattle.std.proofs.lemmas.Bool.{le-ltb, lt-ltb}
use Rattle.std.proofs.lemmas.Bool.Decides.{nat_tests}
use Rattle.rounds.specs.Sheets.{Wrote}

-- nothing was written
pub wrote_none : (t : ℕ → Bool) (f : ℕ → ℕ) (s : List ℕ) → ((k : ℕ) → t k ≡ false) → Wrote t f s s
wrote_none t f s h = record { each = λ k _. sym (ap (λ b. cond b (f k) (get_or s k 0)) (h k)); rest = refl; long = refl }

-- the same entries, by another test
pub wrote_like : (t u : ℕ → Bool) (f : ℕ → ℕ) (s old : List ℕ) → ((k : ℕ) → t k ≡ u k) → Wrote t f s old → Wrote u f s old
wrote_like t u f s old h w = record { each = λ k l. w.each k l ∙ ap (λ b. cond b (f k) (get_or old k 0)) (h k); rest = w.rest; long = w.long }

twice : (x y : Bool) (v old : ℕ) → cond y v (cond x v old) ≡ cond (x || y) v old
twice true true v old = refl
twice true false v old = refl
twice false true v old = refl
twice false false v old = refl

-- one part after another
pub wrote_more : (t u : ℕ → Bool) (f : ℕ → ℕ) (s' s old : List ℕ) → Wrote t f s old → Wrote u f s' s → Wrote (λ k. t k || u k) f s' old
wrote_more t u f s' s old w w' =
    record {
      each = λ k l. w'.each k l ∙ ap (λ x. cond (u k) (f k) x) (w.each k l) ∙ twice (t k) (u k) (f k) (get_or old k 0);
      rest = w'.rest ∙ w.rest;
      long = w'.long ∙ w.long;
    }

-- A loop over a number m writes, of the entries that pass a test, those whose number is m.
module _ (t : ℕ → Bool) (num : ℕ → ℕ) where
  -- those that were written before the turn of m
  abbrev pub before : ℕ → ℕ → Bool
  before m k = t k && ltb (num k) m

  abbrev pub there : ℕ → ℕ → Bool
  there m k = t k && eqb (num k) m

  one_more : (b : Bool) (x m : ℕ) → ((b && ltb x m) || (b && eqb x m)) ≡ (b && ltb x (m + 1))
  one_more true x m = grind (arith, nat_tests)
  one_more false x m = refl

  pub turn : (f : ℕ → ℕ) (s' s old : List ℕ) (m : ℕ) → Wrote (before m) f s old → Wrote (there m) f s' s → Wrote (before (m + 1)) f s' old
  turn f s' s old m w w' =
      wrote_like (λ k. before m k || there m k) (before (m + 1)) f s' old (λ k. one_more (t k) (num k) m) (wrote_more (before m) (there m) f s' s old w w')

  none_yet : (b : Bool) (x m : ℕ) → (b ≡ true → m ≤ x) → (b && ltb x m) ≡ false
  none_yet true x m h = le-ltb x m (h refl)
  none_yet false x m h = refl

  -- no entry has a number below the first
  pub first : (f : ℕ → ℕ) (s : List ℕ) (m : ℕ) → ((k : ℕ) → t k ≡ true → m ≤ num k) → Wrote (before m) f s s
  first f s m h = wrote_none (before m) f s (λ k. none_yet (t k) (num k) m (h k))

  all_done : (b : Bool) (x m : ℕ) → (b ≡ true → x < m) → (b && ltb x m) ≡ b
  all_done true x m h = lt-ltb x m (h refl)
  all_done false x m h = refl

  -- every entry has a number below the last
  pub last : (f : ℕ → ℕ) (s old : List ℕ) (m : ℕ) → ((k : ℕ) → t k ≡ true → num k < m) → Wrote (before m) f s old → Wrote t f s old
  last f s old m h w = wrote_like (before m) t f s old (λ k. all_done (t k) (num k) m (h k)) w
