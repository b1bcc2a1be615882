-- The tests of a station on the votes of a sheet, one other station at a time, and the words that it tries.
use Rattle.std.specs.Prelude.{ℕ, Bool, false, cond, not, ◌&&◌, ◌||◌, List, Some, None, Option, ◌==◌, slice_index_or}
use Rattle.std.specs.Bool.{then_some}
use Rattle.sets.specs.Sets.{mask_of}
use Rattle.agreement.specs.Meanings.{Rule}
use Rattle.agreement.specs.Rounds.{unanimous, weak_test, graded_held, graded_lit}
use Rattle.agreement.specs.Sheets.{sixteen}
use Rattle.rounds.specs.declared.outcome.Outcome.{Outcome}

-- v(p,q,r)
abbrev pub Votes : Type 0
Votes = ℕ → ℕ → ℕ → ℕ

-- r is p or q, or v(p,q,r) is w
abbrev pub agrees : Votes → ℕ → ℕ → ℕ → ℕ → Bool
agrees v p w q r = (r == p || r == q) || v p q r == w

-- r is q, or r is not p and v(p,q,r) is w
abbrev pub backs : Votes → ℕ → ℕ → ℕ → ℕ → Bool
backs v p w q r = r == q || (not (r == p) && v p q r == w)

-- q is p, or v(p,q,r) is w for every r
abbrev pub sure : ℕ → Votes → ℕ → ℕ → ℕ → Bool
sure n v p w q = q == p || unanimous n v p w q

-- a station other than p and q
abbrev pub third_of : ℕ → ℕ → ℕ
third_of p q = cond (not (p == 0) && not (q == 0)) 0 (cond (not (p == 1) && not (q == 1)) 1 2)

-- the code that v(p,q,r) is for every other r, where there is one and q is not p
unfoldable pub row_code : ℕ → Votes → ℕ → ℕ → Option ℕ
row_code n v p q = then_some (not (q == p) && unanimous n v p (v p q (third_of p q)) q) (v p q (third_of p q))

-- the code is w
abbrev pub is_code : Option ℕ → ℕ → Bool
is_code None w = false
is_code (Some c) w = c == w

-- q is neither p nor a station whose code in the row is w
abbrev pub left_out : List (Option ℕ) → ℕ → ℕ → ℕ → Bool
left_out row p w q = not (q == p) && not (is_code (slice_index_or row q None) w)

-- w is a word and passes the weak test
abbrev pub weak_tried : Rule → Votes → ℕ → (ℕ → Bool) → ℕ → Bool
weak_tried R v p words w = words w && weak_test R v p w

-- what all stations hold after a graded round with these votes, and which lamps are lit
abbrev pub graded_by : Rule → (ℕ → Bool) → ℕ → Votes → Outcome
graded_by R words rest v =
    record {
      held = sixteen R.n (graded_held R words rest v);
      lamps = mask_of R.n (λ p. graded_lit R v p (graded_held R words rest v p));
    }
