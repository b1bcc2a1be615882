-- What a round leaves in lists: the sixteen held codes, the lamps, and the sheet.
use Rattle.std.specs.Prelude.{ℕ, ◌/◌, ◌%◌, Bool, cond, not, ◌&&◌, List, ◌++◌, map, drop, replicate, ◌==◌, nat_lt}
use Rattle.std.specs.List.{range_with_len}
use Rattle.sets.specs.Sets.{mask_of}
use Rattle.rigs.specs.Lines.{void}
use Rattle.agreement.specs.declared.stage.RoundKind.{RoundKind}
use Rattle.agreement.specs.declared.stage.RoundKind.TheVariants.{Caller, Weak, Graded, King}
use Rattle.agreement.specs.Meanings.{Rule}
use Rattle.agreement.specs.Rounds.{Setting, vote, graded_held, graded_lit}

-- a list whose first m entries are f's; what stands behind them stays
unfoldable pub filled : (ℕ → ℕ) → ℕ → List ℕ → List ℕ
filled f m old = map f (range_with_len 0 m) ++ drop m old

-- sixteen entries, of which the first n are f's and the others void
unfoldable pub sixteen : ℕ → (ℕ → ℕ) → List ℕ
sixteen n f = filled f n (replicate 16 void)

-- three different stations of n
abbrev pub three_of : ℕ → ℕ → ℕ → ℕ → Bool
three_of n p q r = ((((nat_lt p n && nat_lt q n) && nat_lt r n) && not (p == q)) && not (p == r)) && not (q == r)

-- a vote leaves v(p,q,r) at entry 256p + 16q + r, and void in the rest of the first 4,096 entries
unfoldable pub vote_entry : ℕ → Setting → ℕ → ℕ
vote_entry n e k = cond (three_of n (k / 256) (k / 16 % 16) (k % 16)) (vote e (k / 256) (k / 16 % 16) (k % 16)) void

-- later entries stay
unfoldable pub vote_sheet : ℕ → Setting → List ℕ → List ℕ
vote_sheet n e sheet = filled (vote_entry n e) 4096 sheet

-- weak and graded rounds have a vote; other rounds leave the sheet as it is
unfoldable pub round_sheet : RoundKind → ℕ → Setting → List ℕ → List ℕ
round_sheet Caller n e sheet = sheet
round_sheet Weak n e sheet = vote_sheet n e sheet
round_sheet Graded n e sheet = vote_sheet n e sheet
round_sheet (King j) n e sheet = sheet

-- the set of lit lamps after a round
unfoldable pub lamps_after : RoundKind → Rule → Setting → ℕ → ℕ → ℕ
lamps_after Caller R e rest lit = lit
lamps_after Weak R e rest lit = lit
lamps_after Graded R e rest lit = mask_of R.n (λ p. graded_lit R (vote e) p (graded_held R e.words rest (vote e) p))
lamps_after (King j) R e rest lit = lit
