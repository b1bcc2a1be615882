-- The votes on a sheet, and what is written to it on the way to all of them.
use Rattle.std.specs.Prelude.{◌≡◌, ℕ, ◌+◌, ◌*◌, ◌/◌, ◌%◌, ◌<◌, Bool, cond, ◌&&◌, List, length, drop, Ok, Err, Result, ◌==◌, nat_le, slice_index, slice_set}
use Rattle.refusals.specs.declared.Refusal.{Refusal}
use Rattle.refusals.specs.declared.Refusal.TheVariants.{SheetTooShort}
use Rattle.agreement.specs.Rounds.{lowest, middle, highest}
use Rattle.agreement.specs.Sheets.{three_of}

-- v(p,q,r) on the sheet
abbrev pub votes_on : List ℕ → ℕ → ℕ → ℕ → ℕ
votes_on sheet p q r = slice_index sheet (256 * p + 16 * q + r)

-- an answer where the sheet has room for the votes, else the refusal
abbrev pub fitting : {A : Type 0} → List ℕ → A → Result A Refusal
fitting sheet x = cond (nat_le 4096 (length sheet)) (Ok x) (Err SheetTooShort)

-- the sheet with v as what p has of its trio with q and r
abbrev pub put_vote : List ℕ → ℕ → ℕ → ℕ → ℕ → List ℕ
put_vote sheet p q r v = slice_set (slice_set sheet (256 * p + 16 * q + r) v) (256 * p + 16 * r + q) v

-- the sheet with what each of a, b and c has of their trio
abbrev pub put_trio : List ℕ → ℕ → ℕ → ℕ → (ℕ → ℕ) → List ℕ
put_trio sheet a b c v = put_vote (put_vote (put_vote sheet a b c (v a)) b a c (v b)) c a b (v c)

-- the entry k is one of three different stations of n
unfoldable pub three : ℕ → ℕ → Bool
three n k = three_of n (k / 256) (k / 16 % 16) (k % 16)

-- the lowest of the three stations of an entry
unfoldable pub low : ℕ → ℕ
low k = lowest (k / 256) (k / 16 % 16) (k % 16)

-- the one between
unfoldable pub mid : ℕ → ℕ
mid k = middle (k / 256) (k / 16 % 16) (k % 16)

-- the highest of them
unfoldable pub high : ℕ → ℕ
high k = highest (k / 256) (k / 16 % 16) (k % 16)

-- the entries of the trios with the lowest station a
abbrev pub with_lowest : ℕ → ℕ → ℕ → Bool
with_lowest n a k = three n k && low k == a

-- the entries of the trios whose two lower stations are a and b
abbrev pub with_pair : ℕ → ℕ → ℕ → ℕ → Bool
with_pair n a b k = with_lowest n a k && mid k == b

-- the entries of the trio a, b, c
abbrev pub with_trio : ℕ → ℕ → ℕ → ℕ → ℕ → Bool
with_trio n a b c k = with_pair n a b k && high k == c

-- of the first 4,096 entries of a sheet those that pass a test were overwritten by f, and nothing else
pub record Wrote (test : ℕ → Bool) (f : ℕ → ℕ) (sheet old : List ℕ) : Type 0 where
  pub each : (k : ℕ) → k < 4096 → slice_index sheet k ≡ cond (test k) (f k) (slice_index old k)
  pub rest : drop 4096 sheet ≡ drop 4096 old
  pub long : length sheet ≡ length old
