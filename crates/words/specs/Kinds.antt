-- Word kinds: a table of words and codes. `code` gives each word its code, `word` gives each number the word that it leads to, if any.
use Rattle.std.specs.Prelude.{◌≡◌, ℕ, ◌<◌, ◌≤◌, Bool, true, is_some, Some, Option, nat_lt}

-- whether x is a word's code: every question whether a code is a word is this one
abbrev pub is_word : {W : Type 0} → (ℕ → Option W) → ℕ → Bool
is_word word x = is_some (word x)

-- the code of a word leads back to it
abbrev pub Back : {W : Type 0} → (W → ℕ) → (ℕ → Option W) → Type 0
Back {W} code word = (w : W) → word (code w) ≡ Some w

-- a number that leads to a word is that word's code
abbrev pub Only : {W : Type 0} → (W → ℕ) → (ℕ → Option W) → Type 0
Only {W} code word = (x : ℕ) (w : W) → word x ≡ Some w → code w ≡ x

-- the words' codes are all below 4,096
abbrev pub Small : {W : Type 0} → (ℕ → Option W) → Type 0
Small word = (x : ℕ) → is_word word x ≡ true → x < 4096

-- there is a word
abbrev pub NotEmpty : {W : Type 0} → (ℕ → Option W) → Type 0
NotEmpty word = (x : ℕ) × (is_word word x ≡ true)

-- a kind has 1 to 4,096 words
abbrev pub Sized : ℕ → Type 0
Sized size = (1 ≤ size) × (size ≤ 4096)

-- the words' codes are the numbers from 0 to size - 1
abbrev pub Full : {W : Type 0} → ℕ → (ℕ → Option W) → Type 0
Full size word = (x : ℕ) → is_word word x ≡ nat_lt x size
