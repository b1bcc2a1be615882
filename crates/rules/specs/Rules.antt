-- Rules: which sets of stations can fail, that is, may all be broken together.
-- A rule is its number of stations n and its answers: fails s says whether the set s can fail.
use Rattle.std.specs.Prelude.{◌≡◌, ℕ, ◌^◌, ◌<◌, ◌≤◌, Bool, true}
use Rattle.sets.specs.Sets.{Part, Whole}

-- a rule has 3 to 16 stations
abbrev pub Sized : ℕ → Type 0
Sized n = (3 ≤ n) × (n ≤ 16)

-- a set that can fail is one of the n stations: with a station from n on it cannot fail
abbrev pub Own : ℕ → (ℕ → Bool) → Type 0
Own n fails = (a : ℕ) → fails a ≡ true → a < 2 ^ n

-- a part of a set that can fail can fail
abbrev pub Parts : (ℕ → Bool) → Type 0
Parts fails = (a b : ℕ) → Part a b → fails b ≡ true → fails a ≡ true

-- each single station can fail
abbrev pub Singles : ℕ → (ℕ → Bool) → Type 0
Singles n fails = (i : ℕ) → i < n → fails (2 ^ i) ≡ true

-- no two sets that can fail make up all n, be they one set twice
abbrev pub Apart : ℕ → (ℕ → Bool) → Type 0
Apart n fails = (a b : ℕ) → fails a ≡ true → fails b ≡ true → Whole n a b → ⊥
