-- The largest sets that can fail.
use Rattle.std.specs.Prelude.{◌≡◌, ℕ, ◌<◌, Bool, true, not, ◌&&◌, ◌||◌, List, length, ◌==◌, slice_index}
use Rattle.std.specs.List.{list_all, range_with_len}
use Rattle.sets.specs.Sets.{has, mask_of, Part}

-- the set s with station i
abbrev pub with_station : ℕ → ℕ → ℕ
with_station s i = mask_of 16 (λ j. has s j || i == j)

-- s is a largest set that can fail: it can fail, and a set that can fail and has all of s has no more
abbrev pub Largest : (ℕ → Bool) → ℕ → Type 0
Largest fails s = (fails s ≡ true) × ((b : ℕ) → fails b ≡ true → Part s b → Part b s)

-- the list of the largest sets: each of them, and no other, in rising order of their masks
pub record LargestSets (fails : ℕ → Bool) (ms : List ℕ) : Type 0 where
  pub each : (k : ℕ) → k < length ms → Largest fails (slice_index ms k)
  pub all : (s : ℕ) → Largest fails s → (k : ℕ) × (k < length ms) × (slice_index ms k ≡ s)
  pub rising : (i j : ℕ) → i < j → j < length ms → slice_index ms i < slice_index ms j

-- whether station i is not in s, and s with it can fail
abbrev pub may_join : (ℕ → Bool) → ℕ → ℕ → Bool
may_join fails s i = not (has s i) && fails (with_station s i)

-- whether none of n stations may join s
abbrev pub no_station_joins : ℕ → (ℕ → Bool) → ℕ → Bool
no_station_joins n fails s = list_all (λ i. not (may_join fails s i)) (range_with_len 0 n)

-- the test of a largest set of n stations, station by station: it can fail, and none of them may join
abbrev pub none_may_join : ℕ → (ℕ → Bool) → ℕ → Bool
none_may_join n fails s = fails s && no_station_joins n fails s
