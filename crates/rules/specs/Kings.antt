-- The kings of a caller: the other stations in rising order, added until caller and kings together cannot fail.
use Rattle.std.specs.Prelude.{◌≡◌, ℕ, ◌+◌, ◌-◌, ◌*◌, ◌<◌, ◌≤◌, Bool, true, false, cond, not, ◌&&◌, ◌||◌, Some, None, Ok, Err, Option, Result, ◌==◌, ◌≢◌, nat_le, nat_lt}
use Rattle.refusals.specs.declared.Refusal.{Refusal}
use Rattle.refusals.specs.declared.Refusal.TheVariants.{NoSuchStation}
use Rattle.sets.specs.Sets.{has, mask_of, smallest}
use Rattle.rules.specs.declared.king.Kings.{Kings}

-- how many stations other than the caller are below s
unfoldable pub others_below : ℕ → ℕ → ℕ
others_below caller s = cond (nat_lt caller s) (s - 1) s

-- the first k of the stations other than the caller, in rising order
unfoldable pub first_others : ℕ → ℕ → ℕ → ℕ
first_others n caller k = mask_of n (λ s. not (s == caller) && nat_lt (others_below caller s) k)

-- a set of stations and the caller together
abbrev pub with_caller : ℕ → ℕ → ℕ
with_caller caller set = mask_of 16 (λ s. has set s || caller == s)

-- k, the number of kings: the smallest for which the first k others and the caller together cannot fail
unfoldable pub king_count : ℕ → (ℕ → Bool) → ℕ → ℕ
king_count n fails caller = smallest n (λ k. not (fails (with_caller caller (first_others n caller k)))) n

-- the kings of a station: that many of the others
abbrev pub kings_of_station : ℕ → (ℕ → Bool) → ℕ → Kings
kings_of_station n fails caller =
    record { caller = caller; set = first_others n caller (king_count n fails caller); count = king_count n fails caller }

-- the kings of a caller; one from n on is no station
abbrev pub kings_of : ℕ → (ℕ → Bool) → ℕ → Result Kings Refusal
kings_of n fails caller = cond (nat_lt caller n) (Ok (kings_of_station n fails caller)) (Err NoSuchStation)

-- king number j, counted from 1: the other station with j - 1 others below it
abbrev pub king : ℕ → ℕ → ℕ
king caller j = cond (nat_le j caller) (j - 1) j

-- king number j of these kings, or none where j is 0 or above k
abbrev pub king_at : Kings → ℕ → Option ℕ
king_at ks j = cond (nat_le 1 j && nat_le j ks.count) (Some (king ks.caller j)) None

-- a cue has one round for the caller and three for each king
abbrev pub rounds_of : ℕ → ℕ
rounds_of k = 3 * k + 1

-- What holds of the kings of a caller under a lawful rule.
pub record KingFacts (n : ℕ) (fails : ℕ → Bool) (ks : Kings) : Type 0 where
  -- there is a king, and fewer kings than stations
  pub some : 1 ≤ ks.count
  pub few : ks.count < n
  -- caller and kings together cannot fail; with fewer kings they can
  pub together : fails (with_caller ks.caller ks.set) ≡ false
  pub fewer : (j : ℕ) → j < ks.count → fails (with_caller ks.caller (first_others n ks.caller j)) ≡ true
  -- the kings are those numbered 1 to k, each a station other than the caller, in rising order
  pub each : (j : ℕ) → 1 ≤ j → j ≤ ks.count → has ks.set (king ks.caller j) ≡ true
  pub only : (s : ℕ) → has ks.set s ≡ true → (j : ℕ) × (1 ≤ j) × (j ≤ ks.count) × (s ≡ king ks.caller j)
  pub below : (s : ℕ) → has ks.set s ≡ true → s < n
  pub other : (j : ℕ) → 1 ≤ j → king ks.caller j ≢ ks.caller
  pub rising : (i j : ℕ) → 1 ≤ i → i < j → king ks.caller i < king ks.caller j
