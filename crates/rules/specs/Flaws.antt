-- Why numbers or masks make no rule.
use Rattle.std.specs.Prelude.{◌≡◌, ℕ, ◌+◌, ◌*◌, ◌^◌, ◌<◌, ◌≤◌, List, length, slice_index}
use Rattle.sets.specs.Sets.{members, Whole}
use Rattle.rules.specs.declared.flaw.Flaw.{Flaw}
use Rattle.rules.specs.declared.flaw.Flaw.TheVariants.{FewStations, ManyStations, NoneBroken, HalfBroken, ManyMasks, Stranger, OneMissing, Together}

-- m is one of the masks
abbrev pub OneOf : ℕ → List ℕ → Type 0
OneOf m ms = (k : ℕ) × (k < length ms) × (slice_index ms k ≡ m)

-- what a flaw says of the numbers of a count rule
abbrev pub CountFlaw : ℕ → ℕ → Flaw → Type 0
CountFlaw n t FewStations = n < 3
CountFlaw n t ManyStations = 16 < n
CountFlaw n t NoneBroken = t < 1
CountFlaw n t HalfBroken = n ≤ 2 * t
CountFlaw n t ManyMasks = ⊥
CountFlaw n t (Stranger m) = ⊥
CountFlaw n t (OneMissing m) = ⊥
CountFlaw n t (Together a b) = ⊥

-- what a flaw says of the stations and masks of a group rule
abbrev pub GroupFlaw : ℕ → List ℕ → Flaw → Type 0
GroupFlaw n ms FewStations = n < 3
GroupFlaw n ms ManyStations = 16 < n
GroupFlaw n ms NoneBroken = ⊥
GroupFlaw n ms HalfBroken = ⊥
GroupFlaw n ms ManyMasks = 16 < length ms
-- the mask m has a station from n on
GroupFlaw n ms (Stranger m) = OneOf m ms × (2 ^ n ≤ m)
-- the mask m lacks at most one of the n stations, and each single station can fail
GroupFlaw n ms (OneMissing m) = OneOf m ms × (n ≤ members m + 1)
-- the masks a and b make up all n stations
GroupFlaw n ms (Together a b) = OneOf a ms × OneOf b ms × Whole n a b

-- a flaw of the number of stations, whatever else the rule has
abbrev pub StationsFlaw : ℕ → Flaw → Type 0
StationsFlaw n f = ((t : ℕ) → CountFlaw n t f) × ((ms : List ℕ) → GroupFlaw n ms f)
