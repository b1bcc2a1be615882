-- The group rule.
use Rattle.std.specs.Prelude.{ℕ, ◌^◌, ◌<◌, ◌≤◌, Bool, false, ◌&&◌, ◌||◌, List, [], ◌∷◌, length, nat_le, slice_index}
use Rattle.sets.specs.Sets.{members, among, inside}
use Rattle.rules.specs.Rules.{Sized, Apart}

-- whether s lies within one of the masks
abbrev pub lies : List ℕ → ℕ → Bool
lies [] s = false
lies (m ∷ ms) s = inside s m || lies ms s

-- a set of the n stations can fail if it has at most one member, or lies within one of the masks
abbrev pub group_fails : ℕ → List ℕ → ℕ → Bool
group_fails n ms s = among n s && (nat_le (members s) 1 || lies ms s)

-- each mask has stations below n alone
abbrev pub Below : ℕ → List ℕ → Type 0
Below n ms = (k : ℕ) → k < length ms → slice_index ms k < 2 ^ n

-- what makes a group rule: n from 3 to 16, at most 16 masks, of stations below n, and no two sets that can fail make up all n
abbrev pub GroupMade : ℕ → List ℕ → Type 0
GroupMade n ms = Sized n × (length ms ≤ 16) × Below n ms × Apart n (group_fails n ms)
