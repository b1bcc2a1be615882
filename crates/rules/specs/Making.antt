-- When the masks of a group rule are right, one by one.
use Rattle.std.specs.Prelude.{ℕ, ◌+◌, ◌^◌, ◌<◌, List, length, slice_index}
use Rattle.sets.specs.Sets.{members, Whole}
use Rattle.rules.specs.declared.flaw.Flaw.{Flaw}
use Rattle.rules.specs.Rules.{Apart}
use Rattle.rules.specs.Group.{group_fails, Below}
use Rattle.rules.specs.Flaws.{GroupFlaw}

-- no mask makes up all n with the set s
abbrev pub NoneCompletes : ℕ → List ℕ → ℕ → Type 0
NoneCompletes n ms s = (k : ℕ) → k < length ms → Whole n (slice_index ms k) s → ⊥

-- the mask m has stations below n alone, and neither a single station nor a mask makes up all n with it
abbrev pub Sound : ℕ → List ℕ → ℕ → Type 0
Sound n ms m = (m < 2 ^ n) × (members m + 1 < n) × NoneCompletes n ms m

-- the masks keep the laws of a group rule
abbrev pub MasksMade : ℕ → List ℕ → Type 0
MasksMade n ms = Below n ms × Apart n (group_fails n ms)

-- the masks have a flaw, and so make no rule
abbrev pub Flawed : ℕ → List ℕ → Flaw → Type 0
Flawed n ms f = GroupFlaw n ms f × (MasksMade n ms → ⊥)
