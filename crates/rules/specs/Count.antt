-- The count rule.
use Rattle.std.specs.Prelude.{ℕ, ◌*◌, ◌<◌, ◌≤◌, Bool, ◌&&◌, nat_le}
use Rattle.sets.specs.Sets.{members, among}
use Rattle.rules.specs.Rules.{Sized}

-- a set of the n stations can fail if it has at most t members
abbrev pub count_fails : ℕ → ℕ → ℕ → Bool
count_fails n t s = among n s && nat_le (members s) t

-- the numbers that make a count rule: n from 3 to 16, t at least 1, and 2t below n
abbrev pub CountMade : ℕ → ℕ → Type 0
CountMade n t = Sized n × (1 ≤ t) × (2 * t < n)
