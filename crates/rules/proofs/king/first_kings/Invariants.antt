use Rattle.std.proofs.Common.{◌≡◌, ℕ, ◌-◌, ◌<◌, true}
use Rattle.rules.specs.Kings.{first_others, with_caller}
use Rattle.rules.proofs.king.first_kings.Given as goal

abbrev pub invariant-loop-count : goal.invariant-loop-count
invariant-loop-count g l =
    (l.count < g.R.Rule.stations l.rule)
    × (l.set ≡ first_others (g.R.Rule.stations l.rule) l.caller l.count)
    × ((j : ℕ) → j < l.count → g.R.Rule.fails l.rule (with_caller l.caller (first_others (g.R.Rule.stations l.rule) l.caller j)) ≡ true)

abbrev pub decreases-loop-count : goal.decreases-loop-count
decreases-loop-count g l = g.R.Rule.stations l.rule - l.count
