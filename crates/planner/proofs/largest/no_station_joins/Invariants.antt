use Rattle.std.proofs.Common.{◌≡◌, ℕ, ◌<◌, false}
use Rattle.planner.specs.Largest.{may_join}
use Rattle.planner.proofs.largest.no_station_joins.Given as goal

abbrev pub invariant-loop-i : goal.invariant-loop-i
invariant-loop-i g l = (k : ℕ) → k < l.i → may_join (g.R.Rule.fails l.rule) l.set k ≡ false
