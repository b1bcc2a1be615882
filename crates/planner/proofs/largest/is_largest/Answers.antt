use Rattle.std.proofs.Common.{◌≡◌, true}
use Rattle.planner.specs.Largest.{none_may_join}
use Rattle.planner.proofs.LargestLaws.{largest_by_stations}
use Rattle.planner.proofs.largest.is_largest.Goals as goal

pub returns-then-can_fail : goal.returns-then-can_fail
returns-then-can_fail g c =
    let r = c.args.rule.now in
    let met = g.met.R.Rule in
    let fails = g.R.Rule.fails r in
    let can : true ≡ fails c.args.set = c.if-can_fail.ensures in
    let value : c.no_station_joins.result ≡ none_may_join (g.R.Rule.stations r) fails c.args.set = rw (← can) c.no_station_joins.ensures in
    record { value = value; meaning = rw value (largest_by_stations (g.R.Rule.stations r) (met.sized r).1 fails (met.own r) (met.part r) c.args.set) }
