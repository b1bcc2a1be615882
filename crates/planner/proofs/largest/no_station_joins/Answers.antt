use Rattle.std.proofs.Common.{◌<◌, sym, subst, arith}
use Rattle.planner.specs.Largest.{may_join}
use Rattle.planner.proofs.LargestLaws.{one_passes, none_passes}
use Rattle.planner.proofs.largest.no_station_joins.Goals as goal

pub returns-then-may_join : goal.returns-then-may_join
returns-then-may_join g c =
    let r = c.args.rule.now in
    let l : c.loop-i.i < g.R.Rule.stations r = subst (λ x. c.loop-i.i < x) c.n-i-end.ensures c.loop-i-test.true in
    one_passes (g.R.Rule.stations r) (may_join (g.R.Rule.fails r) c.args.set) c.loop-i.i l (sym c.if-may_join.ensures)

pub returns : goal.returns
returns g c =
    let r = c.args.rule.now in
    none_passes (g.R.Rule.stations r) (may_join (g.R.Rule.fails r) c.args.set) (λ i l. c.loop-i.invariant i (omega (arith, c.n-i-end.ensures)))
