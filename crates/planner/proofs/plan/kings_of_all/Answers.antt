use Rattle.std.proofs.Common.{refl, arith, rules}
use borrow.Author.Tests.{tests}
use Rattle.std.specs.Result.{result_ok}
use Rattle.std.proofs.lemmas.Result.{IfOk-weaker}
use Rattle.std.proofs.lemmas.Iterator.{items_from_collect, YieldsList-from_range}
use Rattle.std.proofs.lemmas.Iterator.Consumers.{YieldsList-from_filter_map, YieldsList-at}
use Rattle.rules.specs.Kings.{kings_of}
use Rattle.planner.proofs.KingLists.{kings_in_range}
use Rattle.planner.proofs.plan.kings_of_all.Goals as goal

pub returns : goal.returns
returns g c =
    let r = c.args.rule.now in
    let n = g.R.Rule.stations r in
    let fails = g.R.Rule.fails r in
    let callers = YieldsList-at c.filter_map.ensures.source (YieldsList-from_range 0 c.n.result n refl (omega (arith, c.n.ensures))) in
    IfOk-weaker c.collect.result _ _ (λ v e. kings_in_range n fails v e)
    (items_from_collect c.collect.result c.collect.ensures.ran (YieldsList-from_filter_map _ (λ q. result_ok (kings_of n fails q)) callers c.filter_map.ensures.closure (λ x b q k. search (rules, tests))))
