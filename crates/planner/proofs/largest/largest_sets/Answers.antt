use Rattle.std.proofs.Common.{◌≡◌, ◌+◌, ◌^◌, ltb, sym, ap, ◌∙◌, subst, arith, rules}
use borrow.Author.Tests.{tests}
use Rattle.std.proofs.lemmas.Result.{IfOk-weaker}
use Rattle.std.proofs.lemmas.Iterator.{items_from_collect}
use Rattle.std.proofs.lemmas.Iterator.Consumers.{YieldsList-from_filter, YieldsList-at}
use Rattle.sets.specs.Sets.{mask_of}
use Rattle.planner.specs.Largest.{LargestSets, none_may_join}
use Rattle.planner.proofs.InclusiveRanges.{YieldsList-from_inclusive}
use Rattle.planner.proofs.LargestLaws.{found_by_test, all-is}
use Rattle.planner.proofs.largest.largest_sets.Goals as goal

pub returns : goal.returns
returns g c =
    let r = c.args.rule.now in
    let met = g.met.R.Rule in
    let n = g.R.Rule.stations r in
    let fails = g.R.Rule.fails r in
    let masks = YieldsList-at c.filter.ensures.source (YieldsList-from_inclusive c.all.result c.new.ensures.start c.new.ensures.end c.new.ensures.exhausted) in
    let last : c.all.result + 1 ≡ 2 ^ n = ap (λ x. x + 1) (c.all.ensures ∙ ap (λ m. mask_of 16 (λ j. ltb j m)) c.n.ensures) ∙ all-is n (met.sized r).1 in
    IfOk-weaker c.collect.result _ _
    (λ v e. subst (LargestSets fails) (sym e) (found_by_test n (met.sized r).1 fails (met.own r) (met.part r) (c.all.result + 1) (omega (arith, last))))
    (items_from_collect c.collect.result c.collect.ensures.ran (YieldsList-from_filter _ (none_may_join n fails) masks c.filter.ensures.closure (λ x b q k. search (rules, tests))))
