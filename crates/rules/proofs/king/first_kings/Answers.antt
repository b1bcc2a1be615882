use Rattle.std.proofs.Common.{◌≡◌, ℕ, ◌+◌, ◌<◌, true, false, sym, ap, ◌∙◌, subst, ap₂, arith, below_more}
use Rattle.std.proofs.lemmas.Bool.{not-true, not-false}
use Rattle.rules.specs.declared.king.Kings.{Kings}
use Rattle.rules.specs.Kings.{first_others, with_caller, king_count, KingFacts}
use Rattle.rules.proofs.KingLaws.{first-none, one_more, king_joins, count-is, facts}
use Rattle.rules.proofs.king.first_kings.Goals as goal

pub loop-count-init : goal.loop-count-init
loop-count-init g c = (omega arith, first-none (g.R.Rule.stations c.args.rule.now) c.args.caller, λ j h. absurd (omega arith))

pub loop-count-preserved : goal.loop-count-preserved
loop-count-preserved g c =
    let r = c.args.rule.now in
    let met = g.met.R.Rule in
    let n = g.R.Rule.stations r in
    let caller = c.args.caller in
    let k = c.loop-count.count in
    let same = c.loop-count.invariant.1 in
    let can : g.R.Rule.fails r (with_caller caller c.loop-count.set) ≡ true = not-false _ (sym c.if-cannot_fail.ensures) in
    let more : k + 1 < n = one_more n (g.R.Rule.fails r) (met.sized r) (met.apart r) caller c.requires k c.loop-count.set c.loop-count.invariant.0 same can in (
      more,
      c.with-set.ensures ∙ king_joins n (g.R.Rule.fails r) (met.sized r) (met.apart r) caller c.requires k c.loop-count.set c.king_number.result more same c.king_number.ensures,
      below_more (λ j. g.R.Rule.fails r (with_caller caller (first_others n caller j)) ≡ true) k c.loop-count.invariant.2
          (ap (λ x. g.R.Rule.fails r (with_caller caller x)) (sym same) ∙ can),
    )

pub returns : goal.returns
returns g c =
    let r = c.args.rule.now in
    let met = g.met.R.Rule in
    let n = g.R.Rule.stations r in
    let fails = g.R.Rule.fails r in
    let caller = c.args.caller in
    let k = c.loop-count.count in
    let few = c.loop-count.invariant.0 in
    let same = c.loop-count.invariant.1 in
    let done : fails (with_caller caller (first_others n caller k)) ≡ false = ap (λ x. fails (with_caller caller x)) (sym same) ∙ not-true _ (sym c.if-cannot_fail.ensures) in
    let count : k ≡ king_count n fails caller = sym (count-is n fails (met.sized r) (met.apart r) caller c.requires k few c.loop-count.invariant.2 done) in
    let kings : ℕ → ℕ → Kings = λ s m. record { caller = caller; set = s; count = m } in
    record {
      value = ap₂ kings (same ∙ ap (first_others n caller) count) count;
      facts = subst (λ s. KingFacts n fails (kings s k)) (sym same) (facts n fails (met.sized r) (met.apart r) caller c.requires (met.single r) k few c.loop-count.invariant.2 done);
    }
