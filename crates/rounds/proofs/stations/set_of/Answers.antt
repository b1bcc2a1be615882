use Rattle.std.proofs.Common.{◌<◌, sym, refl, ◌∙◌, arith}
use Rattle.sets.specs.Sets.{mask_of}
use Rattle.rounds.proofs.Scans.{mask_in, mask_out}
use Rattle.rounds.proofs.stations.set_of.Goals as goal
use Rattle.rounds.proofs.stations.set_of.Goals.{then-test, else-test}

pub loop-p-init : goal.loop-p-init
unfolding mask_of
loop-p-init g c = λ t says. refl

pub loop-p-preserved : goal.loop-p-preserved
loop-p-preserved g c = λ t says.
    let p = c.loop-p.p in
    let low : p < 16 = omega (arith, c.count-p-end.ensures, (g.met.Q.Rule.sized c.args.rule.now).1) in
    let is = says p c.test.result low c.test.ensures in
    elim c.if-test.branch [
      | then-test w ↦ mask_in t p c.loop-p.set _ (c.loop-p.invariant t says) low (sym is ∙ w.if-test.true) (w.set-is ∙ w.with-set.ensures)
      | else-test w ↦ mask_out t p c.loop-p.set _ (c.loop-p.invariant t says) (sym is ∙ w.if-test.false) w.set-is
    ]
