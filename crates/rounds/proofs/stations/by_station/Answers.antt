use Rattle.std.proofs.Common.{◌<◌, length, ◌∙◌, arith}
use Rattle.std.proofs.lemmas.List.Edits.{fill_by_more}
use Rattle.std.proofs.lemmas.List.{drop-set-lt, length-set}
use Rattle.rounds.proofs.stations.by_station.Goals as goal

pub loop-p-preserved : goal.loop-p-preserved
loop-p-preserved g c =
    let s = c.loop-p.values in
    let p = c.loop-p.p in
    let low : p < 16 = omega (arith, c.count-p-end.ensures, (g.met.Q.Rule.sized c.args.rule.now).1) in
    let i = c.from.result in
    let h : p < length s = omega arith in (
      λ f says k d lt. rw (c.from.ensures, says p c.value.result low c.value.ensures) (fill_by_more f s p d h (λ j l. c.loop-p.invariant.0 f says j d l) k lt),
      drop-set-lt (g.Q.Rule.stations c.args.rule.now) s i _ (omega (arith, c.count-p-end.ensures, c.from.ensures)) ∙ c.loop-p.invariant.1,
      length-set s i _ ∙ c.loop-p.invariant.2,
    )

pub returns : goal.returns
returns g c = λ f says. record {
  each = λ p d lt. c.loop-p.invariant.0 f says p d (omega (arith, c.count-p-end.ensures));
  rest = c.loop-p.invariant.1;
  long = c.loop-p.invariant.2;
}
