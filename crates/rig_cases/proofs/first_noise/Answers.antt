use Rattle.std.proofs.Common.{◌∙◌}
use Rattle.rig_cases.proofs.Shown.{first-noise, worked}
use Rattle.rig_cases.proofs.first_noise.Goals as goal

pub returns : goal.returns
returns c = record {
  value = c.wire.ensures
      ∙ first-noise c.args.key c.args.code c.all.result c.seed_for.result c.place.result c.all.ensures c.place.ensures c.seed_for.ensures;
  cases = worked;
}
