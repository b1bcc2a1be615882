use Rattle.std.proofs.Common.{ap, ◌∙◌}
use Rattle.piles.specs.Hearing.{alike}
use Rattle.piles.proofs.Alike.{all_alike}
use Rattle.piles.proofs.hearing.good_hear_alike.Goals as goal

pub returns-clause-lawful : goal.returns-clause-lawful
returns-clause-lawful g c = λ e n.
    let k = c.args.key in
    c.all_alike.ensures ∙ ap (alike k c.args.broken) c.trio.ensures
    ∙ all_alike (g.R.Rig.heard c.args.rig.now) (g.met.R.Rig.agreed c.args.rig.now) k c.args.code c.args.broken e n
