use Rattle.hall.specs.Halls.{model}
use Rattle.hall.proofs.Continued.{agreed}
use Rattle.hall.proofs.parts.Hall.agrees.Goals as goal

pub returns : goal.returns
returns g c = agreed g.R.Wire g.R.Rig g.Q.Rule g.K.WordKind (model c.args.self.now) c.parts_agree.ensures
