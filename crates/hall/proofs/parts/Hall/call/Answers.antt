use Rattle.hall.specs.Halls.{model}
use Rattle.hall.proofs.Continued.{by-outcome}
use Rattle.hall.proofs.parts.Hall.call.Goals as goal

pub returns : goal.returns
returns g c =
    let came = by-outcome g.R.Wire g.R.Rig g.Q.Rule g.K.WordKind (model c.args.self.now) _ c.args.call c.args.sheet.now _ _ c.parts_agree.ensures c.judge.ensures in
    record { does = came.does; answered = came.answered; history = came.history }
