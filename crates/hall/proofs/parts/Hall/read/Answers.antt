use Rattle.std.proofs.Common.{refl}
use Rattle.hall.specs.declared.call.Call.TheVariants.{Read}
use Rattle.hall.specs.Halls.{model}
use Rattle.hall.proofs.Continued.{by-answer}
use Rattle.hall.proofs.parts.Hall.read.Goals as goal

pub returns : goal.returns
returns g c =
    let came = by-answer g.R.Wire g.R.Rig g.Q.Rule g.K.WordKind (model c.args.self.now) (Read c.args.station) _ _ c.parts_agree.ensures c.decided_word.ensures refl in
    record { answer = came.does.answer; answered = came.answered; history = came.history }
