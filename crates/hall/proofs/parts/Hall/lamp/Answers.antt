use Rattle.std.proofs.Common.{refl}
use Rattle.hall.specs.declared.call.Call.TheVariants.{Lamp}
use Rattle.hall.specs.Halls.{model}
use Rattle.hall.proofs.Continued.{by-answer}
use Rattle.hall.proofs.parts.Hall.lamp.Goals as goal

pub returns : goal.returns
returns g c =
    let came = by-answer g.R.Wire g.R.Rig g.Q.Rule g.K.WordKind (model c.args.self.now) (Lamp c.args.station) _ _ c.parts_agree.ensures c.cue_lamp.ensures refl in
    record { answer = came.does.answer; answered = came.answered; history = came.history }
