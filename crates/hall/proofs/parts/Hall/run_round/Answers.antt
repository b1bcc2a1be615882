use Rattle.std.proofs.Common.{sym, ap, ◌∙◌}
use Rattle.agreement.specs.declared.stage.Stage.{Stage}
use Rattle.hall.specs.Halls.{model}
use Rattle.hall.specs.Outcomes.{rounding}
use Rattle.hall.proofs.Advanced.{advance_is}
use Rattle.hall.proofs.parts.Hall.run_round.Goals as goal

pub returns : goal.returns
returns g c =
    let on = c.in-Running in
    let x = model c.args.self.now in
    let ran = c.in_ok-held.ensures in
    advance_is g.R.Wire g.R.Rig g.Q.Rule g.K.WordKind x on.take on.caller on.kings on.rounds c.args.sheet.now _ _ _ _ c.from-kind.ensures ran.value ran.after c.stage_after.ensures
    ∙ ap (λ (s : Stage). rounding g.R.Wire g.R.Rig g.Q.Rule g.K.WordKind x s c.args.sheet.now) (sym on.is)
