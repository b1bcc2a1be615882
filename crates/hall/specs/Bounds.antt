-- What every stage keeps, whatever the rule is: a cue of sixteen stations has at most 15 kings, and while it runs at most three rounds for each were run.
use Rattle.std.specs.Prelude.{◌*◌, Bool, true, ◌&&◌, nat_le}
use Rattle.agreement.specs.declared.stage.Stage.{Stage}
use Rattle.agreement.specs.declared.stage.Stage.TheVariants.{Idle, Running, Decided}

abbrev pub bounded : Stage → Bool
bounded Idle = true
bounded (Running take caller kings rounds) = nat_le kings 15 && nat_le rounds (3 * kings)
bounded Decided = true
