-- What the lines of a script ask for.
use Rattle.std.specs.Prelude.{◌≤◌}
use Rattle.calls_text.specs.declared.line.Command.{Command}
use Rattle.calls_text.specs.declared.line.Command.TheVariants.{Make, Round, Call}

-- the sheet of a round has at most 8,192 entries
abbrev pub Fits : Command → Type 0
Fits Make = Unit {0}
Fits (Round entries) = entries ≤ 8192
Fits (Call call) = Unit {0}
