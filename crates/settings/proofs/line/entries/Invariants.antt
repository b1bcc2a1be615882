use Rattle.std.proofs.Common.{◌-◌, length}
use Rattle.settings.proofs.line.entries.Given as goal

abbrev pub decreases-loop-list : goal.decreases-loop-list
decreases-loop-list l = length l.scanner.text.now - l.scanner.at
