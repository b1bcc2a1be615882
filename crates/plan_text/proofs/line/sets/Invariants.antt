use Rattle.std.proofs.Common.{◌≡◌, ◌-◌, length}
use Rattle.plan_text.proofs.line.sets.Given as goal

abbrev pub invariant-loop-masks : goal.invariant-loop-masks
invariant-loop-masks l = l.scanner.text.now ≡ l.initial.scanner.text.now

abbrev pub decreases-loop-masks : goal.decreases-loop-masks
decreases-loop-masks l = length l.initial.scanner.text.now - l.scanner.at
