use Rattle.std.proofs.Common.{ℕ, ◌<◌, get_or}
use Rattle.patch.specs.Boxes.{box_of, OneEach}
use Rattle.piles.proofs.floors.check.Given as goal

abbrev pub invariant-loop-number : goal.invariant-loop-number
invariant-loop-number l = (k : ℕ) → k < l.number-index → OneEach (box_of (get_or l.numbers k 0))
