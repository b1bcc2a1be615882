use Rattle.std.proofs.Common.{◌≡◌, true, eqb}
use Rattle.sets.specs.Sets.{mask_of, any}
use Rattle.patch.specs.Boxes.{box_of}
use Rattle.patch.specs.Digits.{once_below}
use Rattle.patch.proofs.number.Patch.new.Given as goal

abbrev pub invariant-loop-i : goal.invariant-loop-i
invariant-loop-i l = (once_below l.number l.i ≡ true) × (l.seen ≡ mask_of 16 (λ b. any l.i (λ j. eqb (box_of l.number j) b)))
