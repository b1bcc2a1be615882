use Rattle.std.proofs.Common.{arith}
use Rattle.rules.specs.GroupLaws.{no_masks_apart}
use Rattle.rules.proofs.group.GroupRule.new.Goals as goal

pub invariant_of-result : goal.invariant_of-result
invariant_of-result c = record {
  sized = (omega arith, omega arith);
  few = rw c.new.ensures (omega arith);
  below = rw c.new.ensures (λ k h. absurd (omega arith));
  apart = rw c.new.ensures (no_masks_apart _ (omega arith) (omega arith));
}
