use Rattle.std.proofs.Common.{◌≡◌, drop}
use Rattle.rules.specs.Group.{lies}
use Rattle.rules.proofs.group.lies_within.Given as goal

abbrev pub invariant-loop-m : goal.invariant-loop-m
invariant-loop-m l = lies l.masks l.set ≡ lies (drop l.m-index l.masks) l.set
