use Rattle.std.proofs.Common.{drop}
use Rattle.packets.proofs.Arguments.{Same}
use Rattle.packets.proofs.fields.fit.Given as goal

abbrev pub invariant-loop-letter : goal.invariant-loop-letter
invariant-loop-letter l = Same l.tags l.fields (drop l.letter-index l.tags) l.rest
