use Rattle.std.proofs.Common.{◌≡◌, ◌+◌, map, length, take}
use Rattle.packets.specs.Write.{over, letter_of}
use Rattle.packets.proofs.put.put_letters.Given as goal

abbrev pub invariant-loop-e : goal.invariant-loop-e
invariant-loop-e l = (l.out ≡ over l.initial.out l.at (map letter_of (take l.e-index l.entries))) × (l.end ≡ l.at + length (map letter_of (take l.e-index l.entries)))
