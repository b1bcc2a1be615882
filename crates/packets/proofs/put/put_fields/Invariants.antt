use Rattle.std.proofs.Common.{◌≡◌, ◌+◌, length, take}
use Rattle.std.specs.List.{flat_map}
use Rattle.packets.specs.Write.{over, entry_bytes}
use Rattle.packets.proofs.put.put_fields.Given as goal

abbrev pub invariant-loop-e : goal.invariant-loop-e
invariant-loop-e l = (l.out ≡ over l.initial.out l.at (flat_map (entry_bytes l.lent) (take l.e-index l.entries))) × (l.end ≡ l.at + length (flat_map (entry_bytes l.lent) (take l.e-index l.entries)))
