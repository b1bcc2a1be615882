use Rattle.std.proofs.Common.{◌≡◌, length, take}
use Rattle.std.specs.List.{flat_map, AllByRecursion}
use Rattle.packets.specs.Write.{entry_bytes, Sendable}
use Rattle.packets.proofs.entries.fields_size.Given as goal

abbrev pub invariant-loop-e : goal.invariant-loop-e
invariant-loop-e l = (l.total ≡ length (flat_map (entry_bytes l.lent) (take l.e-index l.entries))) × AllByRecursion (Sendable l.lent) (take l.e-index l.entries)
