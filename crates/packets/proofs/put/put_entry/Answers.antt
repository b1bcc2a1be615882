use Rattle.std.proofs.Common.{◌≤◌, length, subst, arith}
use Rattle.std.specs.List.{between}
use Rattle.packets.specs.Encode.{field_bytes}
use Rattle.packets.specs.Write.{entry_value}
use Rattle.packets.proofs.Puts.{length-blob}
use Rattle.packets.proofs.put.put_entry.Goals as goal

pub put_blob-requires-clause-short : goal.put_blob-requires-clause-short
put_blob-requires-clause-short c =
    let h = subst (λ x. length (field_bytes (entry_value c.args.lent.now x)) ≤ 4096) c.in-Blob.is c.requires.short in
    let n = length-blob (between c.in-Blob.field-0.from c.in-Blob.field-0.to c.args.lent.now) in
    omega arith
