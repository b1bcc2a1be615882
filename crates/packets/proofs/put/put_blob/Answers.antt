use Rattle.std.proofs.Common.{ℕ, ◌+◌, length, replicate, ap, ◌∙◌, arith}
use Rattle.std.proofs.lemmas.List.{length-replicate, length-append}
use Rattle.packets.specs.Encode.{fill_len, filled_bytes, blob_bytes}
use Rattle.packets.specs.Write.{over}
use Rattle.packets.proofs.Puts.{two_puts, length-blob}
use Rattle.packets.proofs.put.put_blob.Goals as goal

pub put-head-requires : goal.put-head-requires
put-head-requires c =
    let head = ap length c.to_be_bytes-size.ensures in
    omega (arith, length-blob c.args.b.now)

pub put-end-requires : goal.put-end-requires
put-end-requires c =
    let head = ap length c.to_be_bytes-size.ensures in
    omega (arith, length-blob c.args.b.now)

pub put_zeros-requires-clause-room : goal.put_zeros-requires-clause-room
put_zeros-requires-clause-room c =
    let head = ap length c.to_be_bytes-size.ensures in
    omega (arith, length-blob c.args.b.now)

pub returns : goal.returns
unfolding blob_bytes filled_bytes
returns c =
    let head = ap length c.to_be_bytes-size.ensures in
    let k = c.fill_len.ensures in
    let size = length-blob c.args.b.now in
    let zeros = length-replicate {A = ℕ} (fill_len (length c.args.b.now)) 0 in
    let fill = length-append c.args.b.now (replicate {A = ℕ} (fill_len (length c.args.b.now)) 0) in
    let last = c.put_zeros.ensures.after ∙ ap (λ x. over c.put-end.new.out c.put-end.result (replicate {A = ℕ} x 0)) k in
    let back = two_puts _ _ _ _ _ _ _ c.put-end.ensures.after c.put-end.ensures.end last (omega arith) in
    let all = two_puts _ _ _ _ _ _ _ (c.put-head.ensures.after ∙ ap (over c.args.out.now c.args.at) c.to_be_bytes-size.ensures) (c.put-head.ensures.end ∙ ap (λ x. c.args.at + length x) c.to_be_bytes-size.ensures) back (omega arith) in
    record { after = all; end = omega arith }
