use Rattle.std.proofs.Common.{arith}
use Rattle.std.proofs.ByRecursion.{All-weaker, All-map}
use Rattle.packets.specs.Write.{entry_value, Inside, Encodable, Sendable, content_of}
use Rattle.packets.proofs.Arguments.{some_weaker}
use Rattle.packets.proofs.Encoded.{encode-encodes}
use Rattle.packets.proofs.Lists.{encode-length, too_long}
use Rattle.packets.proofs.entries.message_size.Goals as goal

pub returns-in_err-within_packet : goal.returns-in_err-within_packet
returns-in_err-within_packet c =
    let n = encode-length c.args.address.now c.args.lent.now c.args.entries.now in
    let fields = c.in_ok-fields.ensures in
    rw c.from_residual-in_err-within_packet.ensures (too_long _ _ _ (omega (arith, c.in_err-within_packet.ensures, c.in_ok-tags.ensures)))

pub returns : goal.returns
returns c =
    let n = encode-length c.args.address.now c.args.lent.now c.args.entries.now in
    let head = c.in_ok-head.ensures in
    let fields = c.in_ok-fields.ensures in
    let tags = c.in_ok-tags.ensures in
    let more = c.in_ok-within_packet.ensures in
    let slash = c.in_ok-behind_byte.ensures.0.first in
    let good = All-map Encodable (entry_value c.args.lent.now) c.args.entries.now (All-weaker (Sendable c.args.lent.now) (λ e. Encodable (entry_value c.args.lent.now e)) (λ _ h. h.1) _ fields.0) in
    some_weaker c.within_packet-2.result
    (λ long. too_long _ _ _ (omega arith))
    (λ k h. (All-weaker (Sendable c.args.lent.now) (Inside c.args.lent.now) (λ _ s. s.0) _ fields.0, omega arith, encode-encodes (content_of c.args.address.now c.args.lent.now c.args.entries.now) slash head.0 good (omega arith)))
    c.within_packet-2.ensures
