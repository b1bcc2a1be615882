use Rattle.std.proofs.Common.{◌+◌, length, take, pos, ap, ◌∙◌, arith}
use Rattle.std.specs.List.{flat_map}
use Rattle.std.proofs.lemmas.List.{length-append}
use Rattle.std.proofs.ByRecursion.{All-get_or}
use Rattle.packets.specs.declared.fields.Argument.TheVariants.{Number}
use Rattle.packets.specs.Write.{entry_bytes, entry_value, Inside}
use Rattle.packets.proofs.Puts.{put-more, joined_le, joined_snoc}
use Rattle.packets.proofs.Encoded.{fields-length}
use Rattle.packets.proofs.Lists.{fields_at, joined-map}
use Rattle.packets.proofs.entries.fields_size.Goals as goal

pub returns-in_err-size : goal.returns-in_err-size
returns-in_err-size c =
    rw c.from_residual.ensures
    (λ placed bs h l.
    let at = fields_at (entry_value c.args.lent.now) c.args.entries.now bs c.loop-e.e-index (Number (pos 0)) c.loop-e-test.true h in
    c.in_err-size.ensures (All-get_or (Inside c.args.lent.now) c.args.entries.now c.loop-e.e-index (Number (pos 0)) c.loop-e-test.true placed) at.0 at.1.0 at.1.1)

pub returns-in_err-total : goal.returns-in_err-total
returns-in_err-total c =
    rw c.from_residual-in_err-total.ensures
    (λ placed bs h l.
    let f = entry_bytes c.args.lent.now in
    let le = joined_le (entry_bytes c.args.lent.now) (c.loop-e.e-index + 1) c.args.entries.now in
    let more = ap length (put-more (flat_map f) f (joined_snoc f) c.args.entries.now c.loop-e.e-index (Number (pos 0)) c.loop-e-test.true) ∙ length-append (flat_map f (take c.loop-e.e-index c.args.entries.now)) _ in
    let got = c.in_ok-size.ensures in
    let all = fields-length _ bs h ∙ ap length (joined-map c.args.lent.now c.args.entries.now) in
    omega (arith, c.loop-e.invariant.0, c.in_err-total.ensures))
