use Rattle.std.proofs.Common.{◌+◌, length, take, pos, ap, ◌∙◌, arith}
use Rattle.std.specs.List.{flat_map}
use Rattle.std.proofs.lemmas.List.{length-append}
use Rattle.std.proofs.ByRecursion.{All-get_or}
use Rattle.packets.specs.declared.fields.Argument.TheVariants.{Number}
use Rattle.packets.specs.Write.{entry_bytes, Inside}
use Rattle.packets.proofs.Puts.{over_none, put-more, loop_put, loop_end, joined_le, joined_snoc}
use Rattle.packets.proofs.put.put_fields.Goals as goal

pub put_entry-end-requires : goal.put_entry-end-requires
put_entry-end-requires c =
    let f = entry_bytes c.args.lent.now in
    let end = c.loop-e.invariant.1 in
    let le = joined_le (entry_bytes c.args.lent.now) (c.loop-e.e-index + 1) c.args.entries.now in
    let more = ap length (put-more (flat_map f) f (joined_snoc f) c.args.entries.now c.loop-e.e-index (Number (pos 0)) c.loop-e-test.true) ∙ length-append (flat_map f (take c.loop-e.e-index c.args.entries.now)) _ in
    record { inside = All-get_or (Inside c.args.lent.now) c.args.entries.now _ _ c.loop-e-test.true c.requires.inside; room = omega arith; short = omega arith }

pub loop-e-init : goal.loop-e-init
loop-e-init c = (over_none c.args.out.now c.args.at, omega arith)

pub loop-e-preserved : goal.loop-e-preserved
loop-e-preserved c =
    let f = entry_bytes c.args.lent.now in
    let end = c.loop-e.invariant.1 in
    let le = joined_le (entry_bytes c.args.lent.now) (c.loop-e.e-index + 1) c.args.entries.now in (
      loop_put (flat_map f) f (joined_snoc f) _ _ _ c.loop-e-test.true _ _ _ _ _ c.loop-e.invariant.0 end c.put_entry-end.ensures.after (omega arith),
      loop_end (flat_map f) f (joined_snoc f) c.args.entries.now _ _ c.loop-e-test.true _ _ _ end c.put_entry-end.ensures.end,
    )
