use Rattle.std.proofs.Common.{arith, rules}
use Rattle.play.proofs.Written.{small-no}
use Rattle.play.proofs.reply.put_reply.Goals as goal

pub put-requires : goal.put-requires
put-requires c =
    let ok = small-no c.into.result (search rules) in
    simp c.number-in-Err.ensures (record { encodes = ok.encodes; placed = (tt, tt); room = omega (arith, ok.few) })
