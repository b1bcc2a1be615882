use Rattle.std.proofs.Common.{arith, rules}
use Rattle.play.proofs.Written.{small_ok, small_word, small-lamp}
use Rattle.play.proofs.reply.put_told.Goals as goal

pub put-requires : goal.put-requires
put-requires c = record { encodes = small_ok.encodes; placed = tt; room = omega (arith, small_ok.few) }

pub put-requires-in-Word : goal.put-requires-in-Word
put-requires-in-Word c =
    let ok = small_word c.in-Word.station c.in-Word.code (search rules) (search rules) in
    simp (c.number.ensures, c.number-in-Word.ensures) (record { encodes = ok.encodes; placed = (tt, (tt, tt)); room = omega (arith, ok.few) })

pub put-requires-in-Lamp : goal.put-requires-in-Lamp
put-requires-in-Lamp c =
    let ok = small-lamp c.in-Lamp.station c.in-Lamp.lit (search rules) (search rules) in
    simp (c.number-in-Lamp.ensures, c.number-in-Lamp-2.ensures) (record { encodes = ok.encodes; placed = (tt, (tt, tt)); room = omega (arith, ok.few) })

pub returns-in-Word : goal.returns-in-Word
returns-in-Word c =
    let h = simp (c.number.ensures, c.number-in-Word.ensures) at c.put-in-Word.ensures in
    rw c.in-Word.is h

pub returns-in-Lamp : goal.returns-in-Lamp
returns-in-Lamp c =
    let h = simp (c.number-in-Lamp.ensures, c.number-in-Lamp-2.ensures) at c.put-in-Lamp.ensures in
    rw c.in-Lamp.is h
