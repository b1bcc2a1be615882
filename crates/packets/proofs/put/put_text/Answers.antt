use Rattle.std.proofs.Common.{ℕ, ◌+◌, length, replicate, sym, ap, ◌∙◌, arith}
use Rattle.std.proofs.lemmas.List.{length-replicate}
use Rattle.packets.specs.Encode.{fill_len}
use Rattle.packets.specs.Write.{over}
use Rattle.packets.proofs.Puts.{two_puts, length-text, text_zeros}
use Rattle.packets.proofs.put.put_text.Goals as goal

pub put-end-requires : goal.put-end-requires
put-end-requires c = omega (arith, length-text c.args.s.now)

pub put_zeros-requires-clause-room : goal.put_zeros-requires-clause-room
put_zeros-requires-clause-room c = omega (arith, length-text c.args.s.now)

pub returns : goal.returns
returns c =
    let k = c.zeros_len.ensures in
    let size = length-text c.args.s.now in
    let zeros = length-replicate {A = ℕ} (1 + fill_len (length c.args.s.now + 1)) 0 in
    let last = c.put_zeros.ensures.after ∙ ap (λ x. over c.put-end.new.out c.put-end.result (replicate {A = ℕ} x 0)) k in
    record {
      after = two_puts _ _ _ _ _ _ _ c.put-end.ensures.after c.put-end.ensures.end last (omega arith) ∙ ap (over c.args.out.now c.args.at) (sym (text_zeros c.args.s.now));
      end = omega arith;
    }
