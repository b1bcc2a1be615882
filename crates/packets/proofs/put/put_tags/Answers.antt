use Rattle.std.proofs.Common.{◌≡◌, ℕ, ◌+◌, [], ◌∷◌, map, length, replicate, sym, ap, ◌∙◌, arith}
use Rattle.std.proofs.lemmas.List.{length-map, length-replicate}
use Rattle.packets.specs.Encode.{fill_len}
use Rattle.packets.specs.Write.{letter_of, over}
use Rattle.packets.proofs.Puts.{two_puts, length-text, text_zeros}
use Rattle.packets.proofs.put.put_tags.Goals as goal

pub put-first-requires : goal.put-first-requires
put-first-requires c = omega (arith, length-text (44 ∷ map letter_of c.args.entries.now))

pub put_letters-end-requires : goal.put_letters-end-requires
put_letters-end-requires c = omega (arith, length-text (44 ∷ map letter_of c.args.entries.now), length-map c.args.entries.now letter_of)

pub put_zeros-requires-clause-room : goal.put_zeros-requires-clause-room
put_zeros-requires-clause-room c = omega (arith, length-text (44 ∷ map letter_of c.args.entries.now), length-map c.args.entries.now letter_of)

pub returns : goal.returns
returns c =
    let n : length (map letter_of c.args.entries.now) ≡ length c.args.entries.now = length-map c.args.entries.now letter_of in
    let k : c.zeros_len.result ≡ 1 + fill_len (length (44 ∷ map letter_of c.args.entries.now) + 1) = omega (arith, c.zeros_len.ensures) in
    let size = length-text (44 ∷ map letter_of c.args.entries.now) in
    let zeros = length-replicate {A = ℕ} (1 + fill_len (length (44 ∷ map letter_of c.args.entries.now) + 1)) 0 in
    let head = two_puts _ _ _ _ _ (44 ∷ []) _ c.put-first.ensures.after c.put-first.ensures.end c.put_letters-end.ensures.after (omega arith) in
    let end : c.put_letters-end.result ≡ c.args.at + length (44 ∷ map letter_of c.args.entries.now) = omega (arith, c.put_letters-end.ensures.end, c.put-first.ensures.end) in
    let last = c.put_zeros.ensures.after ∙ ap (λ x. over c.put_letters-end.new.out c.put_letters-end.result (replicate {A = ℕ} x 0)) k in
    record {
      after = two_puts _ _ _ _ _ (44 ∷ map letter_of c.args.entries.now) _ head end last (omega arith) ∙ ap (over c.args.out.now c.args.at) (sym (text_zeros (44 ∷ map letter_of c.args.entries.now)));
      end = omega (arith, c.put_zeros.ensures.end);
    }
