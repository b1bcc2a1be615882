use Rattle.std.proofs.Common.{◌≡◌, [], ◌∷◌, refl, sym, ap, ◌∙◌}
use Rattle.std.proofs.Output.{has_written_of_eq, has_written_append}
use lib.Utf8.{encode}
use Rattle.packetdump.proofs.Shown.{other_marked, char_marked, char_itself, char_hex}
use Rattle.packetdump.proofs.line.CharDisplay.fmt.Goals as goal
use Rattle.packetdump.proofs.line.CharDisplay.fmt.Goals.{then-b-eq34, else-b-eq34}

pub returns-after-b-eq34-clause-writes : goal.returns-after-b-eq34-clause-writes
returns-after-b-eq34-clause-writes g c = λ plain ok.
    let shown : c.if-b-eq34.write_str.now ≡ 92 ∷ c.args.self.now.byte ∷ [] = elim c.if-b-eq34.branch [
      | then-b-eq34 w ↦ ap (λ x. x.now) w.write_str-is ∙ ap (λ x. 92 ∷ x ∷ []) (sym w.if-b-eq34.true)
      | else-b-eq34 w ↦ ap (λ x. x.now) w.write_str-is ∙ ap (λ x. 92 ∷ x ∷ []) (sym (other_marked _ (sym c.if-is_marked.ensures) w.if-b-eq34.false))
    ] in
    let e = char_marked c.args.self.now.low _ _ (sym c.if-is_marked.ensures) shown in
    has_written_of_eq g.W.Write.write_str_gives _ _ _ _ e (c.write_str.ensures.writes plain ok)

pub returns-then-is_itself-clause-writes : goal.returns-then-is_itself-clause-writes
returns-then-is_itself-clause-writes g c = λ plain ok.
    let e = char_itself c.args.self.now.low _ _ (c.encode_utf8.ensures.value ∙ ap encode c.from.ensures) (sym c.if-is_marked.ensures) (sym c.if-is_itself.ensures) in
    has_written_of_eq g.W.Write.write_str_gives _ _ _ _ e (c.write_str-then-is_itself.ensures.writes plain ok)

pub returns-in_ok-write_str-2-clause-writes : goal.returns-in_ok-write_str-2-clause-writes
returns-in_ok-write_str-2-clause-writes g c = λ plain ok.
    let e = char_hex c.args.self.now.low c.args.self.now.byte _ _ c.hex_digit.ensures.value c.hex_digit-else-is_itself.ensures.value (sym c.if-is_marked.ensures) (sym c.if-is_itself.ensures) in
    let first = c.in_ok-write_str.ensures.writes plain refl in
    let second = has_written_append g.W.Write.write_str_gives _ _ _ _ _ first (c.in_ok-write_str-2.ensures.writes first.plain refl) in
    has_written_of_eq g.W.Write.write_str_gives _ _ _ _ e
    (has_written_append g.W.Write.write_str_gives _ _ _ _ _ second (c.write_str-else-is_itself-3.ensures.writes second.plain ok))
