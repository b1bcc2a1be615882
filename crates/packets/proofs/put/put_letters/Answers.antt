use Rattle.std.proofs.Common.{◌+◌, [], ◌∷◌, map, pos, ap, ◌∙◌, arith}
use Rattle.std.proofs.lemmas.List.{map-append}
use Rattle.packets.specs.declared.fields.Argument.TheVariants.{Number}
use Rattle.packets.specs.Write.{letter_of, over}
use Rattle.packets.proofs.Puts.{over_none, loop_put, loop_end, map_le}
use Rattle.packets.proofs.put.put_letters.Goals as goal

pub loop-e-init : goal.loop-e-init
loop-e-init c = (over_none c.args.out.now c.args.at, omega arith)

pub loop-e-preserved : goal.loop-e-preserved
loop-e-preserved c =
    let step = ap (λ x. x ∷ []) c.letter.ensures in
    let end = c.loop-e.invariant.1 in (
      loop_put (map letter_of) (λ e. letter_of e ∷ []) (λ xs x. map-append letter_of xs (x ∷ [])) _ _ _ c.loop-e-test.true _ _ _ _ _ c.loop-e.invariant.0 end (c.put-end.ensures.after ∙ ap (over c.loop-e.out c.loop-e.end) step) (omega (arith, map_le letter_of (c.loop-e.e-index + 1) c.args.entries.now)),
      loop_end (map letter_of) (λ e. letter_of e ∷ []) (λ xs x. map-append letter_of xs (x ∷ [])) c.args.entries.now _ (Number (pos 0)) c.loop-e-test.true _ _ _ end c.put-end.ensures.end,
    )
