use Rattle.std.proofs.Common.{subst, arith}
use Rattle.std.proofs.lemmas.List.{drop_more, drop_all}
use Rattle.packets.specs.Read.{Holds}
use Rattle.packets.proofs.Arguments.{Same, same_step, holds-refused}
use Rattle.packets.proofs.Arguments.{fit_end}
use Rattle.packets.proofs.fields.fit.Goals as goal

pub returns-in_default : goal.returns-in_default
returns-in_default c = λ vs h.
    let w = c.loop-letter.invariant.on vs h in
    let here = drop_more c.args.tags.now c.loop-letter.letter-index 0 (omega arith) in
    holds-refused _ _ _ c.in_default.ensures w.0 (subst (λ x. Holds x c.loop-letter.rest.now w.0) here w.1)

pub loop-letter-preserved : goal.loop-letter-preserved
loop-letter-preserved c =
    let got = c.in-Some.ensures in
    let here = drop_more c.args.tags.now c.loop-letter.letter-index 0 (omega arith) in
    same_step _ _ _ _ _ got.0 got.1 _ _ (subst (λ x. Same c.args.tags.now c.args.fields.now x c.loop-letter.rest.now) here c.loop-letter.invariant)

pub returns : goal.returns
returns c = fit_end _ _ _ _ _ c.loop-letter.invariant (drop_all c.loop-letter.letter-index c.args.tags.now (omega arith)) c.is_empty.ensures
