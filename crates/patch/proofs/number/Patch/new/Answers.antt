use Rattle.std.proofs.Common.{eqb, sym, refl, ap, ◌∙◌, arith, rules}
use Rattle.patch.specs.Boxes.{box_of, Twice}
use Rattle.patch.proofs.Gathered.{gather_none, gather_more}
use Rattle.patch.specs.Digits.{once-none, once_more, once-all, one_each, before-twice, seen_has}
use Rattle.patch.proofs.number.Patch.new.Goals as goal

pub loop-i-init : goal.loop-i-init
loop-i-init c = (once-none c.args.number, gather_none (λ b j. eqb (box_of c.args.number j) b))

pub returns-in_err-seen : goal.returns-in_err-seen
returns-in_err-seen c =
    let p = c.args.number in
    let t : Twice p = before-twice p c.loop-i.i (omega arith) (sym (seen_has p c.loop-i.i c.digit.result c.loop-i.seen c.digit.ensures c.loop-i.invariant.1) ∙ c.in_err-seen.ensures.1) in
    record { made = search rules }

pub loop-i-preserved : goal.loop-i-preserved
loop-i-preserved c =
    let p = c.args.number in
    let i = c.loop-i.i in
    let b = c.digit.result in
    let seen = c.loop-i.seen in (
      once_more p i c.loop-i.invariant.0 (sym (seen_has p i b seen c.digit.ensures c.loop-i.invariant.1) ∙ c.in_ok-seen.ensures.0),
      c.in_ok-seen.ensures.1 ∙ gather_more i (λ b j. eqb (box_of p j) b) b seen (λ c'. ap (λ x. eqb x c') c.digit.ensures) c.loop-i.invariant.1,
    )

pub invariant_of-result : goal.invariant_of-result
invariant_of-result c = record { once = once-all c.args.number c.loop-i.i (omega (arith, c.loop-i-test.false)) c.loop-i.invariant.0 }

pub returns : goal.returns
returns c = record {
  made = (refl, one_each c.args.number (once-all c.args.number c.loop-i.i (omega (arith, c.loop-i-test.false)) c.loop-i.invariant.0));
}
