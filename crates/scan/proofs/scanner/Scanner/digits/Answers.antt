use Rattle.std.proofs.Common.{◌≡◌, ◌+◌, ◌*◌, refl, arith, rules}
use Rattle.scan.proofs.Numerals.{numeral-more, numeral-none}
use Rattle.scan.proofs.scanner.Scanner.digits.Goals as goal

pub loop-digit-init : goal.loop-digit-init
loop-digit-init c =
    (omega arith, omega arith, numeral-none c.args.radix c.args.self.now.text.now c.args.self.now.at, refl)

pub loop-digit-preserved : goal.loop-digit-preserved
loop-digit-preserved c =
    let value : c.in_ok-value.value ≡ c.loop-digit.value * c.args.radix + c.in-Some.digit = search rules in
    let digit = c.in-Some.ensures.value.0 in
    let moved = c.in-Some.ensures.value.1 in
    let same = c.take_digit.ensures.same in
    let before = c.loop-digit.invariant in
    let more = numeral-more c.args.radix c.args.self.now.text.now c.args.self.now.at c.loop-digit.self.at before.0 in
    (omega arith, omega arith, cc, cc)
