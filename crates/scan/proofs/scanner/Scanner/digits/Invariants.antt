use Rattle.std.proofs.Common.{◌≡◌, ◌-◌, ◌≤◌, length}
use Rattle.scan.specs.Numbers.{numeral}
use Rattle.scan.proofs.scanner.Scanner.digits.Given as goal

abbrev pub invariant-loop-digit : goal.invariant-loop-digit
invariant-loop-digit l =
    (l.initial.self.at ≤ l.self.at)
    × (l.value ≤ l.most)
    × (l.value ≡ numeral l.radix l.initial.self.text.now l.initial.self.at (l.self.at - l.initial.self.at))
    × (l.self.text.now ≡ l.initial.self.text.now)

abbrev pub decreases-loop-digit : goal.decreases-loop-digit
decreases-loop-digit l = length l.initial.self.text.now - l.self.at
