use Rattle.std.proofs.Common.{◌≡◌, ◌-◌, ◌≤◌, length}
use Rattle.scan.proofs.scanner.Scanner.stations.Given as goal

abbrev pub invariant-loop-station : goal.invariant-loop-station
invariant-loop-station l = (l.initial.self.at ≤ l.self.at) × (l.self.text.now ≡ l.initial.self.text.now)

abbrev pub decreases-loop-station : goal.decreases-loop-station
decreases-loop-station l = length l.initial.self.text.now - l.self.at
