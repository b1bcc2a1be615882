use Rattle.std.proofs.Common.{◌≡◌, ℕ, Bool}
use Rattle.sets.specs.Sets.{mask_of}
use Rattle.rounds.specs.Stations.{Says}
use Rattle.rounds.proofs.stations.set_of.Given as goal

abbrev pub invariant-loop-p : goal.invariant-loop-p
invariant-loop-p g l = (t : ℕ → Bool) → Says 16 (goal.F-post g l.test) t → l.set ≡ mask_of l.p t
