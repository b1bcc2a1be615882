use Rattle.std.proofs.Common.{◌≡◌, ℕ, ◌^◌, Bool, Option}
use Rattle.rounds.specs.Stations.{Says}
use Rattle.rounds.specs.Searches.{lowest}
use Rattle.rounds.proofs.search.lowest.Given as goal

abbrev pub invariant-loop-p : goal.invariant-loop-p
invariant-loop-p g l = (f : ℕ → Option ℕ) (t : ℕ → Bool) → Says 16 (goal.C-post g l.code) f → Says (2 ^ 16) (goal.F-post g l.passes) t → l.best ≡ lowest t f l.initial.best l.p
