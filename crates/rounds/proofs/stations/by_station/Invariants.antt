use Rattle.std.proofs.Common.{◌≡◌, ℕ, ◌<◌, length, get_or, drop, replicate}
use Rattle.rounds.specs.Stations.{Says}
use Rattle.rounds.proofs.stations.by_station.Given as goal

abbrev pub invariant-loop-p : goal.invariant-loop-p
invariant-loop-p g l =
    ((f : ℕ → g.row.T.Denot) → Says 16 (goal.F-post g l.value) f → (k : ℕ) (d : g.row.T.Denot) → k < l.p → get_or l.values k d ≡ f k)
    × (drop (g.Q.Rule.stations l.rule) l.values ≡ drop (g.Q.Rule.stations l.rule) (replicate 16 l.fn.none))
    × (length l.values ≡ 16)
