use Rattle.std.proofs.Common.{◌≡◌, ◌≤◌, reverse, length, take, vec_items, vec_len, vec_capacity}
use Rattle.hall.specs.Halls.{model}
use Rattle.hall.proofs.Played.{PlayedTo}
use Rattle.hall.proofs.replay.replay.Given as goal

abbrev pub invariant-loop-call : goal.invariant-loop-call
invariant-loop-call g l =
    record {
      played : PlayedTo g.R.Wire g.R.Rig g.Q.Rule g.K.WordKind l.fn.rig l.fn.rule l.fn.rest l.initial.sheet (reverse (take l.call-index l.calls)) (model l.hall) (vec_items l.steps) l.sheet;
      each : vec_len l.steps ≡ l.call-index;
      room : length l.calls ≤ vec_capacity l.steps;
    }
