use Rattle.std.proofs.Common.{arith}
use Rattle.std.proofs.lemmas.List.{take_all}
use Rattle.hall.proofs.Played.{none-played, next-played}
use Rattle.hall.proofs.replay.replay.Goals as goal

pub loop-call-init : goal.loop-call-init
loop-call-init g c =
    let made = c.in_ok-steps.ensures in
    record {
      played = none-played g.R.Wire g.R.Rig g.Q.Rule g.K.WordKind c.args.rig c.args.rule c.args.rest c.args.sheet.now _ _ c.new-hall.ensures.made made.items;
      each = made.len;
      room = made.capacity;
    }

pub loop-call-preserved : goal.loop-call-preserved
loop-call-preserved g c =
    let ran = c.play.ensures in
    let pushed = c.push_reserved.ensures in
    record {
      played =
          next-played g.R.Wire g.R.Rig g.Q.Rule g.K.WordKind c.args.rig c.args.rule c.args.rest c.args.sheet.now c.args.calls.now c.loop-call.call-index _ _ _ _ _ _ c.call-item.result _ _
          (omega arith) c.call-item.is c.loop-call.invariant.played ran.does ran.answered ran.history pushed.items ran.state;
      each = omega (arith, pushed.len);
      room = omega (arith, pushed.capacity);
    }

pub returns : goal.returns
returns g c =
    let came = rw (take_all c.loop-call.call-index c.args.calls.now (omega arith)) at c.loop-call.invariant.played in
    record { had = came.had; steps = came.steps; sheet = came.sheet; agree = λ later before e. c.parts_agree.ensures before }
