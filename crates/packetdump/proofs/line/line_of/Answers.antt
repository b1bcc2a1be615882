use Rattle.packetdump.proofs.Shown.{message_shows, refusal_shows}
use Rattle.packetdump.proofs.line.line_of.Goals as goal

pub returns-in-Ok : goal.returns-in-Ok
returns-in-Ok c = message_shows _ _ _ c.in-Ok.ensures.value c.message_line.ensures

pub returns-in-Err : goal.returns-in-Err
returns-in-Err c = refusal_shows _ _ _ c.in-Err.ensures.value c.refusal_line.ensures
