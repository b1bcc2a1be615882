use Rattle.std.proofs.Common.{arith}
use Rattle.packets.proofs.Puts.{put_is}
use Rattle.packets.proofs.put.put.Goals as goal

pub returns-clause-after : goal.returns-clause-after
returns-clause-after c = put_is _ _ _ _ _ c.copy_from_slice.ensures.after (omega arith)
