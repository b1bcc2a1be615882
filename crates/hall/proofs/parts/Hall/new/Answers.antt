use Rattle.std.proofs.Common.{[]}
use Rattle.hall.proofs.parts.Hall.new.Goals as goal

pub returns-clause-agreed : goal.returns-clause-agreed
returns-clause-agreed g c = c.parts_agree.ensures []
