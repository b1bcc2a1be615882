use Rattle.sets.proofs.Operators.{all_bits}
use Rattle.sets.proofs.all.Goals as goal

pub returns-else-n-lt16 : goal.returns-else-n-lt16
returns-else-n-lt16 c = all_bits c.args.n c.if-n-lt16.false
