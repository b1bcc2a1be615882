use Rattle.agreement.proofs.Further.{further}
use Rattle.agreement.proofs.further_laws.Goals as goal

pub returns : goal.returns
returns g c = further _
