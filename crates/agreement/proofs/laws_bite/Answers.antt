use Rattle.agreement.proofs.Unlawful.{unlawful}
use Rattle.agreement.proofs.laws_bite.Goals as goal

pub returns : goal.returns
returns c = unlawful
