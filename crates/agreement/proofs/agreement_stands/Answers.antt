use Rattle.agreement.proofs.Agreement.{agreement, above_piles}
use Rattle.agreement.proofs.agreement_stands.Goals as goal

pub returns : goal.returns
returns g c = record { agreed = agreement _; piled = above_piles _ }
