use Rattle.agreement_cases.proofs.Decided.{decides}
use Rattle.agreement_cases.proofs.some_cue_decides.Goals as goal

pub returns : goal.returns
returns c = decides
