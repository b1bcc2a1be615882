use Rattle.agreement_cases.proofs.Worked.{one-lamp-lit}
use Rattle.agreement_cases.proofs.Mistakes.{void_for_silence, q-left-out}
use Rattle.agreement_cases.proofs.mistakes_show.Goals as goal

pub returns : goal.returns
returns c = record { voids = void_for_silence; left = q-left-out; lamp = one-lamp-lit }
