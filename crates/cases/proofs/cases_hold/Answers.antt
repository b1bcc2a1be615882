use Rattle.std.proofs.Common.{rules}
use Rattle.cases.proofs.Shown.{shown}
use Rattle.cases.proofs.cases_hold.Goals as goal

pub returns : goal.returns
returns c = record { value = search rules; cases = shown }
