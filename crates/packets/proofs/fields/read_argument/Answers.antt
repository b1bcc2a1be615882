use Rattle.std.proofs.Common.{◌∙◌, arith}
use Rattle.packets.proofs.Arguments.{no_text}
use Rattle.packets.proofs.fields.read_argument.Goals as goal

pub returns-in_err-s-in-s : goal.returns-in_err-s-in-s
returns-in_err-s-in-s c = rw c.from_residual-in_err-s-in-s.ensures (λ v rest e. no_text _ c.in_err-s-in-s.ensures v rest (e ∙ omega arith))
