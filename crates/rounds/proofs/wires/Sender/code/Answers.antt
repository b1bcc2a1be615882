use Rattle.std.proofs.Common.{sym, ◌∙◌}
use Rattle.std.proofs.lemmas.Bool.{cond-true, cond-false}
use Rattle.agreement.specs.Rounds.{king_held}
use Rattle.rounds.proofs.wires.Sender.code.Goals as goal

pub returns-then-keeps : goal.returns-then-keeps
unfolding king_held
returns-then-keeps g c = λ trio. c.code.ensures ∙ sym (cond-true _ _ _ (sym c.if-keeps.ensures))

pub returns-else-keeps : goal.returns-else-keeps
unfolding king_held
returns-else-keeps g c = λ trio. c.wired_to.ensures trio ∙ sym (cond-false _ _ _ (sym c.if-keeps.ensures))
