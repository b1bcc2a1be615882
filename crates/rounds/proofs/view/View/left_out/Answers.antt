use Rattle.std.proofs.Common.{rules}
use Rattle.rounds.specs.Tallies.{left_out}
use Rattle.rounds.proofs.view.View.left_out.Goals as goal

pub returns : goal.returns
returns g c = c.set_of.ensures (left_out c.args.row.now c.args.self.now.p c.args.w) (λ q b low post. search rules)
