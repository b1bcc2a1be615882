use Rattle.std.proofs.Common.{rules}
use Rattle.rounds.specs.Sheets.{votes_on}
use Rattle.rounds.specs.Tallies.{sure}
use Rattle.rounds.proofs.view.View.sure.Goals as goal

pub returns : goal.returns
returns g c = c.set_of.ensures (sure (g.Q.Rule.stations c.args.self.now.rule.now) (votes_on c.args.self.now.votes.now) c.args.self.now.p c.args.w) (λ q b low post. search rules)
