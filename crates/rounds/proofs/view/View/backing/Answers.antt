use Rattle.std.proofs.Common.{rules}
use Rattle.rounds.specs.Sheets.{votes_on}
use Rattle.rounds.specs.Tallies.{backs}
use Rattle.rounds.proofs.view.View.backing.Goals as goal

pub returns : goal.returns
returns g c = c.set_of.ensures (backs (votes_on c.args.self.now.votes.now) c.args.self.now.p c.args.w c.args.q) (λ r b low post. search rules)
