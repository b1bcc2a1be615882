use Rattle.rounds.proofs.Suffice.{suffice}
use Rattle.rounds.proofs.tried.votes_suffice.Goals as goal

pub returns : goal.returns
returns c = suffice
