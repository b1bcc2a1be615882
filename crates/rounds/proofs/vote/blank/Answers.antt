use Rattle.rounds.proofs.vote.blank.Goals as goal

pub returns : goal.returns
returns c = rw c.told-votes at (c.fill.ensures.after (λ y e. e))
