use Rattle.std.proofs.Common.{◌∙◌}
use Rattle.agreement.specs.Rounds.{reading}
use Rattle.rounds.specs.Votes.{readings_of}
use Rattle.rounds.proofs.Trios.{three-same}
use Rattle.rounds.proofs.vote.Setting.readings.Goals as goal

pub returns : goal.returns
unfolding readings_of reading
returns g c =
    let said = c.code.ensures in
    let heard = c.trio-heard.ensures in
    three-same c.read_code.ensures c.read_code-2.ensures c.read_code-3.ensures ∙ simp (heard, said)
