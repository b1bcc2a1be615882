use Rattle.std.proofs.Common.{◌∙◌}
use Rattle.words.specs.Kinds.{is_word}
use Rattle.agreement.specs.Made.{rig_of}
use Rattle.agreement.specs.Rounds.{majority}
use Rattle.rounds.specs.Settings.{setting_from}
use Rattle.rounds.proofs.Trios.{three-same, votes_read}
use Rattle.rounds.proofs.vote.Setting.trio_votes.Goals as goal

pub returns : goal.returns
unfolding majority
returns g c =
    let self = c.args.self.now in
    let trio = c.args.trio in
    three-same c.shared.ensures c.shared-2.ensures c.shared-3.ensures
    ∙ votes_read (setting_from (rig_of g.R.Wire g.R.Rig self.rig.now) (is_word g.K.WordKind.word) self.start.now)
    trio.a trio.b trio.c trio.rising.0 trio.rising.1 c.readings-x.result c.readings-y.result c.readings-z.result
    c.readings-x.ensures c.readings-y.ensures c.readings-z.ensures
