use Rattle.std.proofs.Common.{◌≡◌, arith}
use Rattle.words.specs.Kinds.{is_word}
use Rattle.agreement.specs.Made.{rig_of}
use Rattle.agreement.specs.Sheets.{vote_entry}
use Rattle.rounds.specs.Settings.{setting_from}
use Rattle.rounds.specs.Sheets.{with_lowest, mid}
use Rattle.rounds.proofs.Writes.{turn, first, last}
use Rattle.rounds.proofs.Entries.{mid_above, mid-below}
use Rattle.rounds.proofs.vote.Setting.vote_with_lowest.Goals as goal

pub loop-b-init : goal.loop-b-init
loop-b-init g c = first (with_lowest _ c.args.a) mid _ c.args.votes.now _ (mid_above _ c.args.a)

pub loop-b-preserved : goal.loop-b-preserved
loop-b-preserved g c =
    let self = c.args.self.now in
    let n = g.Q.Rule.stations self.rule.now in
    let e = setting_from (rig_of g.R.Wire g.R.Rig self.rig.now) (is_word g.K.WordKind.word) self.start.now in
    turn (with_lowest n c.args.a) mid (vote_entry n e) _ c.loop-b.votes c.args.votes.now c.loop-b.b c.loop-b.invariant c.vote_with_pair.ensures

pub returns : goal.returns
returns g c =
    let n = g.Q.Rule.stations c.args.self.now.rule.now in
    last (with_lowest n c.args.a) mid _ c.loop-b.votes c.args.votes.now n (mid-below n c.args.a)
    (let z : c.loop-b.b ≡ n = omega (arith, c.n-b-end.ensures, c.requires) in rw z at c.loop-b.invariant)
