use Rattle.std.proofs.Common.{◌≡◌, arith}
use Rattle.words.specs.Kinds.{is_word}
use Rattle.agreement.specs.Made.{rig_of}
use Rattle.agreement.specs.Sheets.{vote_entry}
use Rattle.rounds.specs.Settings.{setting_from}
use Rattle.rounds.specs.Sheets.{three, low}
use Rattle.rounds.proofs.Writes.{turn, first, last}
use Rattle.rounds.proofs.Entries.{low_below, all_wrote}
use Rattle.rounds.proofs.vote.Setting.vote.Goals as goal

pub loop-a-init : goal.loop-a-init
loop-a-init g c = first (three _) low _ c.blank.new.votes 0 (λ k _. omega arith)

pub loop-a-preserved : goal.loop-a-preserved
loop-a-preserved g c =
    let self = c.args.self.now in
    let n = g.Q.Rule.stations self.rule.now in
    let e = setting_from (rig_of g.R.Wire g.R.Rig self.rig.now) (is_word g.K.WordKind.word) self.start.now in
    turn (three n) low (vote_entry n e) _ c.loop-a.votes c.blank.new.votes c.loop-a.a c.loop-a.invariant c.vote_with_lowest.ensures

pub returns : goal.returns
returns g c =
    let self = c.args.self.now in
    let n = g.Q.Rule.stations self.rule.now in
    let e = setting_from (rig_of g.R.Wire g.R.Rig self.rig.now) (is_word g.K.WordKind.word) self.start.now in
    all_wrote n e c.loop-a.votes c.blank.new.votes c.args.votes.now c.told-votes c.blank.ensures
    (last (three n) low (vote_entry n e) c.loop-a.votes c.blank.new.votes n (low_below n)
    (let z : c.loop-a.a ≡ n = omega (arith, c.n-a-end.ensures) in rw z at c.loop-a.invariant))
