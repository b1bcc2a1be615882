use Rattle.words.specs.Kinds.{is_word}
use Rattle.agreement.specs.Made.{rig_of}
use Rattle.agreement.specs.Sheets.{vote_entry}
use Rattle.rounds.specs.Settings.{setting_from}
use Rattle.rounds.specs.Sheets.{three, low, Wrote}
use Rattle.rounds.proofs.Writes.{before}
use Rattle.rounds.proofs.vote.Setting.vote.Given as goal

abbrev pub invariant-loop-a : goal.invariant-loop-a
invariant-loop-a g l =
    let n = g.Q.Rule.stations l.self.rule.now in
    Wrote (before (three n) low l.a) (vote_entry n (setting_from (rig_of g.R.Wire g.R.Rig l.self.rig.now) (is_word g.K.WordKind.word) l.self.start.now)) l.votes l.initial.votes
