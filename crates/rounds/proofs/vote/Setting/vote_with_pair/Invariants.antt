use Rattle.words.specs.Kinds.{is_word}
use Rattle.agreement.specs.Made.{rig_of}
use Rattle.agreement.specs.Sheets.{vote_entry}
use Rattle.rounds.specs.Settings.{setting_from}
use Rattle.rounds.specs.Sheets.{with_pair, high, Wrote}
use Rattle.rounds.proofs.Writes.{before}
use Rattle.rounds.proofs.vote.Setting.vote_with_pair.Given as goal

abbrev pub invariant-loop-c : goal.invariant-loop-c
invariant-loop-c g l =
    let n = g.Q.Rule.stations l.self.rule.now in
    Wrote (before (with_pair n l.a l.b) high l.c) (vote_entry n (setting_from (rig_of g.R.Wire g.R.Rig l.self.rig.now) (is_word g.K.WordKind.word) l.self.start.now)) l.votes l.initial.votes
