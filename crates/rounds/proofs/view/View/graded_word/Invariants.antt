use Rattle.words.specs.Kinds.{is_word}
use Rattle.agreement.specs.Made.{rule_of}
use Rattle.rounds.specs.Sheets.{votes_on}
use Rattle.rounds.proofs.GradedTried.{Found}
use Rattle.rounds.proofs.view.View.graded_word.Given as goal

abbrev pub invariant-loop-q : goal.invariant-loop-q
invariant-loop-q g l = Found (rule_of g.Q.Rule l.self.rule.now) (votes_on l.self.votes.now) l.self.p (is_word g.K.WordKind.word) l.q-counter l.best
