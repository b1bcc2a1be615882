use Rattle.std.proofs.Common.{rules}
use Rattle.words.specs.Kinds.{is_word}
use Rattle.agreement.specs.Made.{rule_of}
use Rattle.agreement.specs.Rounds.{weak_held}
use Rattle.rounds.specs.Sheets.{votes_on}
use Rattle.rounds.proofs.Fills.{sixteen_is}
use Rattle.rounds.proofs.weak.weak_codes.Goals as goal

pub returns : goal.returns
returns g c =
    let rule = c.args.rule.now in
    let f = weak_held (rule_of g.Q.Rule rule) (is_word g.K.WordKind.word) (votes_on c.args.votes.now) in
    sixteen_is f _ _ (g.met.Q.Rule.sized rule).1 (c.by_station.ensures f (λ p x low post. search rules))
