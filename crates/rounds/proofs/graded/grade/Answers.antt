use Rattle.std.proofs.Common.{get_or, rules}
use Rattle.words.specs.Kinds.{is_word}
use Rattle.agreement.specs.Made.{rule_of}
use Rattle.agreement.specs.Rounds.{graded_held, graded_lit}
use Rattle.rounds.specs.Sheets.{votes_on}
use Rattle.rounds.proofs.Lamps.{graded-is}
use Rattle.rounds.proofs.graded.grade.Goals as goal

pub returns : goal.returns
returns g c =
    let rule = c.args.rule.now in
    let R = rule_of g.Q.Rule rule in
    let v = votes_on c.args.votes.now in
    let words = is_word g.K.WordKind.word in
    let held = c.by_station-held.result in
    graded-is R words c.args.rest v (g.met.Q.Rule.sized rule).1 held c.set_of-lamps.result
    (c.by_station-held.ensures (graded_held R words c.args.rest v) (λ p x low post. search rules))
    (c.set_of-lamps.ensures (λ p. graded_lit R v p (get_or held p 0)) (λ p b low post. search rules))
