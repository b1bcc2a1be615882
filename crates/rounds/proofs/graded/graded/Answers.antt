use Rattle.std.proofs.Common.{◌≡◌, ℕ, ◌≤◌, List, length, take, Ok, Result, rules, ap, ◌∙◌, ap₂}
use Rattle.refusals.specs.declared.Refusal.{Refusal}
use Rattle.words.specs.Kinds.{is_word}
use Rattle.agreement.specs.Made.{rule_of}
use Rattle.rounds.specs.declared.outcome.Outcome.{Outcome}
use Rattle.rounds.specs.Sheets.{votes_on}
use Rattle.rounds.specs.Tallies.{graded_by}
use Rattle.rounds.proofs.Same.{first_votes}
use Rattle.rounds.proofs.Rounds.{fits, graded-same}
use Rattle.rounds.proofs.graded.graded.Goals as goal

pub returns : goal.returns
returns g c =
    let sheet = c.args.sheet.now in
    let R = rule_of g.Q.Rule c.args.rule.now in
    let words = is_word g.K.WordKind.word in
    let at : c.in_ok-votes.votes.now ≡ take 4096 sheet = search rules in
    let long : 4096 ≤ length sheet = search rules in
    let done : Outcome → Result Outcome Refusal = λ x. Ok x in
    ap done (c.grade.ensures ∙ ap₂ (λ (s : List ℕ) (rest : ℕ). graded_by R words rest (votes_on s)) at c.encode.ensures
    ∙ graded-same R words (votes_on (take 4096 sheet)) (votes_on sheet) (first_votes R.n sheet (g.met.Q.Rule.sized c.args.rule.now).1) (g.K.WordKind.code c.args.rest))
    ∙ fits sheet _ long
