use Rattle.std.proofs.Common.{◌≡◌, ℕ, ◌≤◌, List, length, take, Ok, Result, rules, ap, ◌∙◌}
use Rattle.refusals.specs.declared.Refusal.{Refusal}
use Rattle.words.specs.Kinds.{is_word}
use Rattle.agreement.specs.Made.{rule_of}
use Rattle.agreement.specs.Rounds.{weak_held}
use Rattle.agreement.specs.Sheets.{sixteen}
use Rattle.rounds.specs.Sheets.{votes_on}
use Rattle.rounds.proofs.Same.{first_votes}
use Rattle.rounds.proofs.Rounds.{fits, weak-same}
use Rattle.rounds.proofs.weak.weak.Goals as goal

pub returns : goal.returns
returns g c =
    let sheet = c.args.sheet.now in
    let R = rule_of g.Q.Rule c.args.rule.now in
    let words = is_word g.K.WordKind.word in
    let at : c.in_ok-votes.votes.now ≡ take 4096 sheet = search rules in
    let long : 4096 ≤ length sheet = search rules in
    let done : List ℕ → Result (List ℕ) Refusal = λ x. Ok x in
    ap done (c.weak_codes.ensures ∙ ap (λ (s : List ℕ). sixteen R.n (weak_held R words (votes_on s))) at
    ∙ weak-same R words (votes_on (take 4096 sheet)) (votes_on sheet) (first_votes R.n sheet (g.met.Q.Rule.sized c.args.rule.now).1))
    ∙ fits sheet _ long
