use Rattle.std.proofs.Common.{◌≡◌, ℕ, ◌<◌, get_or, None, Option, unwrap_or, rules, ap, ◌∙◌}
use Rattle.words.specs.Kinds.{is_word}
use Rattle.words.proofs.KindLaws.{small-words}
use Rattle.agreement.specs.Made.{rule_of}
use Rattle.agreement.specs.Meanings.{LawfulRule}
use Rattle.rounds.specs.Sheets.{votes_on}
use Rattle.rounds.specs.Tallies.{row_code, weak_tried}
use Rattle.rounds.proofs.WeakTried.{weak_found, out-same}
use Rattle.rounds.proofs.view.View.weak_word.Goals as goal

pub returns : goal.returns
returns g c = λ d.
    let self = c.args.self.now in
    let rule = self.rule.now in
    let met = g.met.Q.Rule in
    let R = rule_of g.Q.Rule rule in
    let L : LawfulRule R = record { sized = met.sized rule; own = met.own rule; part = met.part rule; single = met.single rule; apart = met.apart rule } in
    let v = votes_on self.votes.now in
    let words = is_word g.K.WordKind.word in
    let row = c.by_station-row.result in
    let found = c.by_station-row.ensures (row_code R.n v self.p) (λ q x low post. search rules) in
    let each : (q : ℕ) → q < R.n → get_or row q None ≡ row_code R.n v self.p q = λ q l. found.each q None l in
    let same = out-same R L v self.p row each in
    ap (λ (best : Option ℕ). unwrap_or best d)
    (c.lowest.ensures (λ q. get_or row q None) (weak_tried R v self.p words) (λ q x low post. search rules) (λ w b low post. search (rules, same)))
    ∙ weak_found R L v self.p words (small-words _ _ g.met.K.WordKind.sized g.met.K.WordKind.full) row each d
