use Rattle.std.proofs.Common.{◌≡◌, ℕ, ◌+◌, Some, Option, rules, sym, subst, arith}
use Rattle.words.specs.Kinds.{is_word}
use Rattle.words.proofs.KindLaws.{small-words}
use Rattle.agreement.specs.Made.{rule_of}
use Rattle.agreement.specs.Meanings.{LawfulRule}
use Rattle.rounds.specs.Sheets.{votes_on}
use Rattle.rounds.proofs.GradedTried.{Found, row_tried, found_none, found_more, found_all}
use Rattle.rounds.proofs.view.View.graded_word.Goals as goal

pub loop-q-init : goal.loop-q-init
loop-q-init g c =
    let self = c.args.self.now in
    let rule = self.rule.now in
    let met = g.met.Q.Rule in
    let L : LawfulRule (rule_of g.Q.Rule rule) = record { sized = met.sized rule; own = met.own rule; part = met.part rule; single = met.single rule; apart = met.apart rule } in
    found_none (rule_of g.Q.Rule rule) L (votes_on self.votes.now) self.p (is_word g.K.WordKind.word)

pub loop-q-preserved : goal.loop-q-preserved
loop-q-preserved g c =
    let self = c.args.self.now in
    let rule = self.rule.now in
    let met = g.met.Q.Rule in
    let R = rule_of g.Q.Rule rule in
    let L : LawfulRule R = record { sized = met.sized rule; own = met.own rule; part = met.part rule; single = met.single rule; apart = met.apart rule } in
    let v = votes_on self.votes.now in
    let words = is_word g.K.WordKind.word in
    let q = c.loop-q.q-counter in
    subst (λ (best : Option ℕ). Found R v self.p words (q + 1) best)
    (sym (c.lowest-best.ensures (λ r. Some (v self.p q r)) (row_tried R v self.p words q) (λ r x low post. search rules) (λ w b low post. search rules)))
    (found_more R L v self.p words q c.loop-q.best (omega (arith, c.count-q-end.ensures)) c.loop-q.invariant)

pub returns : goal.returns
returns g c = λ d.
    let self = c.args.self.now in
    let rule = self.rule.now in
    let met = g.met.Q.Rule in
    let R = rule_of g.Q.Rule rule in
    let L : LawfulRule R = record { sized = met.sized rule; own = met.own rule; part = met.part rule; single = met.single rule; apart = met.apart rule } in
    let e : c.loop-q.q-counter ≡ R.n = omega (arith, c.count-q-end.ensures) in
    found_all R L (votes_on self.votes.now) self.p (is_word g.K.WordKind.word) (small-words _ _ g.met.K.WordKind.sized g.met.K.WordKind.full) c.loop-q.best (rw e at c.loop-q.invariant) d
