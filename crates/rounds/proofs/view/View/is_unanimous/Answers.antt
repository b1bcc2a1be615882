use Rattle.std.proofs.Common.{◌≡◌, ℕ, true, false, rules, refl, ap, ◌∙◌, arith}
use Rattle.std.proofs.lemmas.Iterator.{cases_from_all, YieldsList-from_range}
use Rattle.sets.specs.Sets.{every}
use Rattle.agreement.specs.Rounds.{unanimous}
use Rattle.rounds.specs.Sheets.{votes_on}
use Rattle.rounds.specs.Tallies.{agrees}
use Rattle.rounds.proofs.Scans.{every-from_all}
use Rattle.rounds.proofs.view.View.is_unanimous.Goals as goal

pub returns : goal.returns
unfolding unanimous
returns g c =
    let t = agrees (votes_on c.args.self.now.votes.now) c.args.self.now.p c.args.w c.args.q in
    every-from_all t c.count.result c.all.result
    (cases_from_all _ _ c.all.result (λ r. t r ≡ true) (λ r. t r ≡ false) c.all.ensures.ran (YieldsList-from_range 0 c.count.result c.count.result refl (omega arith)) (λ x q k. search rules) (λ x q k. search rules))
    ∙ ap (λ (n : ℕ). every n t) c.count.ensures
