use Rattle.std.proofs.Common.{◌≡◌, ◌<◌, ◌^◌, Bool, true, false, not, ◌&&◌, ◌∙◌, sym, ap, refl, subst, ⊎_elim, rules}
use mathlib.Core.Bool.{beq}
use Rattle.std.proofs.lemmas.Bool.{cases_Bool}
use Rattle.sets.specs.Sets.{has}
use Rattle.planner.specs.Largest.{with_station}
use Rattle.planner.proofs.LargestLaws.{with_own}
use Rattle.planner.proofs.largest.may_join.Goals as goal

-- a test is another than false where it holds
by_false : (b : Bool) → not (beq b false) ≡ b
by_false true = refl
by_false false = refl

pub returns : goal.returns
returns g c =
    let s = c.args.set in
    let i = c.args.i in
    let fails = g.R.Rule.fails c.args.rule.now in
    let small : s < 2 ^ 16 = search rules in
    let can : c.can_fail.result ≡ fails (with_station s i) = c.can_fail.ensures ∙ ap fails c.with.ensures in
    let yes : has s i ≡ true → fails (with_station s i) ≡ true = λ t. ap fails (sym (with_own s i small t)) ∙ c.requires in
    ⊎_elim
    (λ t. let e : not (beq true true) ≡ not (has s i) && fails (with_station s i) = rw t refl in
    subst (λ f. not (beq f c.contains.result) ≡ not (has s i) && fails (with_station s i)) (sym (can ∙ yes t))
    (subst (λ h. not (beq true h) ≡ not (has s i) && fails (with_station s i)) (sym (c.contains.ensures ∙ t)) e))
    (λ f. let e : not (beq (fails (with_station s i)) false) ≡ not (has s i) && fails (with_station s i) = rw f (by_false (fails (with_station s i))) in
    subst (λ x. not (beq x c.contains.result) ≡ not (has s i) && fails (with_station s i)) (sym can)
    (subst (λ h. not (beq (fails (with_station s i)) h) ≡ not (has s i) && fails (with_station s i)) (sym (c.contains.ensures ∙ f)) e))
    (cases_Bool (has s i))
