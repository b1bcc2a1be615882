use Rattle.std.proofs.Common.{◌≡◌, ℕ, ◌+◌, ◌<◌, Bool, Option, sym, refl, ◌∙◌, ap₂, add-one, arith}
use Rattle.rounds.specs.Searches.{lower, lowest}
use Rattle.rounds.proofs.search.lowest.Goals as goal

more : (t : ℕ → Bool) (f : ℕ → Option ℕ) (best : Option ℕ) (n : ℕ) → lowest t f best (n + 1) ≡ lower t (lowest t f best n) (f n)
unfolding lowest
more t f best n = rw add-one refl

pub loop-p-init : goal.loop-p-init
unfolding lowest
loop-p-init g c = λ f t _ _. refl

pub loop-p-preserved : goal.loop-p-preserved
loop-p-preserved g c = λ f t says passes.
    let p = c.loop-p.p in
    let low : p < 16 = omega (arith, c.count-p-end.ensures, (g.met.Q.Rule.sized c.args.rule.now).1) in
    c.lower-best.ensures t passes ∙ ap₂ (lower t) (c.loop-p.invariant f t says passes) (says p c.code.result low c.code.ensures) ∙ sym (more t f c.args.best p)
