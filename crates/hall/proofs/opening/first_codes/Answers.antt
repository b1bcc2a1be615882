use Rattle.std.proofs.Common.{rules, ◌≡◌, ℕ, ◌<◌, List, ◌++◌, cond, eqb, get_or, set, drop, replicate, ap, ◌∙◌, arith}
use Rattle.std.proofs.lemmas.Grind.{common_steps}
use Rattle.std.proofs.lemmas.Bool.{cases_eq}
use Rattle.std.proofs.lemmas.List.{set-append_left, get_or-set_same, get_or-set_other}
use Rattle.std.proofs.lemmas.List.FromFn.{fill_by_all}
use Rattle.rigs.specs.Lines.{void}
use Rattle.agreement.specs.Sheets.{filled, sixteen}
use Rattle.hall.proofs.opening.first_codes.Goals as goal

opened_at : (n caller rest word k : ℕ) → caller < n → k < n → get_or (set (replicate n rest) caller word) k 0 ≡ cond (eqb k caller) word rest
opened_at n caller rest word k lt at = grind (arith, common_steps, cases_eq k caller, get_or-set_same {A = ℕ}, get_or-set_other {A = ℕ})

opened : (n caller rest word : ℕ) → caller < n
    → set (replicate n rest ++ drop n (replicate 16 void)) caller word ≡ sixteen n (λ p. cond (eqb p caller) word rest)
unfolding sixteen filled
opened n caller rest word lt =
    set-append_left (replicate n rest) _ caller word (grind (arith, common_steps))
    ∙ ap (λ (codes : List ℕ). codes ++ drop n (replicate 16 void))
    (fill_by_all (λ p. cond (eqb p caller) word rest) _ n 0 (grind (arith, common_steps)) (λ k at. opened_at n caller rest word k lt at))

pub returns : goal.returns
returns c =
    let all : c.fill.new.self ≡ replicate c.args.n c.args.rest = c.fill.ensures.after (search rules) ∙ ap (λ (m : ℕ). replicate m c.args.rest) (grind (arith, common_steps)) in
    rw all (rw c.from.ensures (rw c.from-2.ensures (opened c.args.n c.args.caller c.args.rest c.args.word (omega arith))))
