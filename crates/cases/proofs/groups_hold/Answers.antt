use Rattle.std.proofs.Common.{◌≡◌, Bool, true, not, Decides, ⊎_elim}
use Rattle.std.proofs.lemmas.Bool.{and_from, not_from_false, cases_Bool}
use Rattle.cases.proofs.Shown.{group_cases}
use Rattle.cases.proofs.groups_hold.Goals as goal

refuses : {P : Type 0} (b : Bool) → Decides b P → (P → ⊥) → not b ≡ true
refuses b d none = not_from_false b (⊎_elim (λ t. absurd (none (d.0 t))) (λ f. f) (cases_Bool b))

pub returns : goal.returns
returns c =
    and_from _ _
    (and_from _ _ (c.group_made.ensures.1 group_cases.trio_and_pair_lem) (refuses _ c.group_made-2.ensures group_cases.two_trios))
    (refuses _ c.group_made-3.ensures group_cases.all_but_one)
