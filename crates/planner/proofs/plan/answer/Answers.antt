use Rattle.std.proofs.Common.{◌≡◌, ℕ, List, Ok, Err, Result, MatchResult}
use Rattle.std.proofs.lemmas.Result.{IfOk-weaker}
use Rattle.rules.specs.declared.group.GroupRule.{GroupRule}
use Rattle.rules.specs.Group.{GroupMade, group_fails}
use Rattle.rules.specs.Flaws.{GroupFlaw}
use Rattle.planner.specs.declared.plan.Plan.{Plan}
use Rattle.planner.specs.declared.plan.Unmade.{Unmade}
use Rattle.planner.specs.Plans.{PlanOf, NotMade, GroupAnswer, Planned}
use Rattle.planner.proofs.plan.answer.Goals as goal

planned-group : (n : ℕ) (ms : List ℕ) (made : Result GroupRule Unmade) (o : Result Plan Unmade)
    → MatchResult made (λ r. GroupMade n ms × (r.n ≡ n) × (r.masks.items ≡ ms)) (NotMade (GroupMade n ms) (GroupFlaw n ms))
    → Planned (λ r. PlanOf r.n (group_fails r.n (r.masks.items))) made o
    → GroupAnswer n ms o
planned-group n ms (Ok r) (Ok p) h k = (h.0, rw (← h.1, ← h.2) k)
planned-group n ms (Ok r) (Err u) h k = absurd k
planned-group n ms (Err u) o h k = rw k h

pub returns-in-Group : goal.returns-in-Group
returns-in-Group c =
    let made = rw c.as_slice.ensures.value at c.group_rule.ensures in
    rw c.in-Group.is (IfOk-weaker c.planned-in-Group.result _ _ (λ o. planned-group c.in-Group.n c.in-Group.masks.items c.group_rule.result o made) c.planned-in-Group.ensures)
