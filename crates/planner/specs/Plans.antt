-- Plans: what a hirer is told of a rule.
use Rattle.std.specs.Prelude.{◌≡◌, ℕ, ◌<◌, Bool, List, length, vec_items, Option, Result, Ok, Err, Vec, MatchOption, MatchResult, slice_index_or}
use Rattle.std.specs.declared.alloc.Global.{Global}
use Rattle.refusals.specs.declared.Refusal.TheVariants.{UnlawfulRule}
use Rattle.rules.specs.declared.king.Kings.{Kings}
use Rattle.rules.specs.Count.{count_fails, CountMade}
use Rattle.rules.specs.Group.{group_fails, GroupMade}
use Rattle.rules.specs.declared.flaw.Flaw.{Flaw}
use Rattle.rules.specs.Flaws.{CountFlaw, GroupFlaw}
use Rattle.rules.specs.Kings.{kings_of_station}
use Rattle.planner.specs.declared.plan.Plan.{Plan}
use Rattle.planner.specs.declared.plan.Request.{Request}
use Rattle.planner.specs.declared.plan.Request.TheVariants.{Count, Group}
use Rattle.planner.specs.declared.plan.Unmade.{Unmade}
use Rattle.planner.specs.Largest.{LargestSets}

-- the kings of each of the n stations, at its place
pub record KingsOfAll (n : ℕ) (fails : ℕ → Bool) (all : Vec Kings Global) : Type 0 where
  pub count : length (vec_items all) ≡ n
  pub kings : (c : ℕ) (d : Kings) → c < n → slice_index_or (vec_items all) c d ≡ kings_of_station n fails c

-- the plan of a rule: its stations, the largest sets that can fail, and the kings of each station
pub record PlanOf (n : ℕ) (fails : ℕ → Bool) (p : Plan) : Type 0 where
  pub stations : p.n ≡ n
  pub largest : LargestSets fails (vec_items p.largest)
  pub kings : KingsOfAll n fails p.kings

-- a flaw is named, and what it says holds
abbrev pub Named : Option Flaw → (Flaw → Type 0) → Type 0
Named flaw Holds = MatchOption flaw ⊥ Holds

-- why a rule is not made: its refusal, and a flaw that holds
pub record NotMade (Made : Type 0) (Flawed : Flaw → Type 0) (u : Unmade) : Type 0 where
  pub refusal : u.refusal ≡ UnlawfulRule
  pub none : Made → ⊥
  pub flaw : Named u.flaw Flawed

-- the answer to a request for a rule: its plan where it is made, else the refusal and a flaw
abbrev pub CountAnswer : ℕ → ℕ → Result Plan Unmade → Type 0
CountAnswer n t o = MatchResult o (λ p. CountMade n t × PlanOf n (count_fails n t) p) (NotMade (CountMade n t) (CountFlaw n t))

abbrev pub GroupAnswer : ℕ → List ℕ → Result Plan Unmade → Type 0
GroupAnswer n ms o = MatchResult o (λ p. GroupMade n ms × PlanOf n (group_fails n ms) p) (NotMade (GroupMade n ms) (GroupFlaw n ms))

abbrev pub Answers : Request → Result Plan Unmade → Type 0
Answers (Count n t) o = CountAnswer n t o
Answers (Group n ms) o = GroupAnswer n (vec_items ms) o

-- what is planned of a rule, with P of it and its plan, or why it is not made
abbrev pub Planned : {R : Type 0} → (R → Plan → Type 0) → Result R Unmade → Result Plan Unmade → Type 0
Planned P (Ok r) o = MatchResult o (P r) (λ _. ⊥)
Planned P (Err u) o = o ≡ Err u
