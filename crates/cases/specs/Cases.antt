-- Worked cases: what the definitions give at numbers that a reader can check by hand.
use Rattle.std.specs.Prelude.{◌≡◌, ℕ, List, [], ◌∷◌, Ok, Err}
use Rattle.refusals.specs.declared.Refusal.TheVariants.{UnlawfulRule, NoSuchStation}
use Rattle.refusals.specs.Refusals.{number_of}
use Rattle.rules.specs.Count.{CountMade}
use Rattle.rules.specs.Group.{group_fails, GroupMade}
use Rattle.rules.specs.Kings.{kings_of, rounds_of}
use Rattle.rig_cases.specs.Worked.{WorkedRigs}
use Rattle.agreement_cases.specs.Cases.{Majorities, OneEntry, TwoEntries, FourEntries}

-- the groups {0,1,2} and {3,4}
abbrev pub trio_and_pair : List ℕ
trio_and_pair = 7 ∷ 24 ∷ []

-- Count rules of n stations of which any t may be broken: which numbers make one. Those that do not are refused with 5.
pub record CountCases : Type 0 where
  pub five_two : CountMade 5 2
  pub sixteen_seven : CountMade 16 7
  pub four_two : CountMade 4 2 → ⊥
  pub sixteen_eight : CountMade 16 8 → ⊥
  pub three_none : CountMade 3 0 → ⊥
  pub refused : number_of UnlawfulRule ≡ 5

-- Group rules of six stations: {0,1,2} and {3,4} make one; {0,1,2} with {3,4,5} do not, nor does {0,1,2,3,4}.
pub record GroupCases : Type 0 where
  pub trio_and_pair_lem : GroupMade 6 trio_and_pair
  pub two_trios : GroupMade 6 (7 ∷ 56 ∷ []) → ⊥
  pub all_but_one : GroupMade 6 (31 ∷ []) → ⊥

-- Under the first of these, caller 0 has kings 1, 2, 3 and ten rounds, caller 5 has king 0 and four, and 6 is no station.
pub record KingCases : Type 0 where
  pub of_zero : kings_of 6 (group_fails 6 trio_and_pair) 0 ≡ Ok (record { caller = 0; set = 14; count = 3 })
  pub rounds_of_zero : rounds_of 3 ≡ 10
  pub of_five : kings_of 6 (group_fails 6 trio_and_pair) 5 ≡ Ok (record { caller = 5; set = 1; count = 1 })
  pub rounds_of_five : rounds_of 1 ≡ 4
  pub of_six : kings_of 6 (group_fails 6 trio_and_pair) 6 ≡ Err NoSuchStation

-- The whole list: rules and kings, rigs, votes, and the worked cues of three gates with a broken caller.
pub record WorkedCases : Type 0 where
  pub count : CountCases
  pub group : GroupCases
  pub kings : KingCases
  pub rigs : WorkedRigs
  pub votes : Majorities
  pub cue_of_one : OneEntry
  pub cue_of_two : TwoEntries
  pub cue_of_four : FourEntries
