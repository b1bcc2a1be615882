-- The worked cases, by computation and by the laws of the rules.
use Rattle.std.proofs.Common.{ℕ, zero, suc, ◌+◌, ◌<◌, ◌≤◌, false, [], ◌∷◌, length, get_or, refl, arith}
use Rattle.std.proofs.lemmas.Bool.{both_ways}
use Rattle.sets.specs.Sets.{has, mask_of, count_of, members, every, smallest, inside, among, Whole}
use Rattle.rules.specs.Making.{NoneCompletes, Sound}
use Rattle.rules.specs.Kings.{others_below, first_others, king_count}
use Rattle.rules.specs.GroupLaws.{sound_below, sound_apart, not-together, not_one_missing}
use Rattle.rig_cases.proofs.Shown.{worked}
use Rattle.agreement_cases.proofs.Worked.{majorities, one_entry, two-entries, four_entries}
use Rattle.cases.specs.Cases.{trio_and_pair, CountCases, GroupCases, KingCases, WorkedCases}

count_cases : CountCases
count_cases =
    record {
      five_two = ((omega arith, omega arith), omega arith, omega arith);
      sixteen_seven = ((omega arith, omega arith), omega arith, omega arith);
      four_two = λ m. omega (arith, m.2);
      sixteen_eight = λ m. omega (arith, m.2);
      three_none = λ m. omega (arith, m.1);
      refused = refl;
    }

each_sound : (k : ℕ) → k < length trio_and_pair → Sound 6 trio_and_pair (get_or trio_and_pair k 0)
unfolding has count_of
each_sound zero h = (omega arith, omega arith, none)
  where
    none : NoneCompletes 6 trio_and_pair 7
    none zero q w = both_ways false refl (w 3 (omega arith))
    none (suc zero) q w = both_ways false refl (w 5 (omega arith))
    none (suc (suc k)) q w = omega arith
each_sound (suc zero) h = (omega arith, omega arith, none)
  where
    none : NoneCompletes 6 trio_and_pair 24
    none zero q w = both_ways false refl (w 5 (omega arith))
    none (suc zero) q w = both_ways false refl (w 0 (omega arith))
    none (suc (suc k)) q w = omega arith
each_sound (suc (suc k)) h = absurd (omega arith)

trios-whole : Whole 6 7 56
unfolding has
trios-whole zero h = refl
trios-whole (suc zero) h = refl
trios-whole (suc (suc zero)) h = refl
trios-whole (suc (suc (suc zero))) h = refl
trios-whole (suc (suc (suc (suc zero)))) h = refl
trios-whole (suc (suc (suc (suc (suc zero))))) h = refl
trios-whole (suc (suc (suc (suc (suc (suc i)))))) h = absurd (omega arith)

five-members : 6 ≤ members 31 + 1
unfolding has count_of
five-members = omega arith

pub group_cases : GroupCases
group_cases =
    record {
      trio_and_pair_lem = ((omega arith, omega arith), omega arith, sound_below 6 (omega arith) trio_and_pair (omega arith) each_sound, sound_apart 6 (omega arith) trio_and_pair (omega arith) each_sound);
      two_trios = λ m. not-together 6 (omega arith) (7 ∷ 56 ∷ []) m.2 m.3 7 56 (0, omega arith, refl) (1, omega arith, refl) trios-whole;
      all_but_one = λ m. not_one_missing 6 (omega arith) (31 ∷ []) m.2 m.3 31 (0, omega arith, refl) five-members;
    }

king_cases : KingCases
unfolding others_below first_others king_count has mask_of count_of every smallest inside among
king_cases = record { of_zero = refl; rounds_of_zero = refl; of_five = refl; rounds_of_five = refl; of_six = refl }

pub shown : WorkedCases
shown =
    record {
      count = count_cases;
      group = group_cases;
      kings = king_cases;
      rigs = worked;
      votes = majorities;
      cue_of_one = one_entry;
      cue_of_two = two-entries;
      cue_of_four = four_entries;
    }
