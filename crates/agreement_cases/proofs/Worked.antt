-- The worked cues, by computing the definitions.
use Rattle.std.proofs.Common.{[], ◌∷◌, refl, arith}
use Rattle.sets.specs.Sets.{has, mask_of, every, any, smallest, count_of, among}
use Rattle.rules.specs.Kings.{others_below, first_others, king_count}
use Rattle.rig_kinds.specs.Scripts.{entry_at}
use Rattle.agreement.specs.Rounds.{fails, reading, wire_reading, majority, lowest, highest, middle, hearing, vote_in, vote, unanimous, weak_test, weak_held, in_y, graded_held, graded_lit, wired_to, caller_held, king_held, kings, last_round, kind_of, held_after, lit_after}
use Rattle.agreement.specs.Sheets.{filled, sixteen, lamps_after}
use Rattle.agreement.specs.Calls.{holds, marked, with_broken, blank, stage_after, refusal, taken, opened, setting_of, advanced, effect, next, after}
use Rattle.agreement_cases.specs.Cases.{gates, rounds, held_by, Majorities, OneEntry, TwoEntries, FourEntries}
use Rattle.agreement_cases.specs.Mistakes.{OneLampLit}
use Rattle.agreement_cases.proofs.Decided.{gates-lawful}

pub majorities : Majorities
unfolding majority
majorities = record { two = refl; none = refl; voids = refl }

pub one_entry : OneEntry
unfolding held_by has mask_of every any smallest count_of among others_below first_others king_count entry_at fails reading wire_reading majority lowest highest middle hearing vote_in vote unanimous weak_test weak_held in_y graded_held graded_lit wired_to caller_held king_held kings last_round kind_of held_after lit_after filled sixteen lamps_after holds marked with_broken blank stage_after refusal taken opened setting_of advanced effect next after gates rounds
one_entry = record { ends = refl; graded = refl; lit = refl }

pub two-entries : TwoEntries
unfolding held_by has mask_of every any smallest count_of among others_below first_others king_count entry_at fails reading wire_reading majority lowest highest middle hearing vote_in vote unanimous weak_test weak_held in_y graded_held graded_lit wired_to caller_held king_held kings last_round kind_of held_after lit_after filled sixteen lamps_after holds marked with_broken blank stage_after refusal taken opened setting_of advanced effect next after gates rounds
two-entries = record { hold = refl; hold_graded = refl; hold_lit = refl; go = refl; go_graded = refl; go_lit = refl }

pub four_entries : FourEntries
unfolding held_by has mask_of every any smallest count_of among others_below first_others king_count entry_at fails reading wire_reading majority lowest highest middle hearing vote_in vote unanimous weak_test weak_held in_y graded_held graded_lit wired_to caller_held king_held kings last_round kind_of held_after lit_after filled sixteen lamps_after holds marked with_broken blank stage_after refusal taken opened setting_of advanced effect next after gates rounds
four_entries = record { voids = refl; ends = refl; graded = refl; lit = refl }

pub one-lamp-lit : OneLampLit
unfolding held_by has mask_of every any smallest count_of among others_below first_others king_count entry_at fails reading wire_reading majority lowest highest middle hearing vote_in vote unanimous weak_test weak_held in_y graded_held graded_lit wired_to caller_held king_held kings last_round kind_of held_after lit_after filled sixteen lamps_after holds marked with_broken blank stage_after refusal taken opened setting_of advanced effect next after gates rounds
one-lamp-lit = record { lawful = gates-lawful 5 2 (0 ∷ (7 ∷ (1 ∷ []))) ((omega arith, omega arith), omega arith, omega arith); held = refl; lit = refl; turned = refl }
