use Rattle.agreement_cases.proofs.Worked.{majorities, one_entry, two-entries, four_entries}
use Rattle.agreement_cases.proofs.cases_hold.Goals as goal

pub returns : goal.returns
returns c = record { value = c.rule_is_made.ensures; majorities = majorities; one = one_entry; two = two-entries; four = four_entries }
