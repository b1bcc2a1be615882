use Rattle.settings.proofs.making.rule_of.Goals as goal

pub returns-in-Group : goal.returns-in-Group
returns-in-Group c = rw c.in-Group.is (rw c.as_slice.ensures.value at c.group_rule.ensures)
