-- The meanings of a rig, a rule and a rest word, from the ghost members of their types' traits.
use Rattle.rigs.specs.declared.Wire as wires
use Rattle.rigs.specs.declared.Rig as rigs
use Rattle.rules.specs.declared.Rule as rules
use Rattle.words.specs.declared.WordKind as kinds
use Rattle.agreement.specs.Meanings.{Rule, Rig, Kind, Meaning}

-- what a rule says
abbrev pub rule_of : {Q : Type 0} → rules.Ghosts Q → Q → Rule
rule_of q rule = record { n = q.stations rule; can_fail = q.fails rule }

-- what a rig answers
abbrev pub rig_of : {R : Type 0} → wires.Ghosts R → rigs.Ghosts R → R → Rig
rig_of v g rig = record { wire = v.carried rig; trio = g.heard rig }

-- the table of a word kind
abbrev pub words_of : {K : Type 0} → kinds.Ghosts K → Kind K
words_of k = record { code = k.code; word = k.word }

-- all of it, with the rest word
abbrev pub meaning_of : {R Q K : Type 0} → wires.Ghosts R → rigs.Ghosts R → rules.Ghosts Q → kinds.Ghosts K → R → Q → K → Meaning K
meaning_of v g q k rig rule rest = record { rule = rule_of q rule; rig = rig_of v g rig; kind = words_of k; rest = rest }
