-- The parts of the console's hall: what their types mean.
use Rattle.std.specs.Prelude.{vec_items}
use Rattle.rigs.specs.declared.Wire as wires
use Rattle.rigs.specs.declared.Rig as rigs
use Rattle.rules.specs.declared.Rule as rules
use Rattle.rules.specs.declared.count.CountRule.{CountRule}
use Rattle.rules.specs.Count.{count_fails}
use Rattle.words.specs.declared.WordKind as kinds
use Rattle.words.specs.declared.gate.Gate.{Gate}
use Rattle.words.specs.Gates.{gate_code, gate_word}
use Rattle.rig_kinds.specs.declared.script.ScriptRig.{ScriptRig}
use Rattle.rig_kinds.specs.Plain.{plain_wire, plain_trio}
use Rattle.rig_kinds.specs.Scripts.{script_sound}

-- the wire and the trio line of a script rig
abbrev pub wire : wires.Ghosts ScriptRig
wire = record { carried = λ s. plain_wire (script_sound (vec_items s.list)) }

abbrev pub trio : rigs.Ghosts ScriptRig
trio = record { heard = λ s. plain_trio (script_sound (vec_items s.list)) }

-- the count rule
abbrev pub count : rules.Ghosts CountRule
count = record { stations = λ r. r.n; fails = λ r. count_fails r.n r.t }

-- the gate
abbrev pub gates : kinds.Ghosts Gate
gates = record { size = 2; code = gate_code; word = gate_word }
