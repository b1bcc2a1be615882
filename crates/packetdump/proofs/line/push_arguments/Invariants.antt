use Rattle.std.proofs.Common.{◌≡◌, List, ◌++◌, string_bytes}
use Rattle.std.specs.List.{flat_map}
use Rattle.packets.specs.Osc.{Value}
use Rattle.packets.specs.Read.{Left, left_count}
use Rattle.packetdump.specs.Lines.{argument_bytes}
use Rattle.packetdump.proofs.line.push_arguments.Given as goal

-- what is shown, and what is left to show, are all arguments
abbrev pub invariant-loop-argument : goal.invariant-loop-argument
invariant-loop-argument l = (vs : List Value) → Left l.initial.message vs → (ws : List Value) × (Left l.message ws × (string_bytes l.line ++ flat_map argument_bytes ws ≡ string_bytes l.initial.line ++ flat_map argument_bytes vs))

abbrev pub decreases-loop-argument : goal.decreases-loop-argument
decreases-loop-argument l = left_count l.message
