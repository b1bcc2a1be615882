-- A rig taken as a weak rig.
use Rattle.std.specs.Prelude.{ℕ, cond}
use Rattle.rigs.specs.declared.keys.WireKey.{WireKey}
use Rattle.rigs.specs.declared.keys.TrioKey.{TrioKey}
use Rattle.rigs.specs.Keys.{good_tell, other_than}
use Rattle.rigs.specs.Lines.{silence, Wires, Tellings}

-- the wire from the teller t to the other listener
abbrev pub tell_wire : TrioKey → ℕ → WireKey
tell_wire k t = record { take = k.take; round = k.round; from = t; «to» = other_than k t }

-- a telling by the wire to the other listener
abbrev pub slack_told : Wires → Tellings
slack_told w k t code broken = cond (good_tell k t) (w (tell_wire k t) code broken) silence
