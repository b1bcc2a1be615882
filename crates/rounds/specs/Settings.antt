-- What a round starts from, as the setting that the definitions of rounds speak of.
use Rattle.std.specs.Prelude.{ℕ, Bool, slice_index}
use Rattle.rigs.specs.Lines.{Wires, Casts}
use Rattle.agreement.specs.Meanings.{Rig}
use Rattle.agreement.specs.Rounds.{Setting}
use Rattle.rounds.specs.declared.start.Start.{Start}

-- a rig of this wire and this trio line
abbrev pub lines : Wires → Casts → Rig
lines w h = record { wire = w; trio = h }

-- the setting of a round on this rig, where the codes that pass `words` are words
abbrev pub setting_from : Rig → (ℕ → Bool) → Start → Setting
setting_from G words s = record { rig = G; words = words; take = s.take; round = s.round; broken = s.broken; held = λ p. slice_index s.held p }
