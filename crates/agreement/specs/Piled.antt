-- Rigs in piles: patches over patches over a rig, or over a mender on a weak rig.
use Rattle.std.specs.Prelude.{ℕ, ◌<◌, List, length, slice_index}
use Rattle.rigs.specs.Lines.{Wires, Casts, Tellings}
use Rattle.mender.specs.Mending.{mended}
use Rattle.patch.specs.Boxes.{box_of, OneEach}
use Rattle.piles.specs.Piles.{pile_wire, pile_trio}
use Rattle.agreement.specs.Meanings.{Rig, Meaning}

-- each number of the list is a patch: its sixteen digits are sixteen boxes
abbrev pub Patches : List ℕ → Type 0
Patches ps = (k : ℕ) → k < length ps → OneEach (box_of (slice_index ps k))

-- the rig of these patches, the top one first, over a rig
abbrev pub piled : List ℕ → Rig → Rig
piled ps rig = record { wire = pile_wire ps rig.wire; trio = pile_trio ps rig.trio }

-- the rig of a mender over a weak rig, which has a wire, a torn line and a telling
abbrev pub mender_on : Wires → Casts → Tellings → Rig
mender_on w torn told = record { wire = w; trio = mended torn told }

-- the same rule, words and rest word with another rig
abbrev pub with_rig : {W : Type 0} → Meaning W → Rig → Meaning W
with_rig m other = record { rule = m.rule; rig = other; kind = m.kind; rest = m.rest }
