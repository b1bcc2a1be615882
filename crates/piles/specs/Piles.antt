-- Piles: patches over patches over a rig, or over a mender on a weak rig.
use Rattle.std.specs.Prelude.{◌≡◌, ℕ, ◌^◌, ◌<◌, List, [], ◌∷◌, length, slice_index}
use Rattle.rigs.specs.declared.keys.WireKey.{WireKey}
use Rattle.rigs.specs.declared.keys.TrioKey.{TrioKey}
use Rattle.rigs.specs.Lines.{Wires, Casts, Tellings}
use Rattle.rigs.specs.Laws.{Lawful, WeakLawful}
use Rattle.mender.specs.Mending.{mended}
use Rattle.patch.specs.Boxes.{Boxes, box_of, Twice}
use Rattle.patch.specs.Patching.{patched_wire, patched_trio}

-- the wire of a pile of patches over the wire w, top floor first
abbrev pub pile_wire : List ℕ → Wires → Wires
pile_wire [] w = w
pile_wire (p ∷ ps) w = patched_wire (box_of p) (pile_wire ps w)

-- the trio line of a pile of patches over the trio line h, top floor first
abbrev pub pile_trio : List ℕ → Casts → Casts
pile_trio [] h = h
pile_trio (p ∷ ps) h = patched_trio (box_of p) (pile_trio ps h)

-- the box at the bottom under each station: the box under its box, and so on down
abbrev pub box_under : List ℕ → Boxes
box_under [] i = i
box_under (p ∷ ps) i = box_under ps (box_of p i)

-- the pile ps over a rig with wire w and trio line h is a rig, and answers each question as one patch by the boxes at the bottom would
pub record Stands (ps : List ℕ) (w : Wires) (h : Casts) : Type 0 where
  pub lawful : Lawful (pile_wire ps w) (pile_trio ps h)
  pub wires : (k : WireKey) (code broken : ℕ) → broken < 2 ^ 16 → pile_wire ps w k code broken ≡ patched_wire (box_under ps) w k code broken
  pub trios : (k : TrioKey) (code broken : ℕ) → broken < 2 ^ 16 → pile_trio ps h k code broken ≡ patched_trio (box_under ps) h k code broken

-- the pile ps stands over every rig, and over a mender on every weak rig
pub record Pile (ps : List ℕ) : Type 0 where
  pub over_rig : (w : Wires) (h : Casts) → Lawful w h → Stands ps w h
  pub over_mender : (w : Wires) (torn : Casts) (told : Tellings) → WeakLawful w torn told → Stands ps w (mended torn told)

-- some number of the list has a digit twice
abbrev pub SomeTwice : List ℕ → Type 0
SomeTwice ps = (k : ℕ) × (k < length ps) × Twice (slice_index ps k)
