-- Every pile of patches stands, over every rig and over a mender on every weak rig.
use Rattle.std.proofs.Common.{◌≡◌, ℕ, suc, ◌^◌, ◌<◌, cond, List, [], ◌∷◌, length, get_or, ap, ◌∙◌, arith}
use Rattle.rigs.specs.declared.keys.WireKey.{WireKey}
use Rattle.rigs.specs.declared.keys.TrioKey.{TrioKey}
use Rattle.rigs.specs.Keys.{good_wire, good_trio}
use Rattle.rigs.specs.Lines.{silence, silent, heard_at, each, Wires, Casts, Tellings}
use Rattle.rigs.specs.Laws.{BadWire, Mute, Lawful, WeakLawful}
use Rattle.mender.specs.Mending.{mended}
use Rattle.mender.specs.Mended.{mended-mute, mended-spoken, mended-agreed}
use Rattle.patch.specs.Boxes.{box_of, OneEach, boxes}
use Rattle.patch.specs.Patching.{wire_down, trio_down, patched_wire, patched_trio}
use Rattle.patch.specs.Down.{patched_lawful}
use Rattle.piles.specs.Piles.{pile_wire, pile_trio, box_under, Stands, Pile}
use Rattle.piles.proofs.Composed.{one_each-composed, boxes-lt, wire_floors, trio_floors}
use Rattle.piles.proofs.NoFloors.{one-each-own, wire_no_floors, trio_no_floors}

-- each number of the list is a patch
abbrev pub Patches : List ℕ → Type 0
Patches ps = (k : ℕ) → k < length ps → OneEach (box_of (get_or ps k 0))

first : (p : ℕ) (ps : List ℕ) → Patches (p ∷ ps) → OneEach (box_of p)
first p ps h = h 0 (omega arith)

rest : (p : ℕ) (ps : List ℕ) → Patches (p ∷ ps) → Patches ps
rest p ps h k l = h (suc k) (omega arith)

under_each : (ps : List ℕ) → Patches ps → OneEach (box_under ps)
under_each [] h = one-each-own
under_each (p ∷ ps) h = one_each-composed (box_of p) (box_under ps) (first p ps h) (under_each ps (rest p ps h))

pile-lawful : (ps : List ℕ) → Patches ps → (w : Wires) (h : Casts) → Lawful w h → Lawful (pile_wire ps w) (pile_trio ps h)
pile-lawful [] all w h l = l
pile-lawful (p ∷ ps) all w h l = patched_lawful (box_of p) (first p ps all) (pile_wire ps w) (pile_trio ps h) (pile-lawful ps (rest p ps all) w h l)

pile-wires : (ps : List ℕ) → Patches ps → (w : Wires) → BadWire w → (k : WireKey) (code broken : ℕ) → broken < 2 ^ 16
    → pile_wire ps w k code broken ≡ patched_wire (box_under ps) w k code broken
pile-wires [] all w bad k code broken l = wire_no_floors w bad k code broken l
pile-wires (p ∷ ps) all w bad k code broken l =
    ap (λ x. cond (good_wire k) x silence) (pile-wires ps (rest p ps all) w bad (wire_down (box_of p) k) code (boxes (box_of p) broken) (boxes-lt (box_of p) broken))
    ∙ wire_floors (box_of p) (box_under ps) (first p ps all) (under_each ps (rest p ps all)) w k code broken

pile-trios : (ps : List ℕ) → Patches ps → (h : Casts) → Mute h → (k : TrioKey) (code broken : ℕ) → broken < 2 ^ 16
    → pile_trio ps h k code broken ≡ patched_trio (box_under ps) h k code broken
pile-trios [] all h mute k code broken l = trio_no_floors h mute k code broken l
pile-trios (p ∷ ps) all h mute k code broken l =
    ap (λ x. cond (good_trio k) (each k (λ s. heard_at (trio_down (box_of p) k) x (box_of p s))) silent)
    (pile-trios ps (rest p ps all) h mute (trio_down (box_of p) k) code (boxes (box_of p) broken) (boxes-lt (box_of p) broken))
    ∙ trio_floors (box_of p) (box_under ps) (first p ps all) (under_each ps (rest p ps all)) h k code broken

stands : (ps : List ℕ) → Patches ps → (w : Wires) (h : Casts) → Lawful w h → Stands ps w h
stands ps all w h l = record {
  lawful = pile-lawful ps all w h l;
  wires = pile-wires ps all w l.bad;
  trios = pile-trios ps all h l.mute;
}

-- a mender on a weak rig keeps the laws of a rig
pub mender_lawful : (w : Wires) (torn : Casts) (told : Tellings) → WeakLawful w torn told → Lawful w (mended torn told)
mender_lawful w torn told l = record {
  bad = l.bad;
  kept = l.kept;
  mute = mended-mute torn told;
  spoken = mended-spoken torn told l.spoken;
  agreed = mended-agreed torn told l.spoken l.agreed l.passed;
}

pub pile : (ps : List ℕ) → Patches ps → Pile ps
pile ps all = record {
  over_rig = stands ps all;
  over_mender = λ w torn told l. stands ps all w (mended torn told) (mender_lawful w torn told l);
}
