-- A rig with boxes under its stations: questions go down as boxes, answers come up in station order.
use Rattle.std.specs.Prelude.{cond}
use Rattle.rigs.specs.declared.keys.WireKey.{WireKey}
use Rattle.rigs.specs.declared.keys.TrioKey.{TrioKey}
use Rattle.rigs.specs.Keys.{good_wire, good_trio}
use Rattle.rigs.specs.Lines.{silence, silent, heard_at, each, Wires, Casts}
use Rattle.patch.specs.Boxes.{Boxes, boxes, low3, mid3, high3}

-- the wire key of the boxes under a wire's stations
abbrev pub wire_down : Boxes → WireKey → WireKey
wire_down f k = record { take = k.take; round = k.round; from = f k.from; «to» = f k.«to» }

-- the trio key of the boxes under three stations, in box order
abbrev pub trio_down : Boxes → TrioKey → TrioKey
trio_down f k = record {
  take = k.take;
  round = k.round;
  a = low3 (f k.a) (f k.b) (f k.c);
  b = mid3 (f k.a) (f k.b) (f k.c);
  c = high3 (f k.a) (f k.b) (f k.c);
  speaker = f k.speaker;
}

-- a wire over boxes: the broken set goes down as boxes too
abbrev pub patched_wire : Boxes → Wires → Wires
patched_wire f w k code broken = cond (good_wire k) (w (wire_down f k) code (boxes f broken)) silence

-- a trio line over boxes: each station hears what its box heard
abbrev pub patched_trio : Boxes → Casts → Casts
patched_trio f h k code broken =
    cond (good_trio k) (each k (λ s. heard_at (trio_down f k) (h (trio_down f k) code (boxes f broken)) (f s))) silent
