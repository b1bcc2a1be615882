-- Lines on which a good speaker is heard as spoken, and a broken one as some sound.
use Rattle.std.specs.Prelude.{ℕ, Bool, cond}
use Rattle.sets.specs.Sets.{has}
use Rattle.rigs.specs.Keys.{good_wire, good_trio, good_tell, wire_place, trio_place}
use Rattle.rigs.specs.Lines.{silence, silent, each, Wires, Casts, Tellings}

-- what a broken speaker is heard as, from the place of the key and the code spoken
abbrev pub Sound : Type 0
Sound = ℕ → ℕ → ℕ

-- what a speaker, broken or not, is heard as
abbrev pub heard_as : Sound → Bool → ℕ → ℕ → ℕ
heard_as f broken place code = cond broken (f place code) code

-- a wire with the sound f
abbrev pub plain_wire : Sound → Wires
plain_wire f k code broken = cond (good_wire k) (heard_as f (has broken k.from) (wire_place k) code) silence

-- a trio line with the sound f: all three hear the speaker alike
abbrev pub plain_trio : Sound → Casts
plain_trio f k code broken = cond (good_trio k) (each k (λ s. heard_as f (has broken k.speaker) (trio_place k k.speaker) code)) silent

-- a telling with the sound f
abbrev pub plain_told : Sound → Tellings
plain_told f k t code broken = cond (good_tell k t) (heard_as f (has broken t) (trio_place k t) code) silence
