-- The scene: a bank 0 to 15 and a slot 0 to 63, with code 64 x bank + slot.
use Rattle.std.specs.Prelude.{ℕ, ◌+◌, ◌*◌, ◌/◌, ◌%◌, ◌<◌, cond, Some, None, Option, nat_lt}
use Rattle.std.proofs.Common.{arith}
use Rattle.words.specs.declared.scene.Scene.{Scene}

-- the parts that make a scene
abbrev pub SceneMade : ℕ → ℕ → Type 0
SceneMade bank slot = (bank < 16) × (slot < 64)

-- the code of each word
abbrev pub scene_code : Scene → ℕ
scene_code s = 64 * s.bank + s.slot

-- the scene with a code's bank and slot
unfoldable pub scene_at : ℕ → Scene
scene_at x = record { bank = x / 64 % 16; slot = x % 64; bank_low = omega arith; slot_low = omega arith }

-- the word of each code
abbrev pub scene_word : ℕ → Option Scene
scene_word x = cond (nat_lt x 1024) (Some (scene_at x)) None
