-- Scenes and their codes.
use Rattle.std.specs.Prelude.{◌≡◌, ℕ, ◌<◌}
use mathlib.Core.HLevel.{is_prop→PathP}
use Rattle.std.proofs.Common.{arith}
use Rattle.std.proofs.Math.Bridge.{le_prop}
use Rattle.words.specs.declared.scene.Scene.{Scene}
use Rattle.words.specs.Scenes.{scene_at, scene_code}

-- two scenes with one bank and one slot are one
pub same_parts : (s t : Scene) → s.bank ≡ t.bank → s.slot ≡ t.slot → s ≡ t
same_parts s t e f = λ i. record {
  bank = e i;
  slot = f i;
  bank_low = is_prop→PathP (λ k. e k < 16) (λ k. le_prop) s.bank_low t.bank_low i;
  slot_low = is_prop→PathP (λ k. f k < 64) (λ k. le_prop) s.slot_low t.slot_low i;
}

-- a scene is the one with its code's bank and slot
pub at_code : (s : Scene) → scene_at (scene_code s) ≡ s
unfolding scene_at
at_code s = same_parts (scene_at (scene_code s)) s (omega (arith, s.bank_low, s.slot_low)) (omega (arith, s.bank_low, s.slot_low))

pub code_at : (x : ℕ) → x < 1024 → scene_code (scene_at x) ≡ x
unfolding scene_at
code_at x l = omega arith
