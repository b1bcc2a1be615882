-- The worked cases of rigs: noise at place plus seed 1, and a trio under a patch that turns its first three stations round.
use Rattle.std.specs.Prelude.{◌≡◌, ℕ, ◌+◌, ◌%◌, ◌^◌, true}
use Rattle.rigs.specs.declared.keys.TrioKey.{TrioKey}
use Rattle.rigs.specs.Keys.{good_trio}
use Rattle.rigs.specs.Lines.{Trio, Casts}
use Rattle.rig_kinds.specs.Noises.{noise_sound}
use Rattle.patch.specs.Boxes.{box_of, OneEach, boxes}
use Rattle.patch.specs.Patching.{patched_trio}

-- boxes 2, 1 and 0 under stations 0, 1 and 2, and every other station on the box of its own number
abbrev pub turned : ℕ
turned = 0xFEDCBA9876543012

-- the trio of stations, or boxes, 0, 1 and 2
abbrev pub first_three : ℕ → ℕ → ℕ → TrioKey
first_three take round speaker = record { take = take; round = round; a = 0; b = 1; c = 2; speaker = speaker }

pub record WorkedRigs : Type 0 where
  -- place plus seed 1, as it stands or modulo 2^32, sounds as 40,503
  pub noise : (place seed code : ℕ) → (place + seed) % 2 ^ 32 ≡ 1 → noise_sound seed place code ≡ 40503
  -- the patch is accepted, and has boxes 2, 1 and 0 under stations 0, 1 and 2
  pub accepted : OneEach (box_of turned)
  pub first : box_of turned 0 ≡ 2
  pub second : box_of turned 1 ≡ 1
  pub third : box_of turned 2 ≡ 0
  -- under it the trio 0, 1, 2 hears what boxes 2, 1, 0 heard
  pub trio : (h : Casts) (take round speaker code broken : ℕ) → good_trio (first_three take round speaker) ≡ true
      → let below : Trio = h (first_three take round (box_of turned speaker)) code (boxes (box_of turned) broken) in
      patched_trio (box_of turned) h (first_three take round speaker) code broken ≡ (below.2, below.1, below.0)
