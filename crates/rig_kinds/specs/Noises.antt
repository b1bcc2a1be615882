-- What the noise rig makes of a seed.
use Rattle.std.specs.Prelude.{ℕ, ◌+◌, ◌*◌, ◌/◌, ◌%◌, ◌^◌}
use Rattle.rig_kinds.specs.Plain.{Sound}

-- a broken speaker is heard as (place + seed) x 2,654,435,761 modulo 2^32, divided by 65,536 without the fraction
abbrev pub noise_sound : ℕ → Sound
noise_sound seed place code = (place + seed) * 2654435761 % 2 ^ 32 / 65536
