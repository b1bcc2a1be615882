-- What the script rig reads: a list of 16-bit entries.
use Rattle.std.specs.Prelude.{ℕ, ◌%◌, cond, List, length, Some, None, Option, ◌==◌, slice_index}
use Rattle.std.specs.Option.{unwrap_or}
use Rattle.rig_kinds.specs.Plain.{Sound}

-- the entry at place modulo length, or none where the list is empty
unfoldable pub entry_at : List ℕ → ℕ → Option ℕ
entry_at list place = cond (length list == 0) None (Some (slice_index list (place % length list)))

-- a broken speaker is heard as the entry for its place, or as spoken where the list is empty
abbrev pub script_sound : List ℕ → Sound
script_sound list place code = unwrap_or (entry_at list place) code
