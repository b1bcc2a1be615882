-- The torn line over a list: a broken speaker is not heard everywhere.
use Rattle.std.specs.Prelude.{ℕ, ◌+◌, ◌%◌, cond, List, Some, None, Option}
use Rattle.sets.specs.Sets.{has}
use Rattle.rigs.specs.Keys.{good_trio, trio_place}
use Rattle.rigs.specs.Lines.{Trio, silence, silent, Casts}
use Rattle.rig_kinds.specs.Scripts.{entry_at}

-- a broken speaker with entry e at position j: silence where bit 13 + j of e is set, else e modulo 8,192
abbrev pub torn_at : ℕ → ℕ → ℕ
torn_at e j = cond (has e (13 + j)) silence (e % 8192)

-- a broken speaker with an entry, or with none: an empty list tears nothing
abbrev pub torn_sound : Option ℕ → ℕ → Trio
torn_sound (Some e) code = (torn_at e 0, torn_at e 1, torn_at e 2)
torn_sound None code = (code, code, code)

-- the torn line over a list
abbrev pub torn_line : List ℕ → Casts
torn_line list k code broken =
    cond (good_trio k) (cond (has broken k.speaker) (torn_sound (entry_at list (trio_place k k.speaker)) code) (code, code, code)) silent
