-- Whether the good ones of three stations hear the same.
use Rattle.std.specs.Prelude.{ℕ, Bool, ◌&&◌, ◌||◌, ◌==◌}
use Rattle.sets.specs.Sets.{has}
use Rattle.rigs.specs.declared.keys.TrioKey.{TrioKey}
use Rattle.rigs.specs.Lines.{Trio}

-- s heard x and t heard y: one of them is broken, or they heard the same
abbrev pub pair_alike : ℕ → ℕ → ℕ → ℕ → ℕ → Bool
pair_alike broken s x t y = (has broken s || has broken t) || x == y

-- the same of each two of the three
abbrev pub alike : TrioKey → ℕ → Trio → Bool
alike k broken h = (pair_alike broken k.a h.0 k.b h.1 && pair_alike broken k.b h.1 k.c h.2) && pair_alike broken k.a h.0 k.c h.2
