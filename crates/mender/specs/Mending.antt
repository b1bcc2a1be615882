-- What a mender makes of a torn line and a telling.
use Rattle.std.specs.Prelude.{ℕ, cond, ◌==◌}
use Rattle.rigs.specs.declared.keys.TrioKey.{TrioKey}
use Rattle.rigs.specs.Keys.{good_trio, other_than}
use Rattle.rigs.specs.Lines.{Trio, void, silence, silent, heard_at, each, Casts, Tellings}

-- what is told to a listener in silence, or void if that is silence too
abbrev pub or_void : ℕ → ℕ
or_void told = cond (told == silence) void told

-- what s has in the end: h is what the three heard, and tell t x what arrives when t tells x.
-- the speaker keeps what it heard; so does a listener that heard something; one in silence takes what the other tells
abbrev pub mended_at : TrioKey → Trio → (ℕ → ℕ → ℕ) → ℕ → ℕ
mended_at k h tell s =
    cond (s == k.speaker) (heard_at k h s)
    (cond (heard_at k h s == silence) (or_void (tell (other_than k s) (heard_at k h (other_than k s)))) (heard_at k h s))

-- the mended trio line
abbrev pub mended : Casts → Tellings → Casts
mended torn told k code broken = cond (good_trio k) (each k (mended_at k (torn k code broken) (λ t x. told k t x broken))) silent
