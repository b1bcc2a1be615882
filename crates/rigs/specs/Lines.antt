-- What lines answer: codes, and what each of three stations hears.
use Rattle.std.specs.Prelude.{ℕ, cond, ◌==◌}
use Rattle.rigs.specs.declared.keys.WireKey.{WireKey}
use Rattle.rigs.specs.declared.keys.TrioKey.{TrioKey}

-- the code of no word
abbrev pub void : ℕ
void = 65534

-- the code of nothing heard
abbrev pub silence : ℕ
silence = 65535

-- what each of the three hears, lowest station first
abbrev pub Trio : Type 0
Trio = ℕ × ℕ × ℕ

-- all three hear nothing
abbrev pub silent : Trio
silent = (silence, silence, silence)

-- what station s of the three has of an answer
abbrev pub heard_at : TrioKey → Trio → ℕ → ℕ
heard_at k h s = cond (s == k.a) h.0 (cond (s == k.b) h.1 h.2)

-- the answer in which each station s of the three hears f s
abbrev pub each : TrioKey → (ℕ → ℕ) → Trio
each k f = (f k.a, f k.b, f k.c)

-- the meaning of a wire: the code that arrives, for each key, code sent and broken set
abbrev pub Wires : Type 0
Wires = WireKey → ℕ → ℕ → ℕ

-- the meaning of a trio line or a torn line: what the three hear, for each key, code spoken and broken set
abbrev pub Casts : Type 0
Casts = TrioKey → ℕ → ℕ → Trio

-- the meaning of a telling: the code that arrives, for each trio key, teller, code told and broken set
abbrev pub Tellings : Type 0
Tellings = TrioKey → ℕ → ℕ → ℕ → ℕ
