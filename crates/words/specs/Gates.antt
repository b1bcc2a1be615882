-- The gate: HOLD as 0 and GO as 1.
use Rattle.std.specs.Prelude.{ℕ, cond, Some, None, Option, ◌==◌}
use Rattle.words.specs.declared.gate.Gate.{Gate}
use Rattle.words.specs.declared.gate.Gate.TheVariants.{Hold, Go}

-- the code of each word
abbrev pub gate_code : Gate → ℕ
gate_code Hold = 0
gate_code Go = 1

-- the word of each code
abbrev pub gate_word : ℕ → Option Gate
gate_word x = cond (x == 0) (Some Hold) (cond (x == 1) (Some Go) None)
