-- What a round leaves of codes and lamps.
use Rattle.std.specs.Prelude.{ℕ}
use Rattle.sets.specs.Sets.{has}
use Rattle.agreement.specs.declared.stage.RoundKind.{RoundKind}
use Rattle.agreement.specs.Meanings.{Rule}
use Rattle.agreement.specs.Rounds.{Setting, held_after}
use Rattle.agreement.specs.Sheets.{sixteen, lamps_after}
use Rattle.rounds.specs.declared.outcome.Outcome.{Outcome}

-- what all stations hold after a round of this kind, and which lamps are lit, where those of `lit` were lit before it
unfoldable pub outcome_of : RoundKind → Rule → Setting → ℕ → ℕ → ℕ → Outcome
outcome_of kind R e rest caller lit =
    record { held = sixteen R.n (held_after kind R e rest caller (has lit)); lamps = lamps_after kind R e rest lit }
