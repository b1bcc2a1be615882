-- Lines of settings.
use Rattle.std.specs.Prelude.{◌≡◌, ℕ, true, ◌||◌, List, length, nat_le}
use Rattle.scan.specs.Steps.{stands_at}

-- the text is read up to its end or a comment
abbrev pub Ended : List ℕ → ℕ → Type 0
Ended text at = (nat_le (length text) at || stands_at text at 35) ≡ true
