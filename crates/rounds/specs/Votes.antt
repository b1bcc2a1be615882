-- What the three stations of a trio read, and what they have of it.
use Rattle.std.specs.Prelude.{ℕ}
use Rattle.rigs.specs.Lines.{Trio}
use Rattle.agreement.specs.Rounds.{Setting, reading, trio_key, vote_in}

-- how a, b and c read what s says in their trio
unfoldable pub readings_of : Setting → ℕ → ℕ → ℕ → ℕ → Trio
readings_of e a b c s = (
  reading e.words (e.rig.trio (trio_key e a b c s) (e.held s) e.broken).0,
  reading e.words (e.rig.trio (trio_key e a b c s) (e.held s) e.broken).1,
  reading e.words (e.rig.trio (trio_key e a b c s) (e.held s) e.broken).2,
)

-- what a, b and c have of their trio
unfoldable pub votes_of : Setting → ℕ → ℕ → ℕ → Trio
votes_of e a b c = (vote_in e a b c a, vote_in e a b c b, vote_in e a b c c)
