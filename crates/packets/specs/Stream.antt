-- Packets in a stream: each stands behind a size of four bytes. Assumes nothing.
use Rattle.std.specs.Prelude.{◌≡◌, ℕ, ◌%◌, ◌≤◌, List, Result, MatchResult}
use Rattle.refusals.specs.declared.Refusal.{Refusal}
use Rattle.refusals.specs.declared.Refusal.TheVariants.{BrokenLayout}
use Rattle.packets.specs.Osc.{word}

-- a size that a packet may have: a multiple of 4 from 4 to 4,096
pub record PacketSize (n : ℕ) : Type 0 where
  pub low : 4 ≤ n
  pub high : n ≤ 4096
  pub whole : n % 4 ≡ 0

-- the four bytes are a size that a packet may have, the highest byte first
pub record Announces (head : List ℕ) (n : ℕ) : Type 0 where
  pub bytes : head ≡ word n
  pub size : PacketSize n

-- what four bytes of a stream are answered: the size that they are, or 8 where they are none
abbrev pub SizeOf : List ℕ → Result ℕ Refusal → Type 0
SizeOf head r = MatchResult r (Announces head) (λ e. (e ≡ BrokenLayout) × ((n : ℕ) → Announces head n → ⊥))
