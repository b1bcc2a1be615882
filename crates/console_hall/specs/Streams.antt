-- What stands next in a stream of packets, by the bytes that came so far.
use Rattle.std.specs.Prelude.{◌≡◌, ℕ, ◌+◌, ◌<◌, ◌≤◌, ◌⊎◌, List, length, take, Some, None, Option}
use Rattle.refusals.specs.declared.Refusal.{Refusal}
use Rattle.refusals.specs.declared.Refusal.TheVariants.{BrokenLayout}
use Rattle.packets.specs.Stream.{Announces}

-- the bytes begin with a size n and a packet of n bytes
pub record Whole (bytes : List ℕ) (n : ℕ) : Type 0 where
  pub size : Announces (take 4 bytes) n
  pub there : 4 + n ≤ length bytes

-- the bytes end inside a size, or behind a size inside its packet
abbrev pub Cut : List ℕ → Type 0
Cut bytes = (length bytes < 4) ⊎ ((n : ℕ) × (Announces (take 4 bytes) n × (length bytes < 4 + n)))

-- a packet, or more has to come
abbrev pub Coming : List ℕ → Option ℕ → Type 0
Coming bytes (Some n) = Whole bytes n
Coming bytes None = Cut bytes

-- the bytes begin with four that are no size
pub record Unannounced (bytes : List ℕ) (e : Refusal) : Type 0 where
  pub is : e ≡ BrokenLayout
  pub none : (n : ℕ) → Announces (take 4 bytes) n → ⊥
  pub some : 4 ≤ length bytes
