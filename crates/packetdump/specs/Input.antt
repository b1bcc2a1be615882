-- What a stream of sizes and packets gives next. Assumes nothing.
use Rattle.std.specs.Prelude.{◌≡◌, ℕ, List, [], length, ◌≢◌, Option, Some, None, Result, Ok, Err}
use Rattle.packets.specs.Stream.{PacketSize, Announces}
use Rattle.packetdump.specs.declared.input.Ending.{Ending}
use Rattle.packetdump.specs.declared.input.Ending.TheVariants.{Size, InSize, InPacket, Io}

-- what the place of a size holds, where these of its four bytes came before the stream ended:
-- one's size, the end of the stream, four bytes that are no packet's size, or a part of a size
abbrev pub HeadOf : List ℕ → Result (Option ℕ) Ending → Type 0
HeadOf bytes (Ok (Some n)) = Announces bytes n
HeadOf bytes (Ok None) = bytes ≡ []
HeadOf bytes (Err Size) = (length bytes ≡ 4) × ((n : ℕ) → Announces bytes n → ⊥)
HeadOf bytes (Err InSize) = (length bytes ≢ 0) × (length bytes ≢ 4)
HeadOf bytes (Err InPacket) = ⊥
HeadOf bytes (Err (Io e)) = ⊥

-- a packet that was taken has a size that packets have
abbrev pub Sized : Option ℕ → Type 0
Sized (Some n) = PacketSize n
Sized None = Unit {0}
