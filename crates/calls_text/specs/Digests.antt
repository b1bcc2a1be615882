-- The digest of a sheet: FNV-1a of 32 bits.
use Rattle.std.specs.Prelude.{ℕ, ◌*◌, ◌/◌, ◌%◌, ◌^◌, List, fold, bit_xor}

-- the digest with one byte more
abbrev pub mixed : ℕ → ℕ → ℕ
mixed hash byte = bit_xor hash byte * 16777619 % 2 ^ 32

-- the digest with an entry more, its high byte first
abbrev pub mixed_entry : ℕ → ℕ → ℕ
mixed_entry hash entry = mixed (mixed hash (entry / 256)) (entry % 256)

-- the digest of the entries
unfoldable pub digest_of : List ℕ → ℕ
digest_of entries = fold mixed_entry 2166136261 entries
