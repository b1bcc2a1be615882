-- Keys of questions: which are good, and the place of each.
use Rattle.std.specs.Prelude.{ℕ, ◌+◌, ◌*◌, Bool, cond, not, ◌&&◌, ◌||◌, ◌==◌, nat_le, nat_lt}
use Rattle.rigs.specs.declared.keys.WireKey.{WireKey}
use Rattle.rigs.specs.declared.keys.TrioKey.{TrioKey}

-- a round is one of 1 to 64
abbrev pub good_round : ℕ → Bool
good_round r = nat_le 1 r && nat_le r 64

-- a wire key is good: its round is, and from and to are two different stations below 16
abbrev pub good_wire : WireKey → Bool
good_wire k = ((good_round k.round && nat_lt k.from 16) && nat_lt k.«to» 16) && not (k.from == k.«to»)

-- s is one of the three stations
abbrev pub in_trio : TrioKey → ℕ → Bool
in_trio k s = (s == k.a || s == k.b) || s == k.c

-- a trio key is good: its round is, a < b < c are below 16, and the speaker is one of the three
abbrev pub good_trio : TrioKey → Bool
good_trio k = (((good_round k.round && nat_lt k.a k.b) && nat_lt k.b k.c) && nat_lt k.c 16) && in_trio k k.speaker

-- the key of a telling by t is good: the trio key is, and t is one of the two listeners
abbrev pub good_tell : TrioKey → ℕ → Bool
good_tell k t = (good_trio k && in_trio k t) && not (t == k.speaker)

-- the one of the three that is neither the speaker nor t
abbrev pub other_than : TrioKey → ℕ → ℕ
other_than k t =
    cond (not (k.a == k.speaker) && not (k.a == t)) k.a
    (cond (not (k.b == k.speaker) && not (k.b == t)) k.b k.c)

-- the position of s among the three, from 0 for the lowest station to 2 for the highest
abbrev pub position_of : TrioKey → ℕ → ℕ
position_of k s = cond (s == k.a) 0 (cond (s == k.b) 1 2)

-- the place of a wire key
abbrev pub wire_place : WireKey → ℕ
wire_place k = k.take + 16384 * k.round + 16 * k.from + k.«to»

-- the place of a trio key, with the position of the speaker s, or of the teller s in a telling
abbrev pub trio_place : TrioKey → ℕ → ℕ
trio_place k s = k.take + 16384 * k.round + 1024 * k.a + 64 * k.b + 4 * k.c + position_of k s
