-- The laws of wires, trio lines, torn lines and tellings, said of their meanings.
use Rattle.std.specs.Prelude.{◌≡◌, ℕ, true, false, ◌≢◌}
use Rattle.sets.specs.Sets.{has}
use Rattle.rigs.specs.declared.keys.WireKey.{WireKey}
use Rattle.rigs.specs.declared.keys.TrioKey.{TrioKey}
use Rattle.rigs.specs.Keys.{good_wire, good_trio, good_tell, in_trio, other_than}
use Rattle.rigs.specs.Lines.{silence, silent, heard_at, Wires, Casts, Tellings}

-- a wire answers a bad key by silence
abbrev pub BadWire : Wires → Type 0
BadWire w = (k : WireKey) (code broken : ℕ) → good_wire k ≡ false → w k code broken ≡ silence

-- on a good key, between two good stations, the code sent arrives
abbrev pub Kept : Wires → Type 0
Kept w = (k : WireKey) (code broken : ℕ) → good_wire k ≡ true → has broken k.from ≡ false → has broken k.«to» ≡ false → w k code broken ≡ code

-- a trio line or a torn line answers a bad key by silence, three times
abbrev pub Mute : Casts → Type 0
Mute h = (k : TrioKey) (code broken : ℕ) → good_trio k ≡ false → h k code broken ≡ silent

-- on a good key a good speaker is heard as spoken by every good station of the three, himself too, unless he speaks silence
abbrev pub Spoken : Casts → Type 0
Spoken h = (k : TrioKey) (code broken s : ℕ) → good_trio k ≡ true → (code ≢ silence) → has broken k.speaker ≡ false → in_trio k s ≡ true → has broken s ≡ false → heard_at k (h k code broken) s ≡ code

-- on a good key all good stations of the three hear the same, unless silence is spoken
abbrev pub Agreed : Casts → Type 0
Agreed h = (k : TrioKey) (code broken s t : ℕ) → good_trio k ≡ true → (code ≢ silence) → in_trio k s ≡ true → has broken s ≡ false → in_trio k t ≡ true → has broken t ≡ false → heard_at k (h k code broken) s ≡ heard_at k (h k code broken) t

-- the same of two good stations neither of which hears silence
abbrev pub Untorn : Casts → Type 0
Untorn h = (k : TrioKey) (code broken s t : ℕ) → good_trio k ≡ true → (code ≢ silence) → in_trio k s ≡ true → has broken s ≡ false → in_trio k t ≡ true → has broken t ≡ false → (heard_at k (h k code broken) s ≢ silence) → (heard_at k (h k code broken) t ≢ silence) → heard_at k (h k code broken) s ≡ heard_at k (h k code broken) t

-- a telling answers a bad key by silence
abbrev pub BadTelling : Tellings → Type 0
BadTelling told = (k : TrioKey) (t code broken : ℕ) → good_tell k t ≡ false → told k t code broken ≡ silence

-- on a good key, between two good listeners, the code told arrives
abbrev pub Passed : Tellings → Type 0
Passed told = (k : TrioKey) (t code broken : ℕ) → good_tell k t ≡ true → has broken t ≡ false → has broken (other_than k t) ≡ false → told k t code broken ≡ code

-- the laws of a rig together: w is its wire and h its trio line
pub record Lawful (w : Wires) (h : Casts) : Type 0 where
  pub bad : BadWire w
  pub kept : Kept w
  pub mute : Mute h
  pub spoken : Spoken h
  pub agreed : Agreed h

-- the laws of a weak rig together: w is its wire, h its torn line and told its telling
pub record WeakLawful (w : Wires) (h : Casts) (told : Tellings) : Type 0 where
  pub bad : BadWire w
  pub kept : Kept w
  pub mute : Mute h
  pub spoken : Spoken h
  pub agreed : Untorn h
  pub untold : BadTelling told
  pub passed : Passed told
