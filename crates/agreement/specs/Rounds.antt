-- The rounds of a cue. What stations hold is a code for each station, what lamps are lit a test of each station.
use Rattle.std.specs.Prelude.{ℕ, ◌+◌, ◌-◌, ◌/◌, ◌%◌, min, max, Bool, cond, not, ◌&&◌, ◌||◌, ◌==◌}
use Rattle.sets.specs.Sets.{mask_of, every, any, smallest}
use Rattle.rules.specs.Kings.{king_count, king, rounds_of}
use Rattle.rigs.specs.declared.keys.WireKey.{WireKey}
use Rattle.rigs.specs.declared.keys.TrioKey.{TrioKey}
use Rattle.rigs.specs.Lines.{void, heard_at}
use Rattle.agreement.specs.declared.stage.RoundKind.{RoundKind}
use Rattle.agreement.specs.declared.stage.RoundKind.TheVariants.{Caller, Weak, Graded, King}
use Rattle.agreement.specs.Meanings.{Rule, Rig}

-- whether the stations that pass a test can fail together
unfoldable pub fails : Rule → (ℕ → Bool) → Bool
fails R f = R.can_fail (mask_of R.n f)

-- what a round runs on: the rig, which codes are words, the take, the round's number, the broken set, and what each station holds
pub record Setting : Type 0 where
  pub rig : Rig
  pub words : ℕ → Bool
  pub take : ℕ
  pub round : ℕ
  pub broken : ℕ
  pub held : ℕ → ℕ

-- Readings.

-- a code from a trio line is read as void unless it is a word's
unfoldable pub reading : (ℕ → Bool) → ℕ → ℕ
reading words x = cond (words x) x void

-- a code from a wire is read as the fallback word unless it is a word's
unfoldable pub wire_reading : (ℕ → Bool) → ℕ → ℕ → ℕ
wire_reading words fallback x = cond (words x) x fallback

-- The vote: in each trio every station casts the code that it holds.

-- the code that at least two of three readings share, or void
unfoldable pub majority : ℕ → ℕ → ℕ → ℕ
majority x y z = cond (x == y || x == z) x (cond (y == z) y void)

-- the lowest of three stations
unfoldable pub lowest : ℕ → ℕ → ℕ → ℕ
lowest p q r = min p (min q r)

-- the highest of them
unfoldable pub highest : ℕ → ℕ → ℕ → ℕ
highest p q r = max p (max q r)

-- the one between
unfoldable pub middle : ℕ → ℕ → ℕ → ℕ
middle p q r = p + q + r - (lowest p q r + highest p q r)

-- the key of what s says in the trio a, b, c
abbrev pub trio_key : Setting → ℕ → ℕ → ℕ → ℕ → TrioKey
trio_key e a' b' c' s = record { take = e.take; round = e.round; a = a'; b = b'; c = c'; speaker = s }

-- how p reads what s says in the trio a, b, c
unfoldable pub hearing : Setting → ℕ → ℕ → ℕ → ℕ → ℕ → ℕ
hearing e a b c p s =
    reading e.words (heard_at (trio_key e a b c s) (e.rig.trio (trio_key e a b c s) (e.held s) e.broken) p)

-- what p has of the trio a, b, c
unfoldable pub vote_in : Setting → ℕ → ℕ → ℕ → ℕ → ℕ
vote_in e a b c p = majority (hearing e a b c p a) (hearing e a b c p b) (hearing e a b c p c)

-- v(p,q,r): what p has of the trio p, q, r
unfoldable pub vote : Setting → ℕ → ℕ → ℕ → ℕ
vote e p q r = vote_in e (lowest p q r) (middle p q r) (highest p q r) p

-- v(p,q,r) is w for every other r
unfoldable pub unanimous : ℕ → (ℕ → ℕ → ℕ → ℕ) → ℕ → ℕ → ℕ → Bool
unanimous n v p w q = every n (λ r. (r == p || r == q) || v p q r == w)

-- Rounds 3j - 1, weak. X(w) at p is the set of q whose v(p,q,r) is w for every other r.

-- the set of all stations but p and those in X(w) can fail
unfoldable pub weak_test : Rule → (ℕ → ℕ → ℕ → ℕ) → ℕ → ℕ → Bool
weak_test R v p w = fails R (λ q. not (q == p) && not (unanimous R.n v p w q))

-- p holds the smallest word that passes this test, and void if there is none
unfoldable pub weak_held : Rule → (ℕ → Bool) → (ℕ → ℕ → ℕ → ℕ) → ℕ → ℕ
weak_held R words v p = smallest 4096 (λ w. words w && weak_test R v p w) void

-- Rounds 3j, graded.

-- q is in Y(w) at p: q together with all r whose v(p,q,r) is w cannot fail
unfoldable pub in_y : Rule → (ℕ → ℕ → ℕ → ℕ) → ℕ → ℕ → ℕ → Bool
in_y R v p w q = not (q == p) && not (fails R (λ r. (r == q) || (not (r == p) && v p q r == w)))

-- p holds the smallest word w with Y(w) not empty, or the rest word
unfoldable pub graded_held : Rule → (ℕ → Bool) → ℕ → (ℕ → ℕ → ℕ → ℕ) → ℕ → ℕ
graded_held R words rest v p = smallest 4096 (λ w. words w && any R.n (in_y R v p w)) rest

-- the lamp of p, which holds w, is lit: p together with the q whose v(p,q,r) is w for every r cannot fail
unfoldable pub graded_lit : Rule → (ℕ → ℕ → ℕ → ℕ) → ℕ → ℕ → Bool
graded_lit R v p w = not (fails R (λ q. (q == p) || unanimous R.n v p w q))

-- Rounds 1 and 3j + 1: one station wires its code to the others.

-- the key of what s wires to p
abbrev pub wire_key : Setting → ℕ → ℕ → WireKey
wire_key e s p = record { take = e.take; round = e.round; from = s; «to» = p }

-- what p reads where s wires its code to p
unfoldable pub wired_to : Setting → ℕ → ℕ → ℕ → ℕ
wired_to e fallback s p = wire_reading e.words fallback (e.rig.wire (wire_key e s p) (e.held s) e.broken)

-- round 1: each station but the caller holds what it reads
unfoldable pub caller_held : Setting → ℕ → ℕ → ℕ → ℕ
caller_held e rest caller p = cond (p == caller) (e.held p) (wired_to e rest caller p)

-- round 3j + 1: a station whose lamp is out holds what it reads; king number j and lit stations keep their word
unfoldable pub king_held : Setting → ℕ → (ℕ → Bool) → ℕ → ℕ → ℕ
king_held e rest lit king p = cond (p == king || lit p) (e.held p) (wired_to e rest king p)

-- All rounds.

-- how many kings the caller has
unfoldable pub kings : Rule → ℕ → ℕ
kings R caller = king_count R.n R.can_fail caller

-- the number of a cue's last round
unfoldable pub last_round : Rule → ℕ → ℕ
last_round R caller = rounds_of (kings R caller)

-- of the rounds from 1 on, round 1 is the caller's, 3j - 1 weak, 3j graded and 3j + 1 that of king number j
unfoldable pub kind_of : ℕ → RoundKind
kind_of r = cond (r == 1) Caller (cond (r % 3 == 2) Weak (cond (r % 3 == 0) Graded (King (r / 3))))

-- what p holds after a round of this kind
unfoldable pub held_after : RoundKind → Rule → Setting → ℕ → ℕ → (ℕ → Bool) → ℕ → ℕ
held_after Caller R e rest caller lit p = caller_held e rest caller p
held_after Weak R e rest caller lit p = weak_held R e.words (vote e) p
held_after Graded R e rest caller lit p = graded_held R e.words rest (vote e) p
held_after (King j) R e rest caller lit p = king_held e rest lit (king caller j) p

-- whether the lamp of p is lit after it: only graded rounds set lamps
unfoldable pub lit_after : RoundKind → Rule → Setting → ℕ → (ℕ → Bool) → ℕ → Bool
lit_after Caller R e rest lit p = lit p
lit_after Weak R e rest lit p = lit p
lit_after Graded R e rest lit p = graded_lit R (vote e) p (graded_held R e.words rest (vote e) p)
lit_after (King j) R e rest lit p = lit p
