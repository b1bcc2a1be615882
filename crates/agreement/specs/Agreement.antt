-- The theorem page: agreement, over any history of calls on a hall.
-- A history has its newest call first: `c ∷ h` is the history h and then the call c.
use Rattle.std.specs.Prelude.{◌≡◌, ℕ, suc, ◌+◌, ◌*◌, ◌<◌, Bool, true, false, cond, ◌&&◌, ◌⊎◌, List, [], ◌∷◌, ◌++◌}
use Rattle.sets.specs.Sets.{has}
use Rattle.rigs.specs.Lines.{Wires, Casts, Tellings}
use Rattle.rigs.specs.Laws.{WeakLawful}
use Rattle.agreement.specs.Meanings.{Rig, Meaning, LawfulRule, LawfulRig, LawfulKind, Lawful}
use Rattle.agreement.specs.Rounds.{last_round}
use Rattle.agreement.specs.Calls.{Call, Open, Round, Strike, Mark, Clear, Read, Lamp, after, taken, holds, ReadGives}
use Rattle.agreement.specs.Piled.{Patches, piled, mender_on, with_rig}

-- Words of histories.

module _ {W : Type 0} (m : Meaning W) where
  -- the call c, made after the history h, is not refused
  abbrev pub Made : List (Call W) → Call W → Type 0
  Made h c = taken m (after m h) c ≡ true

  -- station p is broken from a mark to its next clearing
  abbrev pub Broken : List (Call W) → ℕ → Type 0
  Broken [] p = ⊥
  Broken (c ∷ h) p = ((c ≡ Mark p) × Made h c) ⊎ (Broken h p × (c ≡ Clear p → Made h c → ⊥))

  -- and good otherwise
  abbrev pub Good : List (Call W) → ℕ → Type 0
  Good h p = (p < m.rule.n) × (Broken h p → ⊥)

  -- station p holds the word w
  abbrev pub Holds : List (Call W) → ℕ → W → Type 0
  Holds h p w = holds (after m h) p ≡ m.kind.code w

  -- the lamp of station p is lit
  abbrev pub Lit : List (Call W) → ℕ → Type 0
  Lit h p = has (after m h).lit p ≡ true

  -- all good stations hold the word w
  abbrev pub AllHold : List (Call W) → W → Type 0
  AllHold h w = (p : ℕ) → Good h p → Holds h p w

  -- reading any good station gives the word w
  abbrev pub AllRead : List (Call W) → W → Type 0
  AllRead h w = (p : ℕ) → Good h p → ReadGives m (after m h) p w

  -- the lamps of all good stations are lit
  abbrev pub AllLit : List (Call W) → Type 0
  AllLit h = (p : ℕ) → Good h p → Lit h p

  -- no strike is made in the calls `later`, which follow the history h
  abbrev pub Unstruck : List (Call W) → List (Call W) → Type 0
  Unstruck h [] = Unit {0}
  Unstruck h (c ∷ later) = Unstruck h later × (c ≡ Strike → Made (later ++ h) c → ⊥)

  -- whether a call is a round
  abbrev pub is_round : Call W → Bool
  is_round (Open take caller word) = false
  is_round (Round sheet) = true
  is_round Strike = false
  is_round (Mark p) = false
  is_round (Clear p) = false
  is_round (Read p) = false
  is_round (Lamp p) = false

  -- how many rounds are made in them
  abbrev pub rounds_in : List (Call W) → List (Call W) → ℕ
  rounds_in h [] = 0
  rounds_in h (c ∷ later) = rounds_in h later + cond (is_round c && taken m (after m (later ++ h)) c) 1 0

  -- at the end of h a cue is on that `caller` opened with `word`, and r of its rounds have been made
  pub record Cue (h : List (Call W)) (caller : ℕ) (word : W) (r : ℕ) : Type 0 where
    pub before : List (Call W)
    pub later : List (Call W)
    pub take : ℕ
    pub run : h ≡ later ++ (Open take caller word ∷ before)
    pub opened : Made before (Open take caller word)
    pub unstruck : Unstruck (Open take caller word ∷ before) later
    pub rounds : rounds_in (Open take caller word ∷ before) later ≡ r

  -- The theorem, after the calls h.

  -- From a cue's last round until its strike, all good stations hold one word, reading any of them gives it, and it is the caller's where the caller is good.
  abbrev pub EndsInOneWord : List (Call W) → Type 0
  EndsInOneWord h =
      (caller : ℕ) (word : W) → Cue h caller word (last_round m.rule caller)
      → (w : W) × ((still : List (Call W)) → Unstruck h still → AllHold (still ++ h) w × AllRead (still ++ h) w) × (Good h caller → w ≡ word)

  -- From a graded round, which is one numbered 3, 6 and so on, until the next round or the strike, all good stations hold the word of any good one that is lit.
  abbrev pub LampTellsAll : List (Call W) → Type 0
  LampTellsAll h =
      (caller : ℕ) (word : W) (j : ℕ) → Cue h caller word (3 * suc j)
      → (p : ℕ) → Good h p → Lit h p → (w : W) × Holds h p w × AllHold h w

  -- At any point of a cue at which the lamps of all good stations are lit, these hold one word; at every later point before the strike, those that are still good hold that word and are lit.
  abbrev pub AllLitIsFinal : List (Call W) → Type 0
  AllLitIsFinal h =
      (caller : ℕ) (word : W) (r : ℕ) → Cue h caller word r → AllLit h
      → (w : W) × AllHold h w × ((still : List (Call W)) → Unstruck h still → AllHold (still ++ h) w × AllLit (still ++ h))

  -- all three
  pub record Agrees (h : List (Call W)) : Type 0 where
    pub ends : EndsInOneWord h
    pub lamp : LampTellsAll h
    pub final : AllLitIsFinal h

-- for all lawful meanings and every history
abbrev pub Agreement : Type 0 → Type 0
Agreement W = (m : Meaning W) → Lawful m → (h : List (Call W)) → Agrees m h

-- The same above every pile of patches on a lawful rig, or on a mender over a lawful weak rig.
pub record AbovePiles (W : Type 0) : Type 0 where
  pub over_rig : (m : Meaning W) → LawfulRule m.rule → LawfulKind m.kind → (ps : List ℕ) → Patches ps
      → (rig : Rig) → LawfulRig rig → (h : List (Call W)) → Agrees (with_rig m (piled ps rig)) h
  pub over_mender : (m : Meaning W) → LawfulRule m.rule → LawfulKind m.kind → (ps : List ℕ) → Patches ps
      → (wire : Wires) (torn : Casts) (told : Tellings) → WeakLawful wire torn told → (h : List (Call W)) → Agrees (with_rig m (piled ps (mender_on wire torn told))) h
