-- Further laws of rounds and histories, which later work uses.
use Rattle.std.specs.Prelude.{◌≡◌, ℕ, suc, ◌%◌, ◌^◌, ◌<◌, Bool, true, false, not, List, ◌∷◌, ◌++◌, ◌≢◌}
use Rattle.sets.specs.Sets.{has}
use Rattle.rigs.specs.Lines.{silence}
use Rattle.agreement.specs.Meanings.{Rule, LawfulRule, Meaning, Lawful}
use Rattle.agreement.specs.Rounds.{fails, Setting, vote, weak_test}
use Rattle.agreement.specs.Calls.{Call, Round, holds, after}
use Rattle.agreement.specs.Agreement.{Made, Broken, Good, Holds, Lit, Unstruck, Cue}

-- after a vote, on whatever rig, at most one code passes the weak test at any station
abbrev pub OnePasses : Type 0
OnePasses = (R : Rule) → LawfulRule R → (e : Setting) (p w w' : ℕ) → p < R.n → weak_test R (vote e) p w ≡ true → weak_test R (vote e) p w' ≡ true → w ≡ w'

module _ {W : Type 0} (m : Meaning W) (h : List (Call W)) where
  -- all of G, a set of stations, are good and hold w, and the set of all stations but G can fail
  pub record HeldByAll (g : ℕ → Bool) (w : W) : Type 0 where
    pub hold : (p : ℕ) → p < m.rule.n → g p ≡ true → Good m h p × Holds m h p w
    pub others : fails m.rule (λ p. not (g p)) ≡ true

  -- then after a weak and after a graded round all of G hold w, and after a graded one they are lit
  abbrev pub KeptByVotes : Type 0
  KeptByVotes =
      (caller : ℕ) (word : W) (r : ℕ) → Cue m h caller word r → (sheet : List ℕ) → Made m h (Round sheet) → (suc r % 3 ≢ 1)
      → (g : ℕ → Bool) (w : W) → HeldByAll g w → (p : ℕ) → p < m.rule.n → g p ≡ true
      → Holds m (Round sheet ∷ h) p w × (suc r % 3 ≡ 0 → Lit m (Round sheet ∷ h) p)

  -- after every round of a cue but a weak one, every station holds a word, be it good or broken
  abbrev pub AllHoldWords : Type 0
  AllHoldWords = (caller : ℕ) (word : W) (r : ℕ) → Cue m h caller word r → (r % 3 ≢ 2) → (p : ℕ) → p < m.rule.n → (w : W) × Holds m h p w

  -- no station ever holds silence in a cue, be it good or broken: so the laws of trio lines speak of all that is cast
  abbrev pub NeverSilent : Type 0
  NeverSilent = (caller : ℕ) (word : W) (r : ℕ) → Cue m h caller word r → (p : ℕ) → p < m.rule.n → holds (after m h) p ≢ silence

  -- during a cue a broken station stays broken
  abbrev pub BrokenStay : Type 0
  BrokenStay = (caller : ℕ) (word : W) (r : ℕ) → Cue m h caller word r → (still : List (Call W)) → Unstruck m h still → (p : ℕ) → p < m.rule.n → Broken m h p → Broken m (still ++ h) p

  -- every set of broken stations can fail
  abbrev pub BrokenCanFail : Type 0
  BrokenCanFail = (set : ℕ) → ((p : ℕ) → has set p ≡ true → (p < m.rule.n) × Broken m h p) → m.rule.can_fail set ≡ true

  -- a set that cannot fail has a good station
  abbrev pub SomeGood : Type 0
  SomeGood = (set : ℕ) → set < 2 ^ m.rule.n → m.rule.can_fail set ≡ false → (p : ℕ) × (has set p ≡ true) × Good m h p

  -- all of these
  pub record Laws : Type 0 where
    pub kept : KeptByVotes
    pub words : AllHoldWords
    pub heard : NeverSilent
    pub stay : BrokenStay
    pub fail : BrokenCanFail
    pub good : SomeGood

-- for all lawful meanings and every history
pub record FurtherLaws (W : Type 0) : Type 0 where
  pub one : OnePasses
  pub histories : (m : Meaning W) → Lawful m → (h : List (Call W)) → Laws m h
