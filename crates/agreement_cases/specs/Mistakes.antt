-- Three mistakes, and what each would break.
use Rattle.std.specs.Prelude.{◌≡◌, ℕ, ◌<◌, Bool, false, cond, not, ◌&&◌, List, [], ◌∷◌, ◌==◌}
use Rattle.rigs.specs.declared.keys.TrioKey.{TrioKey}
use Rattle.rigs.specs.Keys.{good_trio, other_than}
use Rattle.rigs.specs.Lines.{Trio, void, silent, heard_at, each, Casts, Tellings}
use Rattle.rigs.specs.Laws.{Spoken, WeakLawful}
use Rattle.rig_kinds.specs.Plain.{Sound, plain_wire, plain_trio, plain_told}
use Rattle.words.specs.declared.gate.Gate.{Gate}
use Rattle.words.specs.declared.gate.Gate.TheVariants.{Hold}
use Rattle.agreement.specs.Meanings.{Rule, LawfulRule, Meaning, Lawful}
use Rattle.agreement.specs.Rounds.{fails}
use Rattle.agreement.specs.Calls.{Call, Open, Mark, after}
use Rattle.agreement_cases.specs.Cases.{gates, rounds, held_by}

-- 1. Void taken for silence: a mender in which a listener that heard void takes what it is told.
abbrev pub wrong_mended_at : TrioKey → Trio → (ℕ → ℕ → ℕ) → ℕ → ℕ
wrong_mended_at k h tell s =
    cond (s == k.speaker) (heard_at k h s)
    (cond (heard_at k h s == void) (tell (other_than k s) (heard_at k h (other_than k s))) (heard_at k h s))

-- its trio line
abbrev pub wrong_mended : Casts → Tellings → Casts
wrong_mended torn told k code broken = cond (good_trio k) (each k (wrong_mended_at k (torn k code broken) (λ t x. told k t x broken))) silent

-- broken stations are heard as saying 1
abbrev pub ones : Sound
ones place code = 1

-- over a lawful weak rig, a broken listener would replace a good speaker's void
pub record VoidForSilence : Type 0 where
  pub lawful : WeakLawful (plain_wire ones) (plain_trio ones) (plain_told ones)
  pub breaks : Spoken (wrong_mended (plain_trio ones) (plain_told ones)) → ⊥

-- 2. q left out when Y is judged: the r alone, without q, cannot fail.
abbrev pub in_y_without : Rule → (ℕ → ℕ → ℕ → ℕ) → ℕ → ℕ → ℕ → Bool
in_y_without R v p w q = not (q == p) && not (fails R (λ r. not (r == q) && (not (r == p) && v p q r == w)))

-- with three stations no Y would ever have a member: all would fall to the rest word, and a good caller's word be lost
abbrev pub QLeftOut : Type 0
QLeftOut = (R : Rule) → LawfulRule R → R.n ≡ 3 → (v : ℕ → ℕ → ℕ → ℕ) (p w q : ℕ) → p < 3 → q < 3 → in_y_without R v p w q ≡ false

-- 3. One lit lamp taken to settle a cue. Of five stations any two may be broken; the caller 0 and its first king 1 are.
abbrev pub five_cue : ℕ → List (Call Gate)
five_cue r = rounds r (Open 0 0 Hold ∷ (Mark 1 ∷ (Mark 0 ∷ [])))

-- the hall, with its script
abbrev pub five : Meaning Gate
five = gates 5 2 (0 ∷ (7 ∷ (1 ∷ [])))

-- after round 3 all hold HOLD, and of the good stations 2, 3 and 4 the lamp of 2 alone is lit; the broken king then turns station 3
pub record OneLampLit : Type 0 where
  pub lawful : Lawful five
  pub held : held_by 5 (after five (five_cue 3)) ≡ 0 ∷ (0 ∷ (0 ∷ (0 ∷ (0 ∷ []))))
  pub lit : (after five (five_cue 3)).lit ≡ 4
  pub turned : held_by 5 (after five (five_cue 4)) ≡ 1 ∷ (0 ∷ (0 ∷ (1 ∷ (0 ∷ []))))
