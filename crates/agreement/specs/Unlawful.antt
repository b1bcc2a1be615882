-- Meanings that the laws keep out.
use Rattle.std.specs.Prelude.{ℕ, false}
use Rattle.sets.specs.Sets.{among}
use Rattle.rigs.specs.Lines.{void}
use Rattle.agreement.specs.Meanings.{Rule, Rig, LawfulRule, LawfulRig}

-- a rig that answers void to every question
abbrev pub void_rig : Rig
void_rig = record { wire = λ k code broken. void; trio = λ k code broken. (void, void, void) }

-- a rule of n stations under which every set of these can fail
abbrev pub all_fail : ℕ → Rule
all_fail n = record { n = n; can_fail = among n }

-- one under which no set can fail
abbrev pub none_fail : ℕ → Rule
none_fail n = record { n = n; can_fail = λ s. false }

-- none of these is lawful
pub record Unlawful : Type 0 where
  pub rig : LawfulRig void_rig → ⊥
  pub all : (n : ℕ) → LawfulRule (all_fail n) → ⊥
  pub none : (n : ℕ) → LawfulRule (none_fail n) → ⊥
