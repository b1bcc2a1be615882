-- What a hall is made of: the meanings of a rule, a rig and a word kind, and a rest word. Plain data; what it is for them to be lawful stands apart.
use Rattle.std.specs.Prelude.{ℕ, Bool, Option}
use Rattle.rules.specs.Rules.{Sized, Own, Parts, Singles, Apart}
use Rattle.rigs.specs.Lines.{Wires, Casts}
use Rattle.rigs.specs.Laws.{Lawful as LawfulLines}
use Rattle.words.specs.Kinds.{Back, Only, Small, NotEmpty}

-- a rule: how many stations there are, and which sets of them can fail, that is, may all be broken together
pub record Rule : Type 0 where
  pub n : ℕ
  pub can_fail : ℕ → Bool

-- a rig: its answers to all questions (key, code, broken set), on wires and on trio lines
pub record Rig : Type 0 where
  pub wire : Wires
  pub trio : Casts

-- a word kind: the code of each word, and the word that each number leads to, if any
pub record Kind (W : Type 0) : Type 0 where
  pub code : W → ℕ
  pub word : ℕ → Option W

-- all that a hall is made of, with the rest word
pub record Meaning (W : Type 0) : Type 0 where
  pub rule : Rule
  pub rig : Rig
  pub kind : Kind W
  pub rest : W

-- a lawful rule: 3 to 16 stations; only sets of these can fail; parts of such sets can, and single stations; no two such sets make up all
pub record LawfulRule (R : Rule) : Type 0 where
  pub sized : Sized R.n
  pub own : Own R.n R.can_fail
  pub part : Parts R.can_fail
  pub single : Singles R.n R.can_fail
  pub apart : Apart R.n R.can_fail

-- a lawful rig: bad keys give silence, wires between good stations keep the code, and trio lines the two laws of good speakers and good listeners
abbrev pub LawfulRig : Rig → Type 0
LawfulRig G = LawfulLines G.wire G.trio

-- a lawful word kind: there is a word, codes are below 4,096, each leads back to its word, and no other number leads to one
pub record LawfulKind {W : Type 0} (K : Kind W) : Type 0 where
  pub some : NotEmpty K.word
  pub small : Small K.word
  pub back : Back K.code K.word
  pub only : Only K.code K.word

-- lawful meanings
pub record Lawful {W : Type 0} (m : Meaning W) : Type 0 where
  pub rule : LawfulRule m.rule
  pub rig : LawfulRig m.rig
  pub kind : LawfulKind m.kind
