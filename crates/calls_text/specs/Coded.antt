-- Calls with codes in place of words.
use Rattle.std.specs.Prelude.{◌≡◌, ℕ, Some, None, Option}
use Rattle.hall.specs.declared.call.Call.{Call}
use Rattle.hall.specs.declared.call.Call.TheVariants.{Open, Round, Strike, Mark, Clear, Read, Lamp}

-- the call c is the call d with the word of its code, by the words of the kind
abbrev pub Worded : {W : Type 0} → (ℕ → Option W) → Call ℕ → Call W → Type 0
Worded word (Open take caller code) (Open t c w) = (t ≡ take) × (c ≡ caller) × (word code ≡ Some w)
Worded word (Open take caller code) Round = ⊥
Worded word (Open take caller code) Strike = ⊥
Worded word (Open take caller code) (Mark s) = ⊥
Worded word (Open take caller code) (Clear s) = ⊥
Worded word (Open take caller code) (Read s) = ⊥
Worded word (Open take caller code) (Lamp s) = ⊥
Worded word Round d = d ≡ Round
Worded word Strike d = d ≡ Strike
Worded word (Mark s) d = d ≡ Mark s
Worded word (Clear s) d = d ≡ Clear s
Worded word (Read s) d = d ≡ Read s
Worded word (Lamp s) d = d ≡ Lamp s

-- the call opens a cue with a code that is no word's
abbrev pub Wordless : {W : Type 0} → (ℕ → Option W) → Call ℕ → Type 0
Wordless word (Open take caller code) = word code ≡ None
Wordless word Round = ⊥
Wordless word Strike = ⊥
Wordless word (Mark s) = ⊥
Wordless word (Clear s) = ⊥
Wordless word (Read s) = ⊥
Wordless word (Lamp s) = ⊥
