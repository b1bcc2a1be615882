-- A word that stands in a line of text.
use Rattle.std.proofs.Common.{◌≡◌, ℕ, ◌-◌, true, List, length, take, drop, nat_eq}
use Rattle.std.specs.Cmp.Lexicographic.{pointwise}
use Rattle.std.proofs.lemmas.List.{take_rest}
use Rattle.std.proofs.lemmas.Slice.Eq.{bytes_eq-Decides}

-- what begins with the word in the rest of a text from place i on, begins with it there in the text
pub word-stands : (text word : List ℕ) (i : ℕ) → pointwise nat_eq (take (length word) (take (length text - i) (drop i text))) word ≡ true → take (length word) (drop i text) ≡ word
word-stands text word i h = (bytes_eq-Decides _ _).0 (simp take_rest at h)

pub ruleset words = word-stands
