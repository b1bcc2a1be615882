-- Who keeps its word where another station wires its code.
use Rattle.std.proofs.Common.{◌≡◌, ℕ, Bool, true, false, cond, ◌||◌, eqb, refl, ap, ◌∙◌}
use Rattle.sets.specs.Sets.{has}
use Rattle.sets.proofs.Masks.{has-none}
use Rattle.agreement.specs.Rounds.{Setting, wired_to, caller_held, king_held}

or_none : (x : Bool) → (x || false) ≡ x
or_none true = refl
or_none false = refl

-- the caller's round is a king round in which no lamp is lit
pub no-lamp : (e : Setting) (rest caller p : ℕ) → king_held e rest (has 0) caller p ≡ caller_held e rest caller p
unfolding king_held caller_held
no-lamp e rest caller p = ap (λ b. cond b (e.held p) (wired_to e rest caller p)) (ap (λ b. eqb p caller || b) (has-none p) ∙ or_none (eqb p caller))
