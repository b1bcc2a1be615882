-- Which calls are not refused, as one test each.
use Rattle.std.proofs.Common.{◌≡◌, ℕ, Bool, true, false, not, ◌&&◌, ltb, leb, List, length, is_some, None, refl}
use Rattle.refusals.specs.declared.Refusal.{Refusal}
use Rattle.agreement.specs.Meanings.{Meaning}
use Rattle.agreement.specs.Calls.{Open, Round, Strike, Mark, Clear, State, is_idle, is_running, marked, unless, refusal, taken}

one-test : (a : Bool) (e : Refusal) → not (is_some (unless a e None)) ≡ a
one-test true e = refl
one-test false e = refl

two_tests : (a b : Bool) (e f : Refusal) → not (is_some (unless a e (unless b f None))) ≡ (a && b)
two_tests true b e f = one-test b f
two_tests false b e f = refl

module _ {W : Type 0} (m : Meaning W) (s : State) where
  pub taken_open : (take caller : ℕ) (word : W) → taken m s (Open take caller word) ≡ (is_idle s.stage && ltb caller m.rule.n)
  unfolding taken refusal
  taken_open take caller word = two_tests (is_idle s.stage) (ltb caller m.rule.n) _ _

  pub taken-round : (sheet : List ℕ) → taken m s (Round sheet) ≡ (is_running s.stage && leb 4096 (length sheet))
  unfolding taken refusal
  taken-round sheet = two_tests (is_running s.stage) (leb 4096 (length sheet)) _ _

  pub taken_strike : taken m s Strike ≡ not (is_idle s.stage)
  unfolding taken refusal
  taken_strike = one-test (not (is_idle s.stage)) _

  pub taken-mark : (p : ℕ) → taken m s (Mark p) ≡ (ltb p m.rule.n && m.rule.can_fail (marked s.broken p))
  unfolding taken refusal
  taken-mark p = two_tests (ltb p m.rule.n) (m.rule.can_fail (marked s.broken p)) _ _

  pub taken-clear : (p : ℕ) → taken m s (Clear p) ≡ (is_idle s.stage && ltb p m.rule.n)
  unfolding taken refusal
  taken-clear p = two_tests (is_idle s.stage) (ltb p m.rule.n) _ _
