-- What the mistakes would break.
use Rattle.std.proofs.Common.{◌≡◌, ℕ, ◌+◌, ◌-◌, Bool, true, false, not, ◌&&◌, eqb, ◌⊎◌, refl, ap, ◌∙◌, inl, inr, arith}
use Rattle.std.proofs.lemmas.Bool.{cases_eq, eq-eqb, eqb-false, and_parts, not-true, not_from_true, and_left}
use Rattle.sets.specs.Sets.{has}
use Rattle.rigs.specs.Lines.{void}
use Rattle.rigs.specs.Laws.{WeakLawful}
use Rattle.rig_kinds.specs.Plain.{plain_wire, plain_trio, plain_told}
use Rattle.rig_kinds.specs.PlainLines.{plain-bad, plain-kept, plain-mute, plain-spoken, plain-agreed, told_bad, told_passed}
use Rattle.agreement.specs.Rounds.{fails}
use Rattle.agreement.proofs.Failing.{fails-part, fails-single}
use Rattle.agreement_cases.specs.Mistakes.{ones, VoidForSilence, in_y_without, QLeftOut}

ones-lawful : WeakLawful (plain_wire ones) (plain_trio ones) (plain_told ones)
ones-lawful = record {
  bad = plain-bad ones;
  kept = plain-kept ones;
  mute = plain-mute ones;
  spoken = plain-spoken ones;
  agreed = λ k code broken s t g n is gs it gt _ _. plain-agreed ones k code broken s t g n is gs it gt;
  untold = told_bad ones;
  passed = told_passed ones;
}

-- station 0 speaks void to 0, 1 and 2, of which 2 is broken: station 1 takes the 1 that 2 tells it
pub void_for_silence : VoidForSilence
unfolding has
void_for_silence = record { lawful = ones-lawful; breaks = λ spoken. clash (spoken (record { take = 0; round = 1; a = 0; b = 1; c = 2; speaker = 0 }) void 4 1 refl (λ e. omega (arith, e)) refl refl refl) }
  where
    clash : ◌≡◌ {A = ℕ} 1 void → ⊥
    clash e = omega (arith, e)

-- of three stations only one is neither p nor q
pub q-left-out : QLeftOut
q-left-out R L three v p w q lp lq = at (cases_eq q p)
  where
    single : (q ≡ p → ⊥) → fails R (λ r. not (eqb r q) && (not (eqb r p) && eqb (v p q r) w)) ≡ true
    single d =
        fails-part R L (λ r. not (eqb r q) && (not (eqb r p) && eqb (v p q r) w)) (λ r. eqb r (3 - (p + q)))
        (λ r l e.
        let x = and_parts (not (eqb r q)) (not (eqb r p) && eqb (v p q r) w) e in
        let y = and_parts (not (eqb r p)) (eqb (v p q r) w) x.1 in
        let nq = eqb-false r q (not-true _ x.0) in
        let np = eqb-false r p (not-true _ y.0) in
        eq-eqb r (3 - (p + q)) (omega (arith, three)))
        (fails-single R L (3 - (p + q)) (omega (arith, three)))

    at : (q ≡ p) ⊎ (q ≡ p → ⊥) → in_y_without R v p w q ≡ false
    at (inl e) = and_left _ _ (not_from_true _ (eq-eqb q p e))
    at (inr d) = ap (λ b. not (eqb q p) && not b) (single d) ∙ off (not (eqb q p))
      where
        off : (b : Bool) → (b && false) ≡ false
        off true = refl
        off false = refl
