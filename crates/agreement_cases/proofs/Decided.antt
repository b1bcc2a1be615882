-- A cue that decides, whatever the script.
use Rattle.std.proofs.Common.{◌≡◌, ℕ, zero, suc, List, [], ◌∷◌, replicate, refl, inl, inr, arith}
use Rattle.sets.specs.Sets.{has, mask_of, smallest, count_of, among}
use Rattle.rules.specs.Kings.{others_below, first_others, king_count}
use Rattle.rules.specs.Count.{CountMade}
use Rattle.rules.specs.CountLaws.{count-own, count-part, count-single, count-apart}
use Rattle.rig_kinds.specs.PlainLines.{plain-bad, plain-kept, plain-mute, plain-spoken, plain-agreed}
use Rattle.rig_kinds.specs.Scripts.{script_sound}
use Rattle.words.specs.declared.gate.Gate.{Gate}
use Rattle.words.specs.declared.gate.Gate.TheVariants.{Hold}
use Rattle.words.specs.Gates.{gate_word}
use Rattle.words.proofs.KindLaws.{small-words, some_word}
use Rattle.words.specs.GatesLemmas.{gate_full, gate_back, gate_only}
use Rattle.agreement.specs.Meanings.{Lawful}
use Rattle.agreement.specs.Rounds.{kings, last_round, kind_of}
use Rattle.agreement.specs.Calls.{Call, Open, Round, Mark, Strike, Clear, marked, with_broken, blank, stage_after, refusal, taken, opened, advanced, effect, next, after}
use Rattle.agreement.specs.Agreement.{Broken}
use Rattle.agreement_cases.specs.Cases.{gates, rounds, small, cue, SomeCueDecides}

-- a hall of gates under a count rule that can be made is lawful, whatever the script
pub gates-lawful : (n t : ℕ) (script : List ℕ) → CountMade n t → Lawful (gates n t script)
unfolding gates
gates-lawful n t script made = record {
  rule = record { sized = made.0; own = count-own n t; part = count-part n t; single = count-single n t made.1; apart = count-apart n t made.0.1 made.2 };
  rig = record { bad = plain-bad (script_sound script); kept = plain-kept (script_sound script); mute = plain-mute (script_sound script); spoken = plain-spoken (script_sound script); agreed = plain-agreed (script_sound script) };
  kind = record { some = some_word 2 gate_word (omega arith, omega arith) gate_full; small = small-words 2 gate_word (omega arith, omega arith) gate_full; back = gate_back; only = gate_only };
}

-- a round is no strike, no mark and no clearing
round_strike : (sheet : List ℕ) → ◌≡◌ {A = Call Gate} (Round sheet) Strike → ⊥
round_strike sheet e = let z : ◌≡◌ {A = ℕ} 0 1 = cc in omega arith

round-clear : (sheet : List ℕ) (p : ℕ) → ◌≡◌ {A = Call Gate} (Round sheet) (Clear p) → ⊥
round-clear sheet p e = let z : ◌≡◌ {A = ℕ} 0 1 = cc in omega arith

round-mark : (sheet : List ℕ) (p : ℕ) → ◌≡◌ {A = Call Gate} (Round sheet) (Mark p) → ⊥
round-mark sheet p e = let z : ◌≡◌ {A = ℕ} 0 1 = cc in omega arith

open_clear : (take caller : ℕ) (w : Gate) (p : ℕ) → ◌≡◌ {A = Call Gate} (Open take caller w) (Clear p) → ⊥
open_clear take caller w p e = let z : ◌≡◌ {A = ℕ} 0 1 = cc in omega arith

open_mark : (take caller : ℕ) (w : Gate) (p : ℕ) → ◌≡◌ {A = Call Gate} (Open take caller w) (Mark p) → ⊥
open_mark take caller w p e = let z : ◌≡◌ {A = ℕ} 0 1 = cc in omega arith

other-mark : (p q : ℕ) → (p ≡ q → ⊥) → ◌≡◌ {A = Call Gate} (Mark p) (Mark q) → ⊥
other-mark p q d e = d (cc e)

broken_zero : (script : List ℕ) (take r : ℕ) → Broken (small script) (cue take r) 0
unfolding has mask_of count_of among gates rounds marked blank refusal taken after
broken_zero script take zero = inr (inl (refl, refl), λ e _. open_clear take 0 Hold 0 e)
broken_zero script take (suc r) = inr (broken_zero script take r, λ e _. round-clear _ 0 e)

others-good : (script : List ℕ) (take r p : ℕ) → (0 ≡ p → ⊥) → Broken (small script) (cue take r) p → ⊥
unfolding rounds
others-good script take zero p d (inl x) = open_mark take 0 Hold p x.0
others-good script take zero p d (inr x) = elim x.0 [ inl y ↦ other-mark 0 p d y.0 | inr y ↦ y.0 ]
others-good script take (suc r) p d (inl x) = round-mark _ p x.0
others-good script take (suc r) p d (inr x) = others-good script take r p d x.0

abbrev given : Call Gate
given = Round (replicate 4096 0)

pub decides : SomeCueDecides
unfolding has mask_of smallest count_of among others_below first_others king_count kings last_round kind_of gates rounds marked with_broken blank stage_after refusal taken opened advanced effect next after
decides script take = record {
  lawful = gates-lawful 3 1 script ((omega arith, omega arith), omega arith, omega arith);
  last = refl;
  made = record {
    before = Mark 0 ∷ [];
    later = given ∷ (given ∷ (given ∷ (given ∷ [])));
    take = take;
    run = refl;
    opened = refl;
    unstruck = ((((tt, λ e _. round_strike _ e), λ e _. round_strike _ e), λ e _. round_strike _ e), λ e _. round_strike _ e);
    rounds = refl;
  };
  decided = refl;
  broken = broken_zero script take 4;
  good = ((omega arith, others-good script take 4 1 (λ e. omega arith)), (omega arith, others-good script take 4 2 (λ e. omega arith)));
}
