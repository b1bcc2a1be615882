-- The scene of a number.
use Rattle.std.proofs.Common.{◌≡◌, ℕ, ◌/◌, ◌%◌, true, false, ltb, Some, Ok, Err, Result, MatchResult, sym, ap, ◌∙◌, ⊎_elim, arith}
use Rattle.std.specs.Result.{result_ok}
use Rattle.std.proofs.lemmas.Bool.{cond-true, cond-false, lt-ltb, ltb-true, cases_Bool}
use Rattle.refusals.specs.declared.Refusal.{Refusal}
use Rattle.refusals.specs.declared.Refusal.TheVariants.{NoWord as is_no_word}
use Rattle.words.specs.declared.scene.Scene.{Scene}
use Rattle.words.specs.Scenes.{SceneMade, scene_word, scene_at}
use Rattle.words.specs.ScenesLemmas.{same_parts}

-- what is made of the bank and the slot of a number is the number's word, and nothing is where it has none
pub scene_of_parts : (r : Result Scene Refusal) (x : ℕ)
    → MatchResult r (λ s. (s.bank ≡ x / 64) × (s.slot ≡ x % 64)) (λ e. (e ≡ is_no_word) × (SceneMade (x / 64) (x % 64) → ⊥)) → result_ok r ≡ scene_word x
unfolding scene_at
scene_of_parts (Ok s) x h =
    ap Some (same_parts s (scene_at x) (let low = s.bank_low in omega arith) h.1)
    ∙ sym (cond-true _ _ _ (lt-ltb x 1024 (let low = s.bank_low in omega arith)))
scene_of_parts (Err e) x h =
    ⊎_elim
    (λ (t : ltb x 1024 ≡ true). let l = ltb-true x 1024 t in absurd (h.1 (omega arith, omega arith)))
    (λ (t : ltb x 1024 ≡ false). sym (cond-false _ _ _ t))
    (cases_Bool (ltb x 1024))
