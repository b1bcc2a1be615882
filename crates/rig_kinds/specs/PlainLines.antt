-- Plain lines keep the laws of wires, trio lines and tellings, whatever their sound.
use Rattle.std.specs.Prelude.{◌≡◌, ℕ, true}
use Rattle.std.proofs.Common.{sym, ap, ◌∙◌}
use Rattle.std.proofs.lemmas.Bool.{cond-true, cond-false}
use Rattle.sets.specs.Sets.{has}
use Rattle.rigs.specs.declared.keys.TrioKey.{TrioKey}
use Rattle.rigs.specs.Keys.{good_wire, good_trio, good_tell, in_trio, trio_place}
use Rattle.rigs.specs.Lines.{heard_at}
use Rattle.rigs.specs.Laws.{BadWire, Kept, Mute, Spoken, Agreed, BadTelling, Passed}
use Rattle.rigs.proofs.Trios.{at_each}
use Rattle.rig_kinds.specs.Plain.{Sound, heard_as, plain_wire, plain_trio, plain_told}

module _ (f : Sound) where
  pub plain-bad : BadWire (plain_wire f)
  plain-bad k code broken e = cond-false (good_wire k) _ _ e

  pub plain-kept : Kept (plain_wire f)
  plain-kept k code broken e h _ = cond-true (good_wire k) _ _ e ∙ cond-false (has broken k.from) _ _ h

  pub plain-mute : Mute (plain_trio f)
  plain-mute k code broken e = cond-false (good_trio k) _ _ e

  -- each of the three hears the speaker alike
  plain_at : (k : TrioKey) (code broken s : ℕ) → good_trio k ≡ true → in_trio k s ≡ true
      → heard_at k (plain_trio f k code broken) s ≡ heard_as f (has broken k.speaker) (trio_place k k.speaker) code
  plain_at k code broken s e h =
      ap (λ x. heard_at k x s) (cond-true (good_trio k) _ _ e)
      ∙ at_each k (λ s. heard_as f (has broken k.speaker) (trio_place k k.speaker) code) s h

  pub plain-spoken : Spoken (plain_trio f)
  plain-spoken k code broken s e _ b h _ = plain_at k code broken s e h ∙ cond-false (has broken k.speaker) _ _ b

  pub plain-agreed : Agreed (plain_trio f)
  plain-agreed k code broken s t e _ hs _ ht _ = plain_at k code broken s e hs ∙ sym (plain_at k code broken t e ht)

  pub told_bad : BadTelling (plain_told f)
  told_bad k t code broken e = cond-false (good_tell k t) _ _ e

  pub told_passed : Passed (plain_told f)
  told_passed k t code broken e h _ = cond-true (good_tell k t) _ _ e ∙ cond-false (has broken t) _ _ h
