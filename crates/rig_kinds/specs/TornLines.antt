-- The torn line keeps the laws of torn lines.
use Rattle.std.specs.Prelude.{◌≡◌, ℕ, ◌%◌, true, false, List, Some, None, Option, ◌≢◌}
use Rattle.std.proofs.Common.{sym, ap, ◌∙◌, ⊎_elim, arith}
use Rattle.std.proofs.lemmas.Bool.Decides.{nat_tests}
use Rattle.std.proofs.lemmas.Bool.{cond-true, cond-false, cases_Bool}
use Rattle.sets.specs.Sets.{has}
use Rattle.rigs.specs.declared.keys.TrioKey.{TrioKey}
use Rattle.rigs.specs.Keys.{good_trio, trio_place}
use Rattle.rigs.specs.Lines.{silence, heard_at}
use Rattle.rigs.specs.Laws.{Mute, Spoken, Untorn}
use Rattle.rigs.proofs.Trios.{at_all}
use Rattle.rig_kinds.specs.Scripts.{entry_at}
use Rattle.rig_kinds.specs.Torn.{torn_at, torn_sound, torn_line}

-- a torn answer has silence or the entry's low part at each station
torn_either : (k : TrioKey) (e s : ℕ) → (heard_at k (torn_at e 0, torn_at e 1, torn_at e 2) s ≢ silence) → heard_at k (torn_at e 0, torn_at e 1, torn_at e 2) s ≡ e % 8192
torn_either k e s h = grind (arith, nat_tests)

-- two stations neither in silence hear a broken speaker alike
sound_same : (k : TrioKey) (o : Option ℕ) (code s t : ℕ)
    → (heard_at k (torn_sound o code) s ≢ silence) → (heard_at k (torn_sound o code) t ≢ silence) → heard_at k (torn_sound o code) s ≡ heard_at k (torn_sound o code) t
sound_same k (Some e) code s t hs ht = torn_either k e s hs ∙ sym (torn_either k e t ht)
sound_same k None code s t _ _ = at_all k code s ∙ sym (at_all k code t)

module _ (xs : List ℕ) where
  pub torn_mute : Mute (torn_line xs)
  torn_mute k code broken e = cond-false (good_trio k) _ _ e

  -- a good speaker is heard as spoken by all
  spoken-at : (k : TrioKey) (code broken s : ℕ) → good_trio k ≡ true → has broken k.speaker ≡ false → heard_at k (torn_line xs k code broken) s ≡ code
  spoken-at k code broken s g b = ap (λ h. heard_at k h s) (cond-true (good_trio k) _ _ g ∙ cond-false (has broken k.speaker) _ _ b) ∙ at_all k code s

  -- a broken speaker sounds as its entry
  torn_at_lem : (k : TrioKey) (code broken s : ℕ) → good_trio k ≡ true → has broken k.speaker ≡ true
      → heard_at k (torn_line xs k code broken) s ≡ heard_at k (torn_sound (entry_at xs (trio_place k k.speaker)) code) s
  torn_at_lem k code broken s g b = ap (λ h. heard_at k h s) (cond-true (good_trio k) _ _ g ∙ cond-true (has broken k.speaker) _ _ b)

  pub torn_spoken : Spoken (torn_line xs)
  torn_spoken k code broken s g _ b _ _ = spoken-at k code broken s g b

  pub torn_agreed : Untorn (torn_line xs)
  torn_agreed k code broken s t g _ _ _ _ _ hs ht =
      let o = entry_at xs (trio_place k k.speaker) in
      ⊎_elim
      (λ (b : has broken k.speaker ≡ true).
      let ts = torn_at_lem k code broken s g b in
      let tt' = torn_at_lem k code broken t g b in
      ts ∙ sound_same k o code s t (λ q. hs (ts ∙ q)) (λ q. ht (tt' ∙ q)) ∙ sym tt')
      (λ (b : has broken k.speaker ≡ false). spoken-at k code broken s g b ∙ sym (spoken-at k code broken t g b))
      (cases_Bool (has broken k.speaker))
