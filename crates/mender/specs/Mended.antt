-- A mended line keeps the laws of a trio line wherever the torn line and the telling below keep theirs.
use Rattle.std.specs.Prelude.{◌≡◌, ℕ, Bool, true, false, cond, ◌==◌, ◌≢◌}
use Rattle.std.proofs.Common.{sym, ap, ◌∙◌, ⊎_elim, arith}
use Rattle.std.proofs.lemmas.Bool.Decides.{nat_tests}
use Rattle.std.proofs.lemmas.Bool.{cond-true, cond-false, cases_eq, cases_Bool, both_ways, ne_eqb}
use Rattle.sets.specs.Sets.{has}
use Rattle.rigs.specs.declared.keys.TrioKey.{TrioKey}
use Rattle.rigs.specs.Keys.{good_trio, in_trio, other_than}
use Rattle.rigs.specs.Lines.{Trio, silence, heard_at, Casts, Tellings}
use Rattle.rigs.specs.Laws.{Mute, Spoken, Agreed, Untorn, Passed}
use Rattle.rigs.proofs.Trios.{at_each}
use Rattle.rigs.proofs.Listeners.{may_tell, other_in, other_hears, other-back, other-only}
use Rattle.mender.specs.Mending.{or_void, mended_at, mended}

-- what two listeners take, in numbers: x and y are what they heard, u and v what each is told
pair : (x y u v : ℕ) → u ≡ y → v ≡ x → ((x ≢ silence) → (y ≢ silence) → x ≡ y)
    → cond (x == silence) (or_void u) x ≡ cond (y == silence) (or_void v) y
pair x y u v eu ev same = grind (arith, nat_tests)

-- what was heard stays
keeps : (k : TrioKey) (h : Trio) (tell : ℕ → ℕ → ℕ) (s : ℕ) → (heard_at k h s ≢ silence) → mended_at k h tell s ≡ heard_at k h s
keeps k h tell s n = at (s == k.speaker) (heard_at k h s) (or_void (tell (other_than k s) (heard_at k h (other_than k s)))) n
  where
    at : (b : Bool) (x y : ℕ) → (x ≢ silence) → cond b x (cond (x == silence) y x) ≡ x
    at b x y n = grind (arith, nat_tests)

-- a listener
listens : (k : TrioKey) (h : Trio) (tell : ℕ → ℕ → ℕ) (s : ℕ) → (s ≢ k.speaker)
    → mended_at k h tell s ≡ cond (heard_at k h s == silence) (or_void (tell (other_than k s) (heard_at k h (other_than k s)))) (heard_at k h s)
listens k h tell s n = cond-false (s == k.speaker) _ _ (ne_eqb s k.speaker n)

module _ (torn : Casts) (told : Tellings) where
  pub mended-mute : Mute (mended torn told)
  mended-mute k code broken e = cond-false (good_trio k) _ _ e

  mended-at : (k : TrioKey) (code broken s : ℕ) → good_trio k ≡ true → in_trio k s ≡ true
      → heard_at k (mended torn told k code broken) s ≡ mended_at k (torn k code broken) (λ t x. told k t x broken) s
  mended-at k code broken s g i =
      ap (λ x. heard_at k x s) (cond-true (good_trio k) _ _ g) ∙ at_each k (mended_at k (torn k code broken) (λ t x. told k t x broken)) s i

  pub mended-spoken : Spoken torn → Spoken (mended torn told)
  mended-spoken spoken k code broken s g n b i h =
      let e = spoken k code broken s g n b i h in
      mended-at k code broken s g i ∙ keeps k (torn k code broken) (λ t x. told k t x broken) s (λ q. n (sym e ∙ q)) ∙ e

  module _ (spoken : Spoken torn) (untorn : Untorn torn) (passed : Passed told) where
    -- two good listeners, each of whom is told what the other heard
    mended-pair : (k : TrioKey) (code broken s : ℕ) → good_trio k ≡ true → (code ≢ silence) → in_trio k s ≡ true → has broken s ≡ false
        → (s ≢ k.speaker) → has broken (other_than k s) ≡ false
        → mended_at k (torn k code broken) (λ t x. told k t x broken) s ≡ mended_at k (torn k code broken) (λ t x. told k t x broken) (other_than k s)
    mended-pair k code broken s g n is gs ls go =
        let h = torn k code broken in
        let tell : ℕ → ℕ → ℕ = (λ t x. told k t x broken) in
        let o = other_than k s in
        let io = other_in k s g is ls in
        let lo = other_hears k s g is ls in
        let back = other-back k s g is ls in
        listens k h tell s ls
        ∙ pair (heard_at k h s) (heard_at k h o) (tell o (heard_at k h o)) (tell (other_than k o) (heard_at k h (other_than k o)))
        (passed k o (heard_at k h o) broken (may_tell k o g io lo) go (ap (has broken) back ∙ gs))
        (ap (λ t. tell t (heard_at k h t)) back ∙ passed k s (heard_at k h s) broken (may_tell k s g is ls) gs go)
        (untorn k code broken s o g n is gs io go)
        ∙ sym (listens k h tell o lo)

    pub mended-agreed : Agreed (mended torn told)
    mended-agreed k code broken s t g n is gs it gt =
        let at = mended-at k code broken in
        ⊎_elim
        (λ (e : has broken k.speaker ≡ true).
        let ls : s ≡ k.speaker → ⊥ = (λ q. both_ways (has broken s) gs (ap (has broken) q ∙ e)) in
        let lt : t ≡ k.speaker → ⊥ = (λ q. both_ways (has broken t) gt (ap (has broken) q ∙ e)) in
        ⊎_elim
        (λ (q : t ≡ s). ap (heard_at k (mended torn told k code broken)) (sym q))
        (λ (q : t ≡ s → ⊥).
        let o : t ≡ other_than k s = other-only k s g is ls t it lt q in
        at s g is ∙ mended-pair k code broken s g n is gs ls (ap (has broken) (sym o) ∙ gt)
        ∙ ap (mended_at k (torn k code broken) (λ t x. told k t x broken)) (sym o) ∙ sym (at t g it))
        (cases_eq t s))
        (λ (e : has broken k.speaker ≡ false).
        mended-spoken spoken k code broken s g n e is gs ∙ sym (mended-spoken spoken k code broken t g n e it gt))
        (cases_Bool (has broken k.speaker))
