-- What is said of a cue after r of its rounds.
use Rattle.std.proofs.Common.{◌≡◌, ℕ, ◌+◌, ◌*◌, ◌%◌, ◌<◌, ◌≤◌, Bool, true, false, ◌≢◌, sym, ap, ◌∙◌, inl, inr}
use Rattle.std.proofs.lemmas.Bool.{cases_Bool, both_ways}
use Rattle.rigs.specs.Lines.{silence}
use Rattle.agreement.specs.Meanings.{Rule}
use Rattle.agreement.specs.Rounds.{fails}
use Rattle.agreement.proofs.Kings.{sender}

-- b contains all of bad, and can fail
pub record Cover (R : Rule) (bad b : ℕ → Bool) : Type 0 where
  pub more : (i : ℕ) → i < R.n → bad i ≡ true → b i ≡ true
  pub can : fails R b ≡ true

-- all stations outside b hold w
abbrev pub Agreed : ℕ → (ℕ → Bool) → (ℕ → ℕ) → ℕ → Type 0
Agreed n b held w = (i : ℕ) → i < n → b i ≡ false → held i ≡ w

-- all stations outside b are lit
abbrev pub Lights : ℕ → (ℕ → Bool) → (ℕ → Bool) → Type 0
Lights n b lit = (i : ℕ) → i < n → b i ≡ false → lit i ≡ true

-- what is true after r rounds of a cue that `caller` opened with the word of this code, where the stations of bad are broken
pub record Facts (R : Rule) (words : ℕ → Bool) (caller code r : ℕ) (bad : ℕ → Bool) (held : ℕ → ℕ) (lit : ℕ → Bool) : Type 0 where
  -- no station holds silence
  pub casts : (p : ℕ) → p < R.n → held p ≢ silence
  -- every station holds a word, but after a weak round
  pub said : r % 3 ≢ 2 → (p : ℕ) → p < R.n → words (held p) ≡ true
  -- at the opening the caller holds its word and no lamp is lit
  pub start : r ≡ 0 → (held caller ≡ code) × ((p : ℕ) → p < R.n → lit p ≡ false)
  -- after a weak round good stations that hold words hold one
  pub weak : r % 3 ≡ 2 → (p q : ℕ) → p < R.n → q < R.n → bad p ≡ false → bad q ≡ false → words (held p) ≡ true → words (held q) ≡ true → held p ≡ held q
  -- after a graded round all good stations hold the word of a good one that is lit
  pub graded : r % 3 ≡ 0 → 1 ≤ r → (p q : ℕ) → p < R.n → q < R.n → bad p ≡ false → bad q ≡ false → lit p ≡ true → held q ≡ held p
  -- where the caller is outside b, all outside b hold its word, and are lit after a graded round
  pub called : 1 ≤ r → (b : ℕ → Bool) → Cover R bad b → b caller ≡ false → Agreed R.n b held code × (r % 3 ≡ 0 → Lights R.n b lit)
  -- so it is, with some word, where one that has wired by now is outside b
  pub ruled : (j : ℕ) → 3 * j + 1 ≤ r → (b : ℕ → Bool) → Cover R bad b → b (sender caller j) ≡ false
      → (w : ℕ) × (words w ≡ true) × Agreed R.n b held w × (r % 3 ≡ 0 → Lights R.n b lit)
  -- where all outside b are lit, they hold one word
  pub lights : (b : ℕ → Bool) → Cover R bad b → Lights R.n b lit → (w : ℕ) × (words w ≡ true) × Agreed R.n b held w

-- a station outside b is good
pub outside : (R : Rule) (bad b : ℕ → Bool) → Cover R bad b → (i : ℕ) → i < R.n → b i ≡ false → bad i ≡ false
outside R bad b c i l e = elim (cases_Bool (bad i)) [ inl t ↦ absurd (both_ways (b i) e (c.more i l t)) | inr f ↦ f ]

-- the same facts of what is equal at each station
pub facts-same : (R : Rule) (words : ℕ → Bool) (caller code r : ℕ) (bad : ℕ → Bool) (held held' : ℕ → ℕ) (lit lit' : ℕ → Bool) → caller < R.n
    → ((p : ℕ) → p < R.n → held' p ≡ held p) → ((p : ℕ) → p < R.n → lit' p ≡ lit p)
    → Facts R words caller code r bad held lit → Facts R words caller code r bad held' lit'
facts-same R words caller code r bad held held' lit lit' lc eh el f =
    record {
      casts = λ p l x. f.casts p l (sym (eh p l) ∙ x);
      said = λ x p l. ap words (eh p l) ∙ f.said x p l;
      start = λ x. (eh caller lc ∙ (f.start x).0, λ p l. el p l ∙ (f.start x).1 p l);
      weak = λ x p q lp lq gp gq wp wq.
          eh p lp ∙ (f.weak x p q lp lq gp gq (ap words (sym (eh p lp)) ∙ wp) (ap words (sym (eh q lq)) ∙ wq) ∙ sym (eh q lq));
      graded = λ x y p q lp lq gp gq t. eh q lq ∙ (f.graded x y p q lp lq gp gq (sym (el p lp) ∙ t) ∙ sym (eh p lp));
      called = λ x b c o. let t = f.called x b c o in (λ i l e. eh i l ∙ t.0 i l e, λ y i l e. el i l ∙ t.1 y i l e);
      ruled = λ j x b c o. let t = f.ruled j x b c o in (t.0, t.1, λ i l e. eh i l ∙ t.2 i l e, λ y i l e. el i l ∙ t.3 y i l e);
      lights = λ b c z. let t = f.lights b c (λ i l e. sym (el i l) ∙ z i l e) in (t.0, t.1, λ i l e. eh i l ∙ t.2 i l e);
    }

-- the facts stay where more stations are broken
pub facts-more : (R : Rule) (words : ℕ → Bool) (caller code r : ℕ) (bad bad' : ℕ → Bool) (held : ℕ → ℕ) (lit : ℕ → Bool)
    → ((p : ℕ) → p < R.n → bad p ≡ true → bad' p ≡ true) → Facts R words caller code r bad held lit → Facts R words caller code r bad' held lit
facts-more R words caller code r bad bad' held lit up f =
    record {
      casts = f.casts;
      said = f.said;
      start = f.start;
      weak = λ x p q lp lq gp gq. f.weak x p q lp lq (was p lp gp) (was q lq gq);
      graded = λ x y p q lp lq gp gq. f.graded x y p q lp lq (was p lp gp) (was q lq gq);
      called = λ x b c. f.called x b (wide b c);
      ruled = λ j x b c. f.ruled j x b (wide b c);
      lights = λ b c. f.lights b (wide b c);
    }
  where
    was : (p : ℕ) → p < R.n → bad' p ≡ false → bad p ≡ false
    was p l e = elim (cases_Bool (bad p)) [ inl t ↦ absurd (both_ways (bad' p) e (up p l t)) | inr x ↦ x ]

    wide : (b : ℕ → Bool) → Cover R bad' b → Cover R bad b
    wide b c = record { more = λ i l t. c.more i l (up i l t); can = c.can }
