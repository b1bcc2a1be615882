-- What the three stations of a trio read and have, and the six entries of what they have.
use Rattle.std.proofs.Common.{◌≡◌, ℕ, ◌<◌, sym, refl, ap, ◌∙◌, arith}
use Rattle.std.proofs.lemmas.Bool.{eq-eqb, ne_eqb, cond-true, cond-false}
use Rattle.rigs.specs.Lines.{Trio}
use Rattle.agreement.specs.Rounds.{Setting, reading, majority, hearing, vote_in}
use Rattle.rounds.specs.Votes.{readings_of, votes_of}

pub three-same : {x y z x' y' z' : ℕ} → x ≡ x' → y ≡ y' → z ≡ z' → ◌≡◌ {A = Trio} (x, y, z) (x', y', z')
three-same p q r = rw (p, q, r) refl

module _ (e : Setting) (a b c : ℕ) (ab : a < b) (bc : b < c) where
  hears_low : (s : ℕ) → hearing e a b c a s ≡ (readings_of e a b c s).0
  unfolding hearing readings_of
  hears_low s = ap (reading e.words) (cond-true _ _ _ (eq-eqb a a refl))

  hears_mid : (s : ℕ) → hearing e a b c b s ≡ (readings_of e a b c s).1
  unfolding hearing readings_of
  hears_mid s = ap (reading e.words) (cond-false _ _ _ (ne_eqb b a (λ z. omega arith)) ∙ cond-true _ _ _ (eq-eqb b b refl))

  hears_high : (s : ℕ) → hearing e a b c c s ≡ (readings_of e a b c s).2
  unfolding hearing readings_of
  hears_high s = ap (reading e.words) (cond-false _ _ _ (ne_eqb c a (λ z. omega arith)) ∙ cond-false _ _ _ (ne_eqb c b (λ z. omega arith)))

  -- what the three have is what two of their readings share
  pub votes_read : (x y z : Trio) → x ≡ readings_of e a b c a → y ≡ readings_of e a b c b → z ≡ readings_of e a b c c
      → ◌≡◌ {A = Trio} (majority x.0 y.0 z.0, majority x.1 y.1 z.1, majority x.2 y.2 z.2) (votes_of e a b c)
  unfolding votes_of vote_in
  votes_read x y z ex ey ez =
      rw (ex, ey, ez)
      (three-same
      (sym (rw (hears_low a, hears_low b, hears_low c) refl))
      (sym (rw (hears_mid a, hears_mid b, hears_mid c) refl))
      (sym (rw (hears_high a, hears_high b, hears_high c) refl)))
