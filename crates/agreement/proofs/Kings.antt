-- The caller and its kings: who wires in which round, and one of them outside every set that can fail.
use Rattle.std.proofs.Common.{◌≡◌, ℕ, ◌<◌, ◌≤◌, Bool, true, false, cond, not, ◌&&◌, ◌||◌, eqb, ◌≢◌, ◌⊎◌, sym, refl, ap, ◌∙◌, inl, inr, ⊎_elim, arith}
use Rattle.std.proofs.lemmas.Bool.{cases_Bool, both_ways, cond-true, eqb-true, ne_eqb, not-true, not_from_false, or_cases, and_from, and_parts, le-leb}
use Rattle.std.proofs.lemmas.Bool.Decides.{nat_tests}
use Rattle.sets.specs.Sets.{has, mask_of}
use Rattle.sets.proofs.Masks.{has-mask_of}
use Rattle.rules.specs.Kings.{others_below, first_others, with_caller, king_count, king, KingFacts}
use Rattle.rules.proofs.KingLaws.{all_cannot, others-few, first_below, facts}
use Rattle.rigs.specs.Keys.{good_wire}
use Rattle.rigs.proofs.Trios.{wire-good}
use Rattle.agreement.specs.Meanings.{Rule, LawfulRule}
use Rattle.agreement.specs.Rounds.{fails, Setting, wire_reading, wire_key, wired_to, kings}
use Rattle.agreement.proofs.Searches.{find, smallest_hit}
use Rattle.agreement.proofs.Failing.{mask_in}
use Rattle.agreement.proofs.Vote.{Sound}

-- who wires in round 3j + 1: the caller where j is 0, else king number j
abbrev pub sender : ℕ → ℕ → ℕ
sender caller j = cond (eqb j 0) caller (king caller j)

pub sender-below : (n caller j : ℕ) → caller < n → j < n → sender caller j < n
sender-below n caller j lc lj = grind (arith, nat_tests)

module _ (R : Rule) (L : LawfulRule R) (caller : ℕ) (lc : caller < R.n) where
  together : ℕ → ℕ
  together k = with_caller caller (first_others R.n caller k)

  kings_hit : (j : ℕ) → j < R.n → R.can_fail (together j) ≡ false → (kings R caller ≤ j) × (R.can_fail (together (kings R caller)) ≡ false)
  unfolding kings king_count together
  kings_hit j l e =
      let t = smallest_hit R.n (λ k. not (R.can_fail (together k))) R.n j l (not_from_false _ e) in
      (t.0, not-true _ t.1)

  kings-all : (kings R caller ≤ others_below caller R.n) × (R.can_fail (together (kings R caller)) ≡ false)
  unfolding together
  kings-all = kings_hit (others_below caller R.n) (others-few caller R.n R.n (omega arith) lc) (all_cannot R.n R.can_fail L.sized L.apart caller lc)

  pub kings-few : kings R caller < R.n
  kings-few = omega (arith, kings-all.0, others-few caller R.n R.n (omega arith) lc)

  -- with fewer kings than that they can fail
  fewer : (j : ℕ) → j < kings R caller → R.can_fail (together j) ≡ true
  fewer j l =
      ⊎_elim (λ t. t) (λ e. absurd (omega (arith, (kings_hit j (omega (arith, kings-few)) e).0))) (cases_Bool (R.can_fail (together j)))

  king-facts : KingFacts R.n R.can_fail (record { caller = caller; set = first_others R.n caller (kings R caller); count = kings R caller })
  unfolding together
  king-facts = facts R.n R.can_fail L.sized L.apart caller lc L.single (kings R caller) kings-few fewer kings-all.1

  -- outside a set that can fail stands the caller or a king
  pub good-king : (b : ℕ → Bool) → fails R b ≡ true → (j : ℕ) × (j ≤ kings R caller) × (b (sender caller j) ≡ false)
  unfolding fails
  good-king b can = go (find R.n (λ s. has all s && not (b s)))
    where
      set : ℕ
      set = first_others R.n caller (kings R caller)

      all : ℕ
      all = with_caller caller set

      is_in : (s : ℕ) → s < 16 → has all s ≡ (has set s || eqb caller s)
      is_in s l = has-mask_of 16 (λ s. has set s || eqb caller s) s l

      low : (s : ℕ) → has all s ≡ true → s < R.n
      low s e =
          let l = mask_in 16 (λ s. has set s || eqb caller s) s e in
          ⊎_elim (λ (x : has set s ≡ true). first_below R.n caller (kings R caller) s x) (λ (x : eqb caller s ≡ true). omega (arith, eqb-true caller s x)) (or_cases (has set s) (eqb caller s) (sym (is_in s l) ∙ e))

      go : ((s : ℕ) × (s < R.n) × ((has all s && not (b s)) ≡ true)) ⊎ ((s : ℕ) → s < R.n → (has all s && not (b s)) ≡ false) → (j : ℕ) × (j ≤ kings R caller) × (b (sender caller j) ≡ false)
      go (inr none) =
          absurd (both_ways (R.can_fail all) king-facts.together (L.part all (mask_of R.n b)
          (λ i e. has-mask_of R.n b i (low i e) ∙ elim (cases_Bool (b i)) [ inl t ↦ t | inr f ↦ absurd (both_ways _ (none i (low i e)) (and_from _ _ e (not_from_false _ f))) ]) can))
      go (inl t) =
          let s : ℕ = t.0 in
          let x = and_parts (has all s) (not (b s)) t.2 in
          let g : b s ≡ false = not-true _ x.1 in
          elim (or_cases (has set s) (eqb caller s) (sym (is_in s (omega (arith, t.1, L.sized.1))) ∙ x.0)) [
            | inr y ↦ (0, omega arith, ap b (eqb-true caller s y) ∙ g)
            | inl y ↦ (let k = king-facts.only s y in
                let e : sender caller k.0 ≡ s = later k.0 k.1 ∙ sym k.3 in
                (k.0, k.2, ap b e ∙ g))
          ]
        where
          later : (j : ℕ) → 1 ≤ j → sender caller j ≡ king caller j
          later j l = ap (λ c. cond c caller (king caller j)) (ne_eqb j 0 (omega arith))

-- Wires between good stations.

wire_reading-word : (words : ℕ → Bool) (fallback x : ℕ) → words x ≡ true → wire_reading words fallback x ≡ x
unfolding wire_reading
wire_reading-word words fallback x h = cond-true (words x) x fallback h

wire_reading-is-word : (words : ℕ → Bool) (fallback x : ℕ) → words fallback ≡ true → words (wire_reading words fallback x) ≡ true
unfolding wire_reading
wire_reading-is-word words fallback x h = at (words x) refl
  where
    at : (b : Bool) → words x ≡ b → words (cond b x fallback) ≡ true
    at true e = e
    at false e = h

-- a word that a good station wires to another arrives
pub wired_word : (n : ℕ) (e : Setting) → Sound n e → (fallback s p : ℕ) → s < n → p < n → s ≢ p → has e.broken s ≡ false → has e.broken p ≡ false → e.words (e.held s) ≡ true → wired_to e fallback s p ≡ e.held s
unfolding wired_to
wired_word n e sound fallback s p ls lp d gs gp w =
    let k : good_wire (wire_key e s p) ≡ true =
    wire-good (wire_key e s p) (and_from _ _ (le-leb 1 e.round sound.round1) (le-leb e.round 64 sound.round64)) (omega (arith, sound.n16)) (omega (arith, sound.n16)) d in
    ap (wire_reading e.words fallback) (sound.lawful.kept (wire_key e s p) (e.held s) e.broken k gs gp) ∙ wire_reading-word e.words fallback (e.held s) w

-- a station reads a word from every wire
pub wired_is_word : (e : Setting) (fallback s p : ℕ) → e.words fallback ≡ true → e.words (wired_to e fallback s p) ≡ true
unfolding wired_to
wired_is_word e fallback s p h = wire_reading-is-word e.words fallback _ h
