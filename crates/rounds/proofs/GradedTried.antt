-- Which words can pass the test of a graded round: only such as are among the station's votes.
use Rattle.std.proofs.Common.{◌≡◌, ℕ, ◌+◌, ◌<◌, Bool, true, false, not, ◌&&◌, eqb, ◌⊎◌, Some, None, Option, unwrap_or, ap, inl, inr, ⊎_elim, arith}
use Rattle.std.proofs.lemmas.Bool.{eqb-true, cases_Bool, cases_lt, both_ways, and_parts, and_from, not-true, or_cases}
use Rattle.sets.specs.Sets.{any}
use Rattle.sets.proofs.Tests.{any-decides}
use Rattle.agreement.specs.Meanings.{Rule, LawfulRule}
use Rattle.agreement.specs.Rounds.{fails, in_y, graded_held}
use Rattle.agreement.proofs.Searches.{find}
use Rattle.agreement.proofs.Failing.{fails-part, fails-single}
use Rattle.rounds.specs.Searches.{under, lowest}
use Rattle.rounds.specs.Tallies.{Votes, backs}
use Rattle.rounds.proofs.Lowest.{lowest-holds, lowest-past, lowest-tried, smallest-word}

-- w is a word with a station in Y(w)
abbrev pub graded_tried : Rule → Votes → ℕ → (ℕ → Bool) → ℕ → Bool
graded_tried R v p words w = words w && any R.n (in_y R v p w)

-- w is a word and q is in Y(w)
abbrev pub row_tried : Rule → Votes → ℕ → (ℕ → Bool) → ℕ → ℕ → Bool
row_tried R v p words q w = words w && in_y R v p w q

-- the best word so far passes, and no word below it is backed by one of the first i stations
pub record Found (R : Rule) (v : Votes) (p : ℕ) (words : ℕ → Bool) (i : ℕ) (best : Option ℕ) : Type 0 where
  pub holds : (w : ℕ) → best ≡ Some w → graded_tried R v p words w ≡ true
  pub past : (w : ℕ) → under best w ≡ true → (q : ℕ) → q < i → row_tried R v p words q w ≡ false

module _ (R : Rule) (L : LawfulRule R) (v : Votes) (p : ℕ) where
  -- a station in Y(w) has a vote for w
  pub backed : (w q : ℕ) → q < R.n → in_y R v p w q ≡ true → (r : ℕ) × (r < R.n) × (v p q r ≡ w)
  unfolding in_y
  backed w q l h = go (find R.n (λ r. not (eqb r p) && eqb (v p q r) w))
    where
      none_but : ((r : ℕ) → r < R.n → (not (eqb r p) && eqb (v p q r) w) ≡ false) → (i : ℕ) → i < R.n → backs v p w q i ≡ true → eqb i q ≡ true
      none_but none i li e = elim (or_cases (eqb i q) (not (eqb i p) && eqb (v p q i) w) e) [ inl a ↦ a | inr b ↦ absurd (both_ways _ (none i li) b) ]

      go : ((r : ℕ) × (r < R.n) × ((not (eqb r p) && eqb (v p q r) w) ≡ true)) ⊎ ((r : ℕ) → r < R.n → (not (eqb r p) && eqb (v p q r) w) ≡ false) → (r : ℕ) × (r < R.n) × (v p q r ≡ w)
      go (inl t) = (t.0, t.1, eqb-true _ _ (and_parts (not (eqb t.0 p)) (eqb (v p q t.0) w) t.2).1)
      go (inr none) =
          absurd (both_ways (fails R (backs v p w q))
          (not-true _ (and_parts (not (eqb q p)) (not (fails R (backs v p w q))) h).1)
          (fails-part R L (backs v p w q) (λ s. eqb s q) (none_but none) (fails-single R L q l)))

  module _ (words : ℕ → Bool) where
    pub found_none : Found R v p words 0 None
    found_none = record { holds = λ w e. absurd (cc); past = λ w e q l. absurd (omega arith) }

    -- one turn of the graded round's search
    pub found_more : (i : ℕ) (best : Option ℕ) → i < R.n → Found R v p words i best
        → Found R v p words (i + 1) (lowest (row_tried R v p words i) (λ r. Some (v p i r)) best R.n)
    found_more i best l h =
        record {
          holds = λ w e.
              ⊎_elim (λ x. h.holds w x)
              (λ x. let a = and_parts (words w) (in_y R v p w i) x in and_from (words w) (any R.n (in_y R v p w)) a.0 ((any-decides (in_y R v p w) R.n).1 (i, l, a.1)))
              (lowest-holds t f best R.n w e);
          past = λ w e q lq.
              ⊎_elim (λ less. h.past w (lowest-past t f best R.n w e) q less)
              (λ ge. let z : q ≡ i = omega arith in rw z (tried w e))
              (cases_lt q i);
        }
      where
        t : ℕ → Bool
        t = row_tried R v p words i

        f : ℕ → Option ℕ
        f r = Some (v p i r)

        tried : (w : ℕ) → under (lowest t f best R.n) w ≡ true → t w ≡ false
        tried w e =
            ⊎_elim
            (λ x. let b = backed w i l (and_parts (words w) (in_y R v p w i) x).1 in lowest-tried t f best R.n w b.0 b.1 (ap (λ c. Some c) b.2) e)
            (λ x. x)
            (cases_Bool (t w))

    -- its end
    pub found_all : ((x : ℕ) → words x ≡ true → x < 4096) → (best : Option ℕ) → Found R v p words R.n best → (d : ℕ) → unwrap_or best d ≡ graded_held R words d v p
    unfolding graded_held
    found_all small best h d =
        smallest-word (graded_tried R v p words) (λ w e. small w (and_parts (words w) (any R.n (in_y R v p w)) e).0) best h.holds
        (λ w e.
        ⊎_elim
        (λ x.
        let a = and_parts (words w) (any R.n (in_y R v p w)) x in
        let s = (any-decides (in_y R v p w) R.n).0 a.1 in
        absurd (both_ways _ (h.past w e s.0 s.1) (and_from (words w) (in_y R v p w s.0) a.0 s.2)))
        (λ x. x)
        (cases_Bool (graded_tried R v p words w)))
        d
