-- The list of the kings of each station.
use Rattle.std.proofs.Common.{◌≡◌, ℕ, suc, zero, ◌+◌, ◌<◌, ◌≤◌, Bool, true, map, ◌∷◌, length, get_or, Option, Some, Vec, Global, vec_items, refl, ap, ◌∙◌, arith, ltb}
use Rattle.std.specs.List.{filter_map, range_with_len}
use Rattle.std.specs.Result.{result_ok}
use Rattle.std.proofs.lemmas.Bool.{lt-ltb}
use Rattle.std.proofs.lemmas.List.FromFn.{length-map-range_with_len, get_or-map-range_with_len}
use Rattle.rules.specs.declared.king.Kings.{Kings}
use Rattle.rules.specs.Kings.{kings_of, kings_of_station}
use Rattle.planner.specs.Plans.{KingsOfAll}

-- where h gives something at each number of the range, all of it is kept
filter_map-range : {X : Type 0} (h : ℕ → Option X) (f : ℕ → X) (a n : ℕ) → ((c : ℕ) → a ≤ c → c < a + n → h c ≡ Some (f c)) → filter_map h (range_with_len a n) ≡ map f (range_with_len a n)
filter_map-range h f a zero k = refl
filter_map-range h f a (suc n) k = rw (k a (omega arith) (omega arith)) (ap (λ l. f a ∷ l) (filter_map-range h f (a + 1) n (λ c p q. k c (omega arith) (omega arith))))

-- each caller below n is a station, and has kings
pub kings_in_range : (n : ℕ) (fails : ℕ → Bool) (all : Vec Kings Global) → vec_items all ≡ filter_map (λ c. result_ok (kings_of n fails c)) (range_with_len 0 n) → KingsOfAll n fails all
kings_in_range n fails all e =
    let f = kings_of_station n fails in
    let here : vec_items all ≡ map f (range_with_len 0 n) = e ∙ filter_map-range _ f 0 n (λ c p q. let t : ltb c n ≡ true = lt-ltb c n (omega arith) in rw t refl) in
    record {
      count = ap length here ∙ length-map-range_with_len f 0 n;
      kings = λ c d l. ap (λ l. get_or l c d) here ∙ get_or-map-range_with_len f 0 n c c d l (omega arith);
    }
