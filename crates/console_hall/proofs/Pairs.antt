-- The numbers of bytes taken two by two are the entries.
use Rattle.std.proofs.Common.{◌≡◌, ℕ, zero, suc, ◌+◌, ◌*◌, List, ◌∷◌, map, get_or, take, drop, refl, ap, ◌∙◌, arith}
use Rattle.std.specs.Int.{w16, from_be_bytes}
use Rattle.std.specs.List.{range_with_len}
use Rattle.std.specs.Simd.{first_chunks}
use Rattle.std.proofs.lemmas.List.{get_or-take, get_or-drop, drop-drop}
use Rattle.console_hall.specs.Making.{entry_at}

pair_is : (xs : List ℕ) (a : ℕ) → from_be_bytes w16 (take 2 (drop (2 * a) xs)) ≡ entry_at xs a
pair_is xs a =
    let ys = drop (2 * a) xs in
    let high : get_or (take 2 ys) 0 0 ≡ get_or xs (2 * a) 0 = get_or-take 2 ys 0 0 (omega arith) ∙ get_or-drop (2 * a) xs 0 0 ∙ ap (λ i. get_or xs i 0) (omega arith) in
    let low : get_or (take 2 ys) 1 0 ≡ get_or xs (2 * a + 1) 0 = get_or-take 2 ys 1 0 (omega arith) ∙ get_or-drop (2 * a) xs 1 0 in
    omega arith

pub pairs_are : (xs : List ℕ) (a k : ℕ) → map (from_be_bytes w16) (first_chunks 2 k (drop (2 * a) xs)) ≡ map (entry_at xs) (range_with_len a k)
pairs_are xs a zero = refl
pairs_are xs a (suc k) =
    ap (λ z. z ∷ map (from_be_bytes w16) (first_chunks 2 k (drop 2 (drop (2 * a) xs)))) (pair_is xs a)
    ∙ ap (λ ys. entry_at xs a ∷ map (from_be_bytes w16) (first_chunks 2 k ys)) (drop-drop 2 (2 * a) xs ∙ ap (λ n. drop n xs) (omega arith))
    ∙ ap (λ zs. entry_at xs a ∷ zs) (pairs_are xs (a + 1) k)
