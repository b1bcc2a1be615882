-- Lists that are filled from their first entry on.
use Rattle.std.proofs.Common.{◌≡◌, ℕ, ◌<◌, ◌≤◌, List, ◌++◌, map, length, get_or, take, drop, replicate, sym, ap, ◌∙◌, arith, take-append-drop}
use Rattle.std.specs.List.{range_with_len}
use Rattle.std.proofs.lemmas.List.FromFn.{fill_by_all, get_or-map-range_with_len, length-map-range_with_len}
use Rattle.std.proofs.lemmas.List.{length-take, length-take-le, get_or-take, append-nil}
use Rattle.std.proofs.Math.ListN.{drop_of_length-le}
use Rattle.rigs.specs.Lines.{void}
use Rattle.agreement.specs.Sheets.{filled, sixteen}
use Rattle.rounds.specs.Stations.{Sixteen}

-- a list with f's values at its first m entries, and behind them what another list has there
pub filled_from : (f : ℕ → ℕ) (m : ℕ) (list old : List ℕ) → m ≤ length list
    → ((k : ℕ) → k < m → get_or list k 0 ≡ f k) → drop m list ≡ drop m old → list ≡ filled f m old
unfolding filled
filled_from f m list old h each tail =
    sym (take-append-drop m list)
    ∙ ap (λ (x : List ℕ). x ++ drop m list)
    (fill_by_all f (take m list) m 0 (length-take-le m list h) (λ k lt. get_or-take m list k 0 lt ∙ each k lt))
    ∙ ap (λ (x : List ℕ). map f (range_with_len 0 m) ++ x) tail

-- filling the first m entries alone, and putting the others behind them
pub filled-first : (f : ℕ → ℕ) (m : ℕ) (old : List ℕ) → filled f m (take m old) ++ drop m old ≡ filled f m old
unfolding filled
filled-first f m old =
    ap (λ (x : List ℕ). (map f (range_with_len 0 m) ++ x) ++ drop m old) (drop_of_length-le (take m old) {i = m} (omega (arith, length-take m old)))
    ∙ ap (λ (x : List ℕ). x ++ drop m old) (append-nil (map f (range_with_len 0 m)))

pub sixteen_from : (f : ℕ → ℕ) (m : ℕ) (held : List ℕ) → m ≤ length held
    → ((k : ℕ) → k < m → get_or held k 0 ≡ f k) → drop m held ≡ drop m (replicate 16 void) → held ≡ sixteen m f
unfolding sixteen
sixteen_from f m held h each tail = filled_from f m held (replicate 16 void) h each tail

pub sixteen_is : (f : ℕ → ℕ) (n : ℕ) (held : List ℕ) → n ≤ 16 → Sixteen void n f held → held ≡ sixteen n f
sixteen_is f n held few s = sixteen_from f n held (omega (arith, s.long)) (λ k lt. s.each k 0 lt) s.rest

-- only what f is at the first n stations matters
pub sixteen-same : (n : ℕ) (f g : ℕ → ℕ) → ((p : ℕ) → p < n → f p ≡ g p) → sixteen n f ≡ sixteen n g
unfolding sixteen filled
sixteen-same n f g h =
    ap (λ (x : List ℕ). x ++ drop n (replicate 16 void))
    (fill_by_all g (map f (range_with_len 0 n)) n 0 (length-map-range_with_len f 0 n) (λ k lt. get_or-map-range_with_len f 0 n k k 0 lt (omega arith) ∙ h k lt))
