-- How strings, numbers and blobs are told from their bytes. Assumes nothing.
use Rattle.std.proofs.Common.{◌≡◌, ℕ, ◌+◌, ◌≤◌, List, [], ◌∷◌, ◌++◌, length, take, drop, sym, refl, ap, ◌∙◌, subst, arith}
use Rattle.std.proofs.lemmas.List.{length-append, length-drop, take-append-drop, drop-drop, take_at, drop_at, length-take-le, append_assoc}
use Rattle.std.specs.List.{AllByRecursion}
use Rattle.packets.specs.Osc.{Filled, FillByte}
use Rattle.packets.specs.Encode.{fill_len}

-- any bytes may fill
pub any_fills : (bs : List ℕ) → AllByRecursion FillByte bs
any_fills [] = tt
any_fills (b ∷ bs) = (tt, any_fills bs)

-- how long a part's fill is
pub fill-length : {part bs rest : List ℕ} (f : Filled part bs rest) → length f.fill ≡ fill_len (length part)
fill-length {part} f = omega (arith, f.few, f.whole)

-- where a part and what stands behind its fill are found
pub record Cut (part bs rest : List ℕ) (n m : ℕ) : Type 0 where
  pub front : part ≡ take n bs
  pub back : rest ≡ drop m bs
  pub room : m ≤ length bs
  pub size : length bs ≡ m + length rest

pub filled_cut : {part bs rest : List ℕ} → Filled part bs rest → Cut part bs rest (length part) (length part + fill_len (length part))
filled_cut {part} {bs} {rest} f =
    let whole : bs ≡ (part ++ f.fill) ++ rest = f.split ∙ sym (append_assoc part f.fill rest) in
    let long : length (part ++ f.fill) ≡ length part + fill_len (length part) = length-append part f.fill ∙ ap (λ n. length part + n) (fill-length f) in
    let all = ap length whole ∙ length-append (part ++ f.fill) rest in
    record {
      front = sym (ap (take (length part)) f.split ∙ take_at part (f.fill ++ rest) (length part) refl);
      back = sym (ap (drop (length part + fill_len (length part))) whole ∙ drop_at (part ++ f.fill) rest (length part + fill_len (length part)) long);
      room = omega arith;
      size = omega arith;
    }

pub filled-made : (bs : List ℕ) (n : ℕ) → n + fill_len n ≤ length bs → Filled (take n bs) bs (drop (n + fill_len n) bs)
filled-made bs n room =
    let k : ℕ = fill_len n in
    let len : length (take n bs) ≡ n = length-take-le n bs (omega arith) in
    let few : length (take k (drop n bs)) ≡ k = length-take-le k (drop n bs) (simp length-drop (omega arith)) in
    record {
      fill = take k (drop n bs);
      split = sym (take-append-drop n bs) ∙ ap (λ x. take n bs ++ x) (sym (take-append-drop k (drop n bs)) ∙ ap (λ x. take k (drop n bs) ++ x) (drop-drop k n bs));
      few = omega arith;
      whole = omega arith;
      each = any_fills (take k (drop n bs));
    }

-- parts of one length at the front of the same bytes are the same, and so is what stands behind
pub filled-same : {p q bs r t : List ℕ} → Filled p bs r → Filled q bs t → length p ≡ length q → (p ≡ q) × (r ≡ t)
filled-same {p} {q} {bs} a b e =
    let x = filled_cut a in
    let y = filled_cut b in
    (x.front ∙ ap (λ n. take n bs) e ∙ sym y.front, x.back ∙ ap (λ n. drop (n + fill_len n) bs) e ∙ sym y.back)

-- two cuts, of a part and of its fill
pub filled_at : (bs part behind rest : List ℕ) (n k : ℕ) → part ≡ take n bs → behind ≡ drop n bs → k ≡ fill_len n → rest ≡ drop k behind → k ≤ length behind → n ≤ length bs → Filled part bs rest
filled_at bs part behind rest n k p b e r l m =
    let long = ap length b ∙ length-drop n bs in
    let back : drop (n + fill_len n) bs ≡ rest = sym (r ∙ ap (drop k) b ∙ drop-drop k n bs ∙ ap (λ x. drop (n + x) bs) e) in
    subst (λ x. Filled x bs rest) (sym p) (subst (Filled (take n bs) bs) back (filled-made bs n (omega arith)))
