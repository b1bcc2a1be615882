-- How strings and blobs are told from their bytes. Assumes nothing.
use Rattle.std.proofs.Common.{◌≡◌, ℕ, ◌+◌, List, [], ◌∷◌, ◌++◌, length, get_or, take, ℤ, pos, nat_abs, sym, refl, ap, ◌∙◌, subst, ⊎_elim, arith}
use Rattle.std.proofs.lemmas.List.{length-append, length_push, length-take-le, take_at, take_more, get_or_at, get_or-take, get_or_append_left, append_assoc, same_from_push}
use Rattle.std.proofs.lemmas.Bool.{cases_order}
use Rattle.packets.specs.Osc.{Plain, Filled, TextOf, NumberOf, BlobOf}
use Rattle.packets.specs.Read.{Ends}
use Rattle.packets.proofs.Cuts.{filled_cut, filled-same}
use Rattle.packets.proofs.Numbers.{number_same}

pub ends_same : (bs : List ℕ) (n m : ℕ) → Ends bs n → Ends bs m → n ≡ m
ends_same bs n m a b =
    ⊎_elim (λ e. e) (⊎_elim (λ l. absurd (b.before n l a.found)) (λ l. absurd (a.before m l b.found))) (cases_order n m)

-- a string's bytes, its zero byte, and all that stands behind
pub text-split : {s bs rest : List ℕ} (t : TextOf s bs rest) → bs ≡ s ++ (0 ∷ (t.filled.fill ++ rest))
text-split {s} {bs} {rest} t = t.filled.split ∙ append_assoc s (0 ∷ []) (t.filled.fill ++ rest)

-- a string ends at the first zero byte
pub text-ends : {s bs rest : List ℕ} → TextOf s bs rest → Ends bs (length s)
text-ends {s} {bs} {rest} t =
    let e = text-split t in
    record {
      before = λ k l z. t.plain k l (sym (get_or_append_left s (0 ∷ (t.filled.fill ++ rest)) 0 k l) ∙ ap (λ x. get_or x k 0) (sym e) ∙ z);
      found = ap (λ x. get_or x (length s) 0) e ∙ get_or_at s 0 (t.filled.fill ++ rest) 0 (length s) refl;
      within = omega (arith, ap length e, length-append s (0 ∷ (t.filled.fill ++ rest)));
    }

-- the string that ends at n
pub text-made : (bs part rest : List ℕ) (n : ℕ) → Ends bs n → length part ≡ n + 1 → Filled part bs rest → TextOf (take n part) bs rest
text-made bs part rest n h e f =
    let len : length (take n bs) ≡ n = length-take-le n bs (omega (arith, h.within)) in
    let whole : part ≡ take n bs ++ (0 ∷ []) = (filled_cut f).front ∙ ap (λ k. take k bs) e ∙ take_more bs n 0 h.within ∙ ap (λ x. take n bs ++ (x ∷ [])) h.found in
    let same : take n part ≡ take n bs = ap (take n) whole ∙ take_at (take n bs) (0 ∷ []) n len in
    subst (λ s. TextOf s bs rest) (sym same) (record {
      filled = subst (λ p. Filled p bs rest) whole f;
      plain = λ k l z. h.before k (omega arith) (sym (get_or-take n bs k 0 (omega arith)) ∙ z);
    })

-- there is no string where too few bytes stand up to its fill
pub text-refused : (bs : List ℕ) (n : ℕ) → Ends bs n → ((part rest : List ℕ) → Filled part bs rest → length part ≡ n + 1 → ⊥) → (s rest : List ℕ) → TextOf s bs rest → ⊥
text-refused bs n h none s rest t =
    none (s ++ (0 ∷ [])) rest t.filled (length_push s 0 ∙ ap (λ k. k + 1) (ends_same bs (length s) n (text-ends t) h))

-- there is no string where no zero byte stands
pub text_unended : (bs : List ℕ) → Plain bs → (s rest : List ℕ) → TextOf s bs rest → ⊥
text_unended bs plain s rest t = let h = text-ends t in plain (length s) h.within h.found

pub text_same : {s t bs r q : List ℕ} → TextOf s bs r → TextOf t bs q → (s ≡ t) × (r ≡ q)
text_same {s} {t} {bs} a b =
    let e = ends_same bs (length s) (length t) (text-ends a) (text-ends b) in
    let f = filled-same a.filled b.filled (length_push s 0 ∙ ap (λ k. k + 1) e ∙ sym (length_push t 0)) in
    ((same_from_push s t 0 0 f.0).0, f.1)

-- a blob behind a size that was read
pub blob-filled : {b bs rest behind : List ℕ} {z : ℤ} → NumberOf z bs behind → BlobOf b bs rest → (z ≡ pos (length b)) × Filled b behind rest
blob-filled {b} {bs} {rest} k h =
    let same = number_same k h.size in
    (same.0, subst (λ x. Filled b x rest) (sym same.1) h.filled)

pub blob-made : (z : ℤ) (bs behind b rest : List ℕ) → NumberOf z bs behind → z ≡ pos (length b) → Filled b behind rest → BlobOf b bs rest
blob-made z bs behind b rest k e f = record { behind = behind; size = subst (λ x. NumberOf x bs behind) e k; filled = f }

pub blob-same : {b a bs r q : List ℕ} → BlobOf b bs r → BlobOf a bs q → (b ≡ a) × (r ≡ q)
blob-same h k =
    let x = blob-filled k.size h in
    filled-same x.1 k.filled (sym (ap nat_abs x.0))
