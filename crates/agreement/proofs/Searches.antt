-- Searches over stations and codes, and the lists of held codes.
use Rattle.std.proofs.Common.{◌≡◌, ℕ, zero, suc, ◌<◌, ◌≤◌, Bool, true, false, cond, ◌⊎◌, List, map, get_or, drop, replicate, refl, ap, ◌∙◌, inl, inr, arith}
use Rattle.std.specs.List.{range_with_len}
use Rattle.std.proofs.lemmas.List.{get_or_append_left}
use Rattle.std.proofs.lemmas.Bool.{cases_eq, cases_Bool}
use Rattle.std.proofs.lemmas.List.FromFn.{get_or-map-range_with_len, length-map-range_with_len}
use Rattle.sets.specs.Sets.{smallest}
use Rattle.rigs.specs.Lines.{void}
use Rattle.agreement.specs.Sheets.{filled, sixteen}

-- some station below n passes a test, or none does
pub find : (n : ℕ) (f : ℕ → Bool) → ((i : ℕ) × (i < n) × (f i ≡ true)) ⊎ ((i : ℕ) → i < n → f i ≡ false)
find zero f = inr (λ i h. absurd (omega arith))
find (suc n) f = go (find n f) (cases_Bool (f n))
  where
    go : ((i : ℕ) × (i < n) × (f i ≡ true)) ⊎ ((i : ℕ) → i < n → f i ≡ false) → (f n ≡ true) ⊎ (f n ≡ false)
        → ((i : ℕ) × (i < suc n) × (f i ≡ true)) ⊎ ((i : ℕ) → i < suc n → f i ≡ false)
    go (inl t) b = inl (t.0, omega arith, t.2)
    go (inr none) (inl b) = inl (n, omega arith, b)
    go (inr none) (inr b) = inr (λ i h. here i h (cases_eq i n))
      where
        here : (i : ℕ) → i < suc n → (i ≡ n) ⊎ (i ≡ n → ⊥) → f i ≡ false
        here i h (inl e) = rw e b
        here i h (inr d) = none i (omega arith)

-- the smallest that passes passes, or none does and it is the default
abbrev pub Smallest : ℕ → (ℕ → Bool) → ℕ → ℕ → Type 0
Smallest n f d s = ((s < n) × (f s ≡ true)) ⊎ ((s ≡ d) × ((i : ℕ) → i < n → f i ≡ false))

pub smallest-found : (n : ℕ) (f : ℕ → Bool) (d : ℕ) → Smallest n f d (smallest n f d)
unfolding smallest
smallest-found zero f d = inr (refl, λ i h. absurd (omega arith))
smallest-found (suc n) f d = go (f n) refl (smallest-found n f)
  where
    go : (b : Bool) → f n ≡ b → ((e : ℕ) → Smallest n f e (smallest n f e)) → Smallest (suc n) f d (smallest n f (cond b n d))
    go true fb ih = elim (ih n) [ inl t ↦ inl (omega (arith, t.0), t.1) | inr t ↦ inl (omega (arith, t.0), ap f t.0 ∙ fb) ]
    go false fb ih =
        elim (ih d) [
          | inl t ↦ inl (omega (arith, t.0), t.1)
          | inr t ↦ inr (t.0, λ i h. elim (cases_eq i n) [ inl e ↦ ap f e ∙ fb | inr x ↦ t.1 i (omega arith) ])
        ]

-- where one passes, the smallest does, and it is at most that one
pub smallest_hit : (n : ℕ) (f : ℕ → Bool) (d w : ℕ) → w < n → f w ≡ true → (smallest n f d ≤ w) × (f (smallest n f d) ≡ true)
unfolding smallest
smallest_hit zero f d w h t = absurd (omega arith)
smallest_hit (suc n) f d w h t =
    elim (cases_eq w n)
    [ inl e ↦ top (rw e at t) e (smallest-found n f n) | inr x ↦ smallest_hit n f (cond (f n) n d) w (omega arith) t ]
  where
    top : f n ≡ true → w ≡ n → Smallest n f n (smallest n f n) → (smallest n f (cond (f n) n d) ≤ w) × (f (smallest n f (cond (f n) n d)) ≡ true)
    top fb e (inl u) = rw fb (omega (arith, u.0), u.1)
    top fb e (inr u) = rw fb (omega (arith, u.0), ap f u.0 ∙ fb)

pub get_or-filled : (f : ℕ → ℕ) (n : ℕ) (old : List ℕ) (i d : ℕ) → i < n → get_or (filled f n old) i d ≡ f i
unfolding filled
get_or-filled f n old i d h =
    get_or_append_left (map f (range_with_len 0 n)) (drop n old) d i (omega (arith, length-map-range_with_len f 0 n)) ∙ get_or-map-range_with_len f 0 n i i d h (omega arith)

pub get_or-sixteen : (n : ℕ) (f : ℕ → ℕ) (i d : ℕ) → i < n → get_or (sixteen n f) i d ≡ f i
unfolding sixteen
get_or-sixteen n f i d h = get_or-filled f n (replicate 16 void) i d h
