-- On a rig the good ones of three stations hear the same.
use Rattle.std.proofs.Common.{◌≡◌, ℕ, true, false, ◌&&◌, ◌||◌, eqb, sym, ◌∙◌, ⊎_elim}
use Rattle.std.proofs.lemmas.Bool.{cases_Bool, or_left, or_right, and_from, eq-eqb}
use Rattle.sets.specs.Sets.{has}
use Rattle.rigs.specs.declared.keys.TrioKey.{TrioKey}
use Rattle.rigs.specs.Keys.{good_trio}
use Rattle.rigs.specs.Lines.{silence, Casts}
use Rattle.rigs.specs.Laws.{Agreed}
use Rattle.rigs.proofs.Trios.{in_a, in_b, in_c, at_a, at_b, at_c}
use Rattle.piles.specs.Hearing.{pair_alike, alike}

pair-alike : (broken s x t y : ℕ) → (has broken s ≡ false → has broken t ≡ false → x ≡ y) → pair_alike broken s x t y ≡ true
pair-alike broken s x t y h =
    ⊎_elim (λ e. or_left (has broken s || has broken t) (eqb x y) (or_left (has broken s) (has broken t) e))
    (λ gs. ⊎_elim (λ e. or_left (has broken s || has broken t) (eqb x y) (or_right (has broken s) (has broken t) e))
    (λ gt. or_right (has broken s || has broken t) (eqb x y) (eq-eqb x y (h gs gt))) (cases_Bool (has broken t)))
    (cases_Bool (has broken s))

pub all_alike : (h : Casts) → Agreed h → (k : TrioKey) (code broken : ℕ) → good_trio k ≡ true → (code ≡ silence → ⊥) → alike k broken (h k code broken) ≡ true
all_alike h agreed k code broken e n =
    let x = h k code broken in
    and_from (pair_alike broken k.a x.0 k.b x.1 && pair_alike broken k.b x.1 k.c x.2) (pair_alike broken k.a x.0 k.c x.2)
    (and_from (pair_alike broken k.a x.0 k.b x.1) (pair_alike broken k.b x.1 k.c x.2)
    (pair-alike broken k.a x.0 k.b x.1 (λ p q. sym (at_a k x) ∙ agreed k code broken k.a k.b e n (in_a k) p (in_b k) q ∙ at_b k x e))
    (pair-alike broken k.b x.1 k.c x.2 (λ p q. sym (at_b k x e) ∙ agreed k code broken k.b k.c e n (in_b k) p (in_c k) q ∙ at_c k x e)))
    (pair-alike broken k.a x.0 k.c x.2 (λ p q. sym (at_a k x) ∙ agreed k code broken k.a k.c e n (in_a k) p (in_c k) q ∙ at_c k x e))
