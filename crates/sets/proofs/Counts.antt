-- Counting the members of sets.
use Rattle.std.proofs.Common.{◌≡◌, ℕ, zero, suc, ◌+◌, ◌/◌, ◌%◌, ◌^◌, ◌<◌, ◌≤◌, Bool, true, false, cond, not, ◌&&◌, ◌||◌, eqb, ltb, sym, refl, ap, ◌∙◌, subst, ap₂, ⊎_elim, add_comm, div-add-mod', arith, pow_mono}
use lib.Count.{ones, ones_cat}
use Rattle.std.proofs.lemmas.Bool.{cases_lt, cases_eq, ne_eqb, lt-ltb, le-ltb}
use Rattle.sets.specs.Sets.{has, count_of}
use Rattle.sets.proofs.Masks.{low_part, high_part, low-has, high-has}

pub count_of_ext : (n : ℕ) (f g : ℕ → Bool) → ((i : ℕ) → i < n → f i ≡ g i) → count_of n f ≡ count_of n g
unfolding count_of
count_of_ext zero f g h = refl
count_of_ext (suc n) f g h = ap₂ (λ x b. x + cond b 1 0) (count_of_ext n f g (λ i l. h i (omega arith))) (h n (omega arith))

ones_digit : (d : ℕ) → d < 2 → ones d ≡ cond (eqb d 1) 1 0
unfolding ones
ones_digit zero h = refl
ones_digit (suc zero) h = refl
ones_digit (suc (suc d)) h = absurd (omega arith)

pub ones-count : (n a : ℕ) → a < 2 ^ n → ones a ≡ count_of n (has a)
unfolding count_of ones
ones-count zero a lt = ap ones (let z : a ≡ 0 = omega arith in z)
ones-count (suc n) a lt =
    ap ones (sym (div-add-mod' a (2 ^ n)))
    ∙ ones_cat n (a / 2 ^ n) (a % 2 ^ n) (low_part n a lt)
    ∙ add_comm (ones (a / 2 ^ n)) (ones (a % 2 ^ n))
    ∙ ap₂ (λ x y. x + y)
    (ones-count n (a % 2 ^ n) (low_part n a lt) ∙ count_of_ext n (has (a % 2 ^ n)) (has a) (λ i h. sym (low-has n a lt i h)))
    (ones_digit (a / 2 ^ n) (high_part n a lt) ∙ ap (λ b. cond b 1 0) (sym (high-has n a lt)))

-- the same stations, counted up to n or up to 16
pub count-below : (n a : ℕ) → n ≤ 16 → a < 2 ^ n → count_of 16 (has a) ≡ count_of n (has a)
count-below n a l h =
    let up : 2 ^ n ≤ 2 ^ 16 = pow_mono l in
    sym (ones-count 16 a (omega arith)) ∙ ones-count n a h

digit_le : (x y : Bool) → (x ≡ true → y ≡ true) → cond x 1 0 ≤ cond y 1 0
digit_le true true h = omega arith
digit_le true false h = let z = h refl in grind arith
digit_le false y h = omega arith

pub count_le : (n : ℕ) (f g : ℕ → Bool) → ((i : ℕ) → i < n → f i ≡ true → g i ≡ true) → count_of n f ≤ count_of n g
unfolding count_of
count_le zero f g h = omega arith
count_le (suc n) f g h =
    let ih = count_le n f g (λ i l. h i (omega arith)) in
    let d = digit_le (f n) (g n) (h n (omega arith)) in
    omega arith

pub count-up : (n m : ℕ) (f : ℕ → Bool) → n ≤ m → count_of n f ≤ count_of m f
unfolding count_of
count-up n zero f l = let e : n ≡ 0 = omega arith in subst (λ x. count_of x f ≤ 0) (sym e) (omega arith)
count-up n (suc m) f l =
    ⊎_elim
    (λ (h : n < suc m). let ih = count-up n m f (omega arith) in omega arith)
    (λ (h : suc m ≤ n). let e : n ≡ suc m = omega arith in subst (λ x. count_of x f ≤ count_of m f + cond (f m) 1 0) (sym e) (omega arith))
    (cases_lt n (suc m))

or_digit : (x y : Bool) → cond (x || y) 1 0 ≤ cond x 1 0 + cond y 1 0
or_digit true y = omega arith
or_digit false y = omega arith

pub count_or : (n : ℕ) (f g : ℕ → Bool) → count_of n (λ i. f i || g i) ≤ count_of n f + count_of n g
unfolding count_of
count_or zero f g = omega arith
count_or (suc n) f g =
    let ih = count_or n f g in
    let d = or_digit (f n) (g n) in
    omega arith

pub count_full : (n : ℕ) (f : ℕ → Bool) → ((i : ℕ) → i < n → f i ≡ true) → count_of n f ≡ n
unfolding count_of
count_full zero f h = refl
count_full (suc n) f h =
    let ih = count_full n f (λ i l. h i (omega arith)) in
    let d : ◌≡◌ {A = ℕ} (cond (f n) 1 0) 1 = ap (λ b. cond b 1 0) (h n (omega arith)) in
    omega arith

pub count_none : (n : ℕ) (f : ℕ → Bool) → ((i : ℕ) → i < n → f i ≡ false) → count_of n f ≡ 0
unfolding count_of
count_none zero f h = refl
count_none (suc n) f h =
    let ih = count_none n f (λ i l. h i (omega arith)) in
    let d : ◌≡◌ {A = ℕ} (cond (f n) 1 0) 0 = ap (λ b. cond b 1 0) (h n (omega arith)) in
    omega arith

pub count-one : (n k : ℕ) → count_of n (λ i. eqb k i) ≤ 1
unfolding count_of
count-one zero k = omega arith
count-one (suc n) k =
    ⊎_elim
    (λ (e : k ≡ n).
    let z = count_none n (λ i. eqb k i) (λ i l. ne_eqb k i (λ q. omega arith)) in
    let d = digit_le (eqb k n) true (λ _. refl) in
    omega arith)
    (λ (e : k ≡ n → ⊥).
    let ih = count-one n k in
    let d : ◌≡◌ {A = ℕ} (cond (eqb k n) 1 0) 0 = ap (λ b. cond b 1 0) (ne_eqb k n e) in
    omega arith)
    (cases_eq k n)

-- what is above i counts for nothing
pub count_cut : (i m : ℕ) (f : ℕ → Bool) → i ≤ m → count_of m (λ s. ltb s i && f s) ≡ count_of i f
unfolding count_of
count_cut i zero f l = let e : i ≡ 0 = omega arith in subst (λ x. 0 ≡ count_of x f) (sym e) refl
count_cut i (suc m) f l =
    ⊎_elim
    (λ (h : i < suc m).
    let ih = count_cut i m f (omega arith) in
    let d : ◌≡◌ {A = ℕ} (cond (ltb m i && f m) 1 0) 0 = ap (λ b. cond (b && f m) 1 0) (le-ltb m i (omega arith)) in
    omega arith)
    (λ (h : suc m ≤ i).
    let e : i ≡ suc m = omega arith in
    count_of_ext (suc m) (λ s. ltb s i && f s) f (λ s q. ap (λ b. b && f s) (lt-ltb s i (omega arith))) ∙ ap (λ x. count_of x f) (sym e))
    (cases_lt i (suc m))

not_digit : (x : Bool) → ◌≡◌ {A = ℕ} (cond x 1 0 + cond (not x) 1 0) 1
not_digit true = refl
not_digit false = refl

pub count-not : (n : ℕ) (f : ℕ → Bool) → count_of n f + count_of n (λ i. not (f i)) ≡ n
unfolding count_of
count-not zero f = refl
count-not (suc n) f =
    let ih = count-not n f in
    let d = not_digit (f n) in
    omega arith
