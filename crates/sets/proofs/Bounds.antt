-- Masks that have stations below n alone, and all of them.
use Rattle.std.proofs.Common.{◌≡◌, ℕ, zero, suc, ◌+◌, ◌-◌, ◌^◌, ◌<◌, ◌≤◌, Bool, true, false, cond, not, ◌||◌, eqb, ltb, sym, refl, ap, ◌∙◌, subst, ⊎_elim, pow-suc, arith, pow_pos, pow_mono}
use Rattle.std.proofs.lemmas.Bool.{cases_lt, cases_Bool, lt-ltb, le-ltb, ltb-true, ltb-false, ne_eqb, both_ways}
use Rattle.std.proofs.lemmas.Bool.Decides.{nat_tests}
use Rattle.sets.specs.Sets.{has, mask_of, among, Part}
use Rattle.sets.proofs.Masks.{has-high, has-mask_of, has-mask_of-high, mask_of-lt, mask_of-has, mask_ext, has_one, has-none}

-- a mask of m bits with no station from n on is below 2 ^ n
pub mask_lt_from : (n m a : ℕ) → n ≤ m → a < 2 ^ m → ((i : ℕ) → n ≤ i → i < m → has a i ≡ false) → a < 2 ^ n
mask_lt_from n m a l la h =
    let up : 2 ^ n ≤ 2 ^ m = pow_mono l in
    let lo : mask_of n (has a) < 2 ^ n = mask_of-lt n (has a) in
    let e : mask_of n (has a) ≡ a = mask_ext m (mask_of n (has a)) a (omega arith) la
    (λ i q. ⊎_elim (λ (b : i < n). has-mask_of n (has a) i b) (λ (b : n ≤ i). has-mask_of-high n (has a) i b ∙ sym (h i b q)) (cases_lt i n)) in
    subst (λ x. x < 2 ^ n) e lo

lt_pow : (a : ℕ) → a < 2 ^ a
lt_pow zero = omega arith
lt_pow (suc a) = omega (arith, lt_pow a, pow-suc 2 a)

-- the same of a number of any size
pub lt_from : (n a : ℕ) → ((i : ℕ) → has a i ≡ true → i < n) → a < 2 ^ n
lt_from n a h =
    let up : 2 ^ a ≤ 2 ^ (n + a) = pow_mono (omega arith) in
    let la : a < 2 ^ (n + a) = omega (arith, lt_pow a) in
    mask_lt_from n (n + a) a (omega arith) la (λ i l _. ⊎_elim (λ t. absurd (omega (arith, h i t))) (λ f. f) (cases_Bool (has a i)))

-- a station of a set of stations below n is below n
pub has-below : (n a i : ℕ) → a < 2 ^ n → has a i ≡ true → i < n
has-below n a i lt e = ⊎_elim (λ l. l) (λ l. absurd (both_ways (has a i) (has-high n a i lt l) e)) (cases_lt i n)

-- a part of a set of stations below n is one
pub part-lt : (n a b : ℕ) → b < 2 ^ n → Part a b → a < 2 ^ n
part-lt n a b lt p = lt_from n a (λ i e. has-below n b i lt (p i e))

-- a mask of n bits has 16 bits too
pub mask_16 : (n a : ℕ) → n ≤ 16 → a < 2 ^ n → a < 2 ^ 16
mask_16 n a l h = let up : 2 ^ n ≤ 2 ^ 16 = pow_mono l in omega arith

-- the same stations, taken below n or below m
pub mask_cut : (n m : ℕ) (f g : ℕ → Bool) → n ≤ m → ((i : ℕ) → i < n → f i ≡ g i) → ((i : ℕ) → n ≤ i → i < m → f i ≡ false) → mask_of m f ≡ mask_of n g
mask_cut n m f g l h o =
    let up : 2 ^ n ≤ 2 ^ m = pow_mono l in
    mask_ext m (mask_of m f) (mask_of n g) (mask_of-lt m f) (omega (arith, mask_of-lt n g))
    (λ i k. has-mask_of m f i k ∙ ⊎_elim (λ (b : i < n). h i b ∙ sym (has-mask_of n g i b)) (λ (b : n ≤ i). o i b k ∙ sym (has-mask_of-high n g i b)) (cases_lt i n))

-- all n stations
ones_mask : (n : ℕ) → 2 ^ n - 1 ≡ mask_of n (λ _. true)
unfolding mask_of
ones_mask zero = refl
ones_mask (suc n) = omega (arith, ones_mask n, pow-suc 2 n, pow_pos n)

pub has-ones : (n i : ℕ) → has (2 ^ n - 1) i ≡ ltb i n
has-ones n i =
    ap (λ x. has x i) (ones_mask n)
    ∙ ⊎_elim (λ (h : i < n). has-mask_of n (λ _. true) i h ∙ sym (lt-ltb i n h)) (λ (h : n ≤ i). has-mask_of-high n (λ _. true) i h ∙ sym (le-ltb i n h)) (cases_lt i n)

-- a set and the stations that it has not
both_make_all : (n : ℕ) (f : ℕ → Bool) → mask_of n f + mask_of n (λ j. not (f j)) ≡ 2 ^ n - 1
unfolding mask_of
both_make_all zero f = refl
both_make_all (suc n) f = at (f n) (both_make_all n f)
  where
    at : (b : Bool) → mask_of n f + mask_of n (λ j. not (f j)) ≡ 2 ^ n - 1 → (mask_of n f + cond b (2 ^ n) 0) + (mask_of n (λ j. not (f j)) + cond (not b) (2 ^ n) 0) ≡ 2 ^ suc n - 1
    at true h = omega (arith, pow-suc 2 n, pow_pos n)
    at false h = omega (arith, pow-suc 2 n, pow_pos n)

pub has_flipped : (a i : ℕ) → a < 2 ^ 16 → i < 16 → has (65535 - a) i ≡ not (has a i)
has_flipped a i la li =
    let e : 65535 - a ≡ mask_of 16 (λ j. not (has a j)) = omega (arith, both_make_all 16 (has a), mask_of-has 16 a la) in
    ap (λ x. has x i) e ∙ has-mask_of 16 (λ j. not (has a j)) i li

-- a station's own bit, where there is one
pub has_bit : (k i : ℕ) → i < 16 → has (cond (ltb k 16) (2 ^ k) 0) i ≡ eqb k i
has_bit k i l =
    ⊎_elim
    (λ (t : ltb k 16 ≡ true). ap (λ b. has (cond b (2 ^ k) 0) i) t ∙ has_one k i)
    (λ (f : ltb k 16 ≡ false). ap (λ b. has (cond b (2 ^ k) 0) i) f ∙ has-none i ∙ (let z : false ≡ eqb k i = grind (arith, nat_tests) in z))
    (cases_Bool (ltb k 16))

-- the bits below n, all sixteen where n is 16 or more
pub has-low_bits : (n i : ℕ) → i < 16 → has (cond (ltb n 16) (2 ^ n - 1) 65535) i ≡ ltb i n
has-low_bits n i l =
    ⊎_elim
    (λ (t : ltb n 16 ≡ true). ap (λ b. has (cond b (2 ^ n - 1) 65535) i) t ∙ has-ones n i)
    (λ (f : ltb n 16 ≡ false). ap (λ b. has (cond b (2 ^ n - 1) 65535) i) f ∙ has-ones 16 i ∙ (let z : ltb i 16 ≡ ltb i n = grind (arith, nat_tests) in z))
    (cases_Bool (ltb n 16))

-- what among says
pub among-lt : (n a : ℕ) → among n a ≡ true → a < 2 ^ n
unfolding among
among-lt n a e = ltb-true a (2 ^ n) e

pub among-over : (n a : ℕ) → among n a ≡ false → 2 ^ n ≤ a
unfolding among
among-over n a e = ltb-false a (2 ^ n) e

pub lt-among : (n a : ℕ) → a < 2 ^ n → among n a ≡ true
unfolding among
lt-among n a h = lt-ltb a (2 ^ n) h

-- one turn of a loop that collects the i with f i: i joins the set, or is passed over
pub mask_joins : (i : ℕ) (f : ℕ → Bool) → i < 16 → f i ≡ true → mask_of 16 (λ j. has (mask_of i f) j || eqb i j) ≡ mask_of (i + 1) f
mask_joins i f l t =
    mask_cut (i + 1) 16 (λ j. has (mask_of i f) j || eqb i j) f (omega arith)
    (λ j k. ⊎_elim
    (λ (b : j < i). ap (λ x. x || eqb i j) (has-mask_of i f j b) ∙ ap (λ x. f j || x) (ne_eqb i j (omega arith)) ∙ (let z : (f j || false) ≡ f j = grind (arith, nat_tests) in z))
    (λ (b : i ≤ j). let e : i ≡ j = omega arith in (let z : (has (mask_of i f) j || eqb i j) ≡ true = grind (arith, nat_tests) in z) ∙ sym t ∙ ap f e)
    (cases_lt j i))
    (λ j k _. ap (λ x. x || eqb i j) (has-mask_of-high i f j (omega arith)) ∙ ne_eqb i j (omega arith))

pub mask_skips : (i : ℕ) (f : ℕ → Bool) → f i ≡ false → mask_of i f ≡ mask_of (i + 1) f
mask_skips i f t = sym (mask_cut i (i + 1) f f (omega arith) (λ j _. refl) (λ j k l. let e : j ≡ i = omega arith in ap f e ∙ t))
