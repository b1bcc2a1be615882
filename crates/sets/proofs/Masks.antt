-- Masks and their members: what has, mask_of and the bit operations say of each other.
use Rattle.std.proofs.Common.{◌≡◌, ℕ, zero, suc, ◌+◌, ◌-◌, ◌*◌, ◌/◌, ◌%◌, ◌^◌, ◌<◌, ◌≤◌, Bool, true, false, cond, ◌&&◌, ◌||◌, eqb, sym, refl, ap, ◌∙◌, ap₂, ⊎_elim, mod-lt, mod-eq_of_lt, mul_assoc, add_comm, pow-suc, div-add-mod', add-one, arith, pow_pos, pow_mono, pow-add}
use native.Mathlib.Nat.{div-eq_of_lt, add-mul-div_right}
use lib.Bits.{bit_and, bit_or, and_shr, or_shr, and_mod, or_mod}
use lib.Pow.{high}
use Rattle.std.proofs.lemmas.Bool.{cases_lt, eq-eqb, ne_eqb, cases_eq}
use Rattle.std.proofs.lemmas.Nat.{div_below}
use Rattle.std.proofs.lemmas.Bool.Decides.{nat_tests}
use Rattle.sets.specs.Sets.{has, mask_of}

-- one digit
bit_and_lem : (x y : ℕ) → x < 2 → y < 2 → eqb (bit_and x y) 1 ≡ (eqb x 1 && eqb y 1)
bit_and_lem zero y hx hy = refl
bit_and_lem (suc zero) zero hx hy = refl
bit_and_lem (suc zero) (suc zero) hx hy = refl
bit_and_lem (suc zero) (suc (suc y)) hx hy = absurd (omega arith)
bit_and_lem (suc (suc x)) y hx hy = absurd (omega arith)

bit_or_lem : (x y : ℕ) → x < 2 → y < 2 → eqb (bit_or x y) 1 ≡ (eqb x 1 || eqb y 1)
bit_or_lem zero y hx hy = refl
bit_or_lem (suc zero) zero hx hy = refl
bit_or_lem (suc zero) (suc zero) hx hy = refl
bit_or_lem (suc zero) (suc (suc y)) hx hy = absurd (omega arith)
bit_or_lem (suc (suc x)) y hx hy = absurd (omega arith)

pub has_and : (a b i : ℕ) → has (bit_and a b) i ≡ (has a i && has b i)
unfolding has
has_and a b i =
    ap (λ x. eqb (x % 2) 1) (and_shr a b i)
    ∙ ap (λ x. eqb x 1) (and_mod (a / 2 ^ i) (b / 2 ^ i) 1)
    ∙ bit_and_lem (a / 2 ^ i % 2) (b / 2 ^ i % 2) (omega arith) (omega arith)

pub has_or : (a b i : ℕ) → has (bit_or a b) i ≡ (has a i || has b i)
unfolding has
has_or a b i =
    ap (λ x. eqb (x % 2) 1) (or_shr a b i)
    ∙ ap (λ x. eqb x 1) (or_mod (a / 2 ^ i) (b / 2 ^ i) 1)
    ∙ bit_or_lem (a / 2 ^ i % 2) (b / 2 ^ i % 2) (omega arith) (omega arith)

-- a mask below 2 ^ n has no i from n on
pub has-high : (n a i : ℕ) → a < 2 ^ n → n ≤ i → has a i ≡ false
unfolding has
has-high n a i lt le =
    let up : 2 ^ n ≤ 2 ^ i = pow_mono le in
    let small : a < 2 ^ i = omega arith in
    ap (λ x. eqb (x % 2) 1) (div-eq_of_lt small)

-- hi * 2 ^ n + lo
has-top : (n d lo : ℕ) → lo < 2 ^ n → d < 2 → has (d * 2 ^ n + lo) n ≡ eqb d 1
unfolding has
has-top n d lo lt dl = ap (λ x. eqb (x % 2) 1) (high d n lt) ∙ ap (λ x. eqb x 1) (mod-eq_of_lt dl)

pub mask_of-lt : (n : ℕ) (f : ℕ → Bool) → mask_of n f < 2 ^ n
unfolding mask_of
mask_of-lt zero f = omega arith
mask_of-lt (suc n) f =
    let ih : mask_of n f < 2 ^ n = mask_of-lt n f in
    let p : 2 ^ suc n ≡ 2 ^ n * 2 = pow-suc 2 n in
    elim (f n) as (λ b. mask_of n f + cond b (2 ^ n) 0 < 2 ^ suc n) [ true ↦ omega arith | false ↦ omega arith ]

low-digits : (k i d lo : ℕ) → has (lo + d * 2 ^ ((k + 1) + i)) i ≡ has lo i
unfolding has
low-digits k i d lo =
    let e : 2 ^ ((k + 1) + i) ≡ 2 ^ k * 2 * 2 ^ i = pow-add 2 (k + 1) i ∙ ap (λ x. x * 2 ^ i) (ap (λ x. 2 ^ x) (add-one k) ∙ pow-suc 2 k) in
    let q : d * 2 ^ ((k + 1) + i) ≡ d * 2 ^ k * 2 * 2 ^ i = ap (λ x. d * x) e ∙ sym (mul_assoc d (2 ^ k * 2) (2 ^ i)) ∙ ap (λ x. x * 2 ^ i) (sym (mul_assoc d (2 ^ k) 2)) in
    let h : (lo + d * 2 ^ ((k + 1) + i)) / 2 ^ i ≡ lo / 2 ^ i + d * 2 ^ k * 2 = ap (λ x. (lo + x) / 2 ^ i) q ∙ add-mul-div_right lo (d * 2 ^ k * 2) (pow_pos i) in
    ap (λ x. eqb (x % 2) 1) h ∙ ap (λ x. eqb x 1) (omega arith)

pub has-low : (n d lo i : ℕ) → i < n → has (lo + d * 2 ^ n) i ≡ has lo i
has-low n d lo i lt =
    let e : n ≡ ((n - (i + 1)) + 1) + i = omega arith in
    ap (λ x. has (lo + d * 2 ^ x) i) e ∙ low-digits (n - (i + 1)) i d lo

cond_mul : (b : Bool) (x : ℕ) → cond b x 0 ≡ cond b 1 0 * x
cond_mul true x = omega arith
cond_mul false x = omega arith

digit_lt : (b : Bool) → cond b 1 0 < 2
digit_lt true = omega arith
digit_lt false = omega arith

digit_is : (b : Bool) → eqb (cond b 1 0) 1 ≡ b
digit_is true = refl
digit_is false = refl

mask_split : (n : ℕ) (f : ℕ → Bool) → mask_of (suc n) f ≡ mask_of n f + cond (f n) 1 0 * 2 ^ n
unfolding mask_of
mask_split n f = ap (λ x. mask_of n f + x) (cond_mul (f n) (2 ^ n))

pub has-mask_of : (n : ℕ) (f : ℕ → Bool) (i : ℕ) → i < n → has (mask_of n f) i ≡ f i
has-mask_of zero f i lt = absurd (omega arith)
has-mask_of (suc n) f i lt =
    ap (λ x. has x i) (mask_split n f)
    ∙ ⊎_elim
    (λ (h : i < n). has-low n (cond (f n) 1 0) (mask_of n f) i h ∙ has-mask_of n f i h)
    (λ (h : n ≤ i).
    let e : i ≡ n = omega arith in
    ap (λ x. has (mask_of n f + cond (f n) 1 0 * 2 ^ n) x) e
    ∙ ap (λ x. has x n) (add_comm (mask_of n f) (cond (f n) 1 0 * 2 ^ n))
    ∙ has-top n (cond (f n) 1 0) (mask_of n f) (mask_of-lt n f) (digit_lt (f n))
    ∙ digit_is (f n) ∙ ap f (sym e))
    (cases_lt i n)

pub has-mask_of-high : (n : ℕ) (f : ℕ → Bool) (i : ℕ) → n ≤ i → has (mask_of n f) i ≡ false
has-mask_of-high n f i le = has-high n (mask_of n f) i (mask_of-lt n f) le

-- the two parts of a mask below 2 ^ suc n
module _ (n a : ℕ) (lt : a < 2 ^ suc n) where
  parts : a % 2 ^ n + a / 2 ^ n * 2 ^ n ≡ a
  parts = add_comm (a % 2 ^ n) (a / 2 ^ n * 2 ^ n) ∙ div-add-mod' a (2 ^ n)

  pub low_part : a % 2 ^ n < 2 ^ n
  low_part = mod-lt a (pow_pos n)

  pub high_part : a / 2 ^ n < 2
  high_part = half n a lt
    where
      half : (n a : ℕ) → a < 2 ^ suc n → a / 2 ^ n < 2
      half n a lt = div_below a (2 ^ n) 2 (pow_pos n) (let p : 2 ^ suc n ≡ 2 ^ n * 2 = pow-suc 2 n in omega arith)

  pub low-has : (i : ℕ) → i < n → has a i ≡ has (a % 2 ^ n) i
  low-has i h = ap (λ x. has x i) (sym parts) ∙ has-low n (a / 2 ^ n) (a % 2 ^ n) i h

  pub high-has : has a n ≡ eqb (a / 2 ^ n) 1
  high-has = ap (λ x. has x n) (sym (div-add-mod' a (2 ^ n))) ∙ has-top n (a / 2 ^ n) (a % 2 ^ n) low_part high_part

digit_same : (x y : ℕ) → x < 2 → y < 2 → eqb x 1 ≡ eqb y 1 → x ≡ y
digit_same x y hx hy e = grind (arith, nat_tests)

-- two masks with the same stations are equal
pub mask_ext : (n a b : ℕ) → a < 2 ^ n → b < 2 ^ n → ((i : ℕ) → i < n → has a i ≡ has b i) → a ≡ b
mask_ext zero a b la lb h = omega arith
mask_ext (suc n) a b la lb h =
    let lo : a % 2 ^ n ≡ b % 2 ^ n = mask_ext n (a % 2 ^ n) (b % 2 ^ n) (low_part n a la) (low_part n b lb)
    (λ i l. sym (low-has n a la i l) ∙ h i (omega arith) ∙ low-has n b lb i l) in
    let hi : a / 2 ^ n ≡ b / 2 ^ n = digit_same (a / 2 ^ n) (b / 2 ^ n) (high_part n a la) (high_part n b lb)
    (sym (high-has n a la) ∙ h n (omega arith) ∙ high-has n b lb) in
    sym (parts n a la) ∙ ap₂ (λ x y. x + y * 2 ^ n) lo hi ∙ parts n b lb

pub mask_of-has : (n a : ℕ) → a < 2 ^ n → mask_of n (has a) ≡ a
mask_of-has n a lt = mask_ext n (mask_of n (has a)) a (mask_of-lt n (has a)) lt (λ i h. has-mask_of n (has a) i h)

-- a mask of n bits is the set of the i below n that it has
pub mask_is : (n a : ℕ) (f : ℕ → Bool) → a < 2 ^ n → ((i : ℕ) → i < n → has a i ≡ f i) → a ≡ mask_of n f
mask_is n a f lt h = mask_ext n a (mask_of n f) lt (mask_of-lt n f) (λ i l. h i l ∙ sym (has-mask_of n f i l))

-- the empty set has no station
pub has-none : (i : ℕ) → has 0 i ≡ false
has-none i = has-high 0 0 i (omega arith) (omega arith)

-- the set of station k alone
pub has_one : (k i : ℕ) → has (2 ^ k) i ≡ eqb k i
has_one k i =
    ap (λ x. has x i) (let p : 2 ^ k ≡ 0 + 1 * 2 ^ k = omega arith in p)
    ∙ ⊎_elim
    (λ (h : i < k). has-low k 1 0 i h ∙ has-none i ∙ sym (ne_eqb k i (λ e. omega arith)))
    (λ (h : k ≤ i). ⊎_elim
    (λ (e : k ≡ i). ap (λ x. has (0 + 1 * 2 ^ k) x) (sym e) ∙ ap (λ x. has x k) (add_comm 0 (1 * 2 ^ k)) ∙ has-top k 1 0 (pow_pos k) (omega arith) ∙ sym (eq-eqb k i e))
    (λ (e : k ≡ i → ⊥). has-high (suc k) (0 + 1 * 2 ^ k) i (let p : 2 ^ suc k ≡ 2 ^ k * 2 = pow-suc 2 k in let q : 0 < 2 ^ k = pow_pos k in omega arith) (omega arith) ∙ sym (ne_eqb k i e))
    (cases_eq k i))
    (cases_lt i k)
