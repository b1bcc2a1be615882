-- What the tests over stations decide.
use Rattle.std.proofs.Common.{◌≡◌, ℕ, zero, suc, ◌^◌, ◌<◌, ◌≤◌, Bool, true, false, cond, not, ◌&&◌, ◌||◌, eqb, ltb, Decides, sym, refl, ap, ◌∙◌, ⊎_elim, arith}
use lib.Bits.{bit_and, and_lt}
use Rattle.std.proofs.lemmas.Bool.{cases_lt, cases_Bool, lt-ltb, ltb-true}
use Rattle.std.proofs.lemmas.Bool.Decides.{nat_tests, Decides-below_and, Decides-below_or, same_from_decides, Decides-eqb, Decides-like}
use Rattle.sets.specs.Sets.{has, mask_of, every, any, smallest, inside, whole, Part, Whole}
use Rattle.sets.proofs.Masks.{has_and, has-mask_of, has-high, mask_of-lt, mask_ext}
use Rattle.sets.proofs.Bounds.{has-below}

pub every-decides : (f : ℕ → Bool) (n : ℕ) → Decides (every n f) ((i : ℕ) → i < n → f i ≡ true)
unfolding every
every-decides f n = Decides-below_and f (λ i. f i ≡ true) (λ n. every n f) (λ k. ((λ e. e), (λ e. e))) refl (λ _. refl) n

pub any-decides : (f : ℕ → Bool) (n : ℕ) → Decides (any n f) ((i : ℕ) × (i < n) × (f i ≡ true))
unfolding any
any-decides f n = Decides-below_or f (λ i. f i ≡ true) (λ n. any n f) (λ k. ((λ e. e), (λ e. e))) refl (λ _. refl) n

pub whole-decides : (n a b : ℕ) → Decides (whole n a b) (Whole n a b)
unfolding whole
whole-decides n a b = every-decides (λ i. has a i || has b i) n

implied : (x y : Bool) → (not x || y) ≡ true → x ≡ true → y ≡ true
implied x y h e = grind (arith, nat_tests)

implies : (x y : Bool) → (x ≡ true → y ≡ true) → (not x || y) ≡ true
implies true y h = h refl
implies false y h = refl

inside-each : (a b : ℕ) → Decides (inside a b) ((i : ℕ) → i < 16 → (not (has a i) || has b i) ≡ true)
unfolding inside
inside-each a b = every-decides (λ i. not (has a i) || has b i) 16

-- a mask of 16 bits is inside another where it is a part of it
pub inside-decides : (a b : ℕ) → a < 2 ^ 16 → Decides (inside a b) (Part a b)
inside-decides a b la =
    Decides-like (inside a b)
    (λ h i e. implied (has a i) (has b i) (h i (has-below 16 a i la e)) e)
    (λ p i _. implies (has a i) (has b i) (p i))
    (inside-each a b)

common : (x y : Bool) → (x && y) ≡ x → x ≡ true → y ≡ true
common x y h e = grind (arith, nat_tests)

all-common : (x y : Bool) → (x ≡ true → y ≡ true) → (x && y) ≡ x
all-common true y h = h refl
all-common false y h = refl

-- a & b == a
pub and_inside : (a b : ℕ) → a < 2 ^ 16 → b < 2 ^ 16 → eqb (bit_and a b) a ≡ inside a b
and_inside a b la lb =
    same_from_decides (eqb (bit_and a b) a) (inside a b)
    (Decides-like (eqb (bit_and a b) a)
    (λ (e : bit_and a b ≡ a) i t. common (has a i) (has b i) (sym (has_and a b i) ∙ ap (λ x. has x i) e) t)
    (λ p. mask_ext 16 (bit_and a b) a (and_lt 16 a b la lb) la (λ i l. has_and a b i ∙ all-common (has a i) (has b i) (p i)))
    (Decides-eqb (bit_and a b) a))
    (inside-decides a b la)

smallest-none : (n : ℕ) (f : ℕ → Bool) (d : ℕ) → ((j : ℕ) → j < n → f j ≡ false) → smallest n f d ≡ d
unfolding smallest
smallest-none zero f d h = refl
smallest-none (suc n) f d h = ap (λ x. smallest n f (cond x n d)) (h n (omega arith)) ∙ smallest-none n f d (λ j q. h j (omega arith))

-- the smallest number that passes a test is the first that does
pub smallest-is : (n : ℕ) (f : ℕ → Bool) (d k : ℕ) → k < n → ((j : ℕ) → j < k → f j ≡ false) → f k ≡ true → smallest n f d ≡ k
unfolding smallest
smallest-is zero f d k l b t = absurd (omega arith)
smallest-is (suc n) f d k l b t =
    ⊎_elim
    (λ (h : k < n). smallest-is n f (cond (f n) n d) k h b t)
    (λ (h : n ≤ k).
    let e : n ≡ k = omega arith in
    ap (λ x. smallest n f (cond x n d)) (ap f e ∙ t) ∙ smallest-none n f n (λ j q. b j (omega arith)) ∙ e)
    (cases_lt k n)

either-none : (x y : Bool) → x ≡ false → y ≡ false → (x || y) ≡ true → ⊥
either-none x y p q h = grind (arith, nat_tests)

-- all n stations lie within what a and b have
pub whole-inside : (n a b : ℕ) → n ≤ 16 → inside (mask_of 16 (λ j. ltb j n)) (mask_of 16 (λ j. has a j || has b j)) ≡ whole n a b
whole-inside n a b l =
    let all = mask_of 16 (λ j. ltb j n) in
    let both = mask_of 16 (λ j. has a j || has b j) in
    same_from_decides (inside all both) (whole n a b)
    (Decides-like (inside all both)
    (λ (p : Part all both) i k.
    sym (has-mask_of 16 (λ j. has a j || has b j) i (omega arith)) ∙ p i (has-mask_of 16 (λ j. ltb j n) i (omega arith) ∙ lt-ltb i n k))
    (λ w i e.
    let k : i < 16 = has-below 16 all i (mask_of-lt 16 (λ j. ltb j n)) e in
    has-mask_of 16 (λ j. has a j || has b j) i k ∙ w i (ltb-true i n (sym (has-mask_of 16 (λ j. ltb j n) i k) ∙ e)))
    (inside-decides all both (mask_of-lt 16 (λ j. ltb j n))))
    (whole-decides n a b)

-- masks of 16 bits make up no more than 16 stations
pub whole-over : (n a b : ℕ) → 16 < n → a < 2 ^ 16 → b < 2 ^ 16 → whole n a b ≡ false
whole-over n a b l la lb =
    ⊎_elim
    (λ e. absurd (either-none (has a 16) (has b 16) (has-high 16 a 16 la (omega arith)) (has-high 16 b 16 lb (omega arith)) ((whole-decides n a b).0 e 16 l)))
    (λ e. e) (cases_Bool (whole n a b))
