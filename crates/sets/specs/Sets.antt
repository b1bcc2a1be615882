-- Sets of stations as masks: bit i of a mask says whether station i is in the set.
use Rattle.std.specs.Prelude.{◌≡◌, ℕ, zero, suc, ◌+◌, ◌/◌, ◌%◌, ◌^◌, ◌<◌, Bool, true, false, cond, not, ◌&&◌, ◌||◌, ◌==◌, nat_lt}

-- whether station i is in the set s
unfoldable pub has : ℕ → ℕ → Bool
has s i = s / 2 ^ i % 2 == 1

-- the set of all i below n with f i
unfoldable pub mask_of : ℕ → (ℕ → Bool) → ℕ
mask_of zero f = 0
mask_of (suc n) f = mask_of n f + cond (f n) (2 ^ n) 0

-- how many i below n have f i
unfoldable pub count_of : ℕ → (ℕ → Bool) → ℕ
count_of zero f = 0
count_of (suc n) f = count_of n f + cond (f n) 1 0

-- how many stations are in the set s
abbrev pub members : ℕ → ℕ
members s = count_of 16 (has s)

-- whether every i below n has f i
unfoldable pub every : ℕ → (ℕ → Bool) → Bool
every zero f = true
every (suc n) f = f n && every n f

-- whether some i below n has f i
unfoldable pub any : ℕ → (ℕ → Bool) → Bool
any zero f = false
any (suc n) f = f n || any n f

-- the smallest i below n with f i, or d where there is none
unfoldable pub smallest : ℕ → (ℕ → Bool) → ℕ → ℕ
smallest zero f d = d
smallest (suc n) f d = smallest n f (cond (f n) n d)

-- a is a part of b: each station of a is in b
abbrev pub Part : ℕ → ℕ → Type 0
Part a b = (i : ℕ) → has a i ≡ true → has b i ≡ true

-- a and b make up all n stations
abbrev pub Whole : ℕ → ℕ → ℕ → Type 0
Whole n a b = (i : ℕ) → i < n → (has a i || has b i) ≡ true

-- whether a is a part of b, for masks of 16 bits
unfoldable pub inside : ℕ → ℕ → Bool
inside a b = every 16 (λ i. not (has a i) || has b i)

-- whether a and b make up all n stations
unfoldable pub whole : ℕ → ℕ → ℕ → Bool
whole n a b = every n (λ i. has a i || has b i)

-- whether s is a set of stations below n: it has no bit from n on
unfoldable pub among : ℕ → ℕ → Bool
among n s = nat_lt s (2 ^ n)
