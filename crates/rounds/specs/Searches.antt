-- The search for the smallest word that passes a test.
use Rattle.std.specs.Prelude.{ℕ, zero, suc, Bool, true, cond, ◌&&◌, Some, None, Option, nat_lt}

-- w is below the best word so far, or there is none yet
abbrev pub under : Option ℕ → ℕ → Bool
under None w = true
under (Some b) w = nat_lt w b

-- the lower of the best word so far and a code, if that passes
abbrev pub lower : (ℕ → Bool) → Option ℕ → Option ℕ → Option ℕ
lower t best None = best
lower t best (Some w) = cond (under best w && t w) (Some w) best

-- the lowest of the best word so far and the first n codes, of those that pass
unfoldable pub lowest : (ℕ → Bool) → (ℕ → Option ℕ) → Option ℕ → ℕ → Option ℕ
lowest t f best zero = best
lowest t f best (suc n) = lower t (lowest t f best n) (f n)
