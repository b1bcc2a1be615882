-- What is made of all stations of a rule by calls of a closure.
use Rattle.std.specs.Prelude.{◌≡◌, ℕ, ◌<◌, List, length, drop, replicate, slice_index_or}

-- at numbers below b each answer is f's: post says which answers a call may give
abbrev pub Says : {A : Type 0} → ℕ → (ℕ → A → Type 0) → (ℕ → A) → Type 0
Says {A} b post f = (p : ℕ) (x : A) → p < b → post p x → x ≡ f p

-- sixteen values, of which the first n are f's and the others x
pub record Sixteen {A : Type 0} (x : A) (n : ℕ) (f : ℕ → A) (list : List A) : Type 0 where
  pub each : (p : ℕ) (d : A) → p < n → slice_index_or list p d ≡ f p
  pub rest : drop n list ≡ drop n (replicate 16 x)
  pub long : length list ≡ 16
