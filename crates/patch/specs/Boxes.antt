-- The boxes under the stations.
use Rattle.std.specs.Prelude.{◌≡◌, ℕ, ◌*◌, ◌/◌, ◌%◌, ◌^◌, ◌<◌, min, max, Bool, not, ◌&&◌, ◌==◌, nat_eq}
use Rattle.sets.specs.Sets.{has, mask_of, every, any}

-- hexadecimal digit i of the number p, from the lowest: the box under station i
unfoldable pub box_of : ℕ → ℕ → ℕ
box_of p i = p / 2 ^ (4 * i) % 16

-- which box is under each station
abbrev pub Boxes : Type 0
Boxes = ℕ → ℕ

-- the sixteen stations stand on sixteen boxes, no two on one
pub record OneEach (f : Boxes) : Type 0 where
  pub within : (i : ℕ) → i < 16 → f i < 16
  pub once : (i j : ℕ) → i < 16 → j < 16 → f i ≡ f j → i ≡ j

-- some digit of p occurs twice
abbrev pub Twice : ℕ → Type 0
Twice p = (i : ℕ) × (j : ℕ) × (i < j) × (j < 16) × (box_of p i ≡ box_of p j)

-- whether no digit of p occurs twice
unfoldable pub all_once : ℕ → Bool
all_once p = every 16 (λ j. not (any j (λ i. nat_eq (box_of p i) (box_of p j))))

-- the boxes under the stations of a set
unfoldable pub boxes : Boxes → ℕ → ℕ
boxes f s = mask_of 16 (λ b. any 16 (λ i. has s i && f i == b))

-- the least, the middle and the largest of three numbers
abbrev pub low3 : ℕ → ℕ → ℕ → ℕ
low3 x y z = min x (min y z)

abbrev pub mid3 : ℕ → ℕ → ℕ → ℕ
mid3 x y z = max (min x y) (min (max x y) z)

abbrev pub high3 : ℕ → ℕ → ℕ → ℕ
high3 x y z = max x (max y z)
