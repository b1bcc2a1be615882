-- Every reply can be written, in at most 24 bytes.
use Rattle.std.proofs.Common.{◌≡◌, ℕ, ◌<◌, ◌≤◌, Bool, true, ◌&&◌, ltb, List, [], ◌∷◌, length, get_or, pos, codes, refl, arith, w32, SFits}
use Rattle.std.proofs.ByRecursion.{All-get_or, Decides-by_and}
use Rattle.std.proofs.lemmas.Bool.Decides.{Decides-ltb}
use Rattle.std.specs.List.{AllByRecursion}
use Rattle.packets.specs.Osc.{Content, Value, number, Plain, Encoding}
use Rattle.packets.specs.Encode.{encode, text_bytes, filled_bytes}
use Rattle.packets.specs.Write.{Encodable}
use Rattle.packets.proofs.Encoded.{encode-encodes}

-- no byte is zero
abbrev nonzero : List ℕ → Bool
nonzero [] = true
nonzero (b ∷ bs) = ltb 0 b && nonzero bs

plain : (bs : List ℕ) → nonzero bs ≡ true → Plain bs
plain bs e k l z =
    let all = (Decides-by_and (λ b. ltb 0 b) (λ b. 0 < b) nonzero (λ b. Decides-ltb 0 b) refl (λ _ _. refl) bs).0 e in
    omega (arith, All-get_or (λ b. 0 < b) bs k 0 l all)

-- a number of 31 bits is an int32
pub fits : (x : ℕ) → x < 65536 → SFits w32 (pos x)
fits x l = record { sfits = omega arith }

encodable : (x : ℕ) → x < 65536 → Encodable (number (pos x))
encodable x l rest = record { split = refl; fits = fits x l }

abbrev message : List ℕ → List Value → Content
message a vs = record { address = a; arguments = vs }

-- a message that can be written in so few bytes that every buffer of a reply has room for it
pub record Small (m : Content) : Type 0 where
  pub encodes : Encoding m (encode m)
  pub few : length (encode m) ≤ 24

small : (m : Content) → get_or m.address 0 0 ≡ 47 → nonzero m.address ≡ true → AllByRecursion Encodable m.arguments → length (encode m) ≤ 24 → Small m
small m slash letters all few = record { encodes = encode-encodes m slash (plain m.address letters) all (omega arith); few = few }

pub small_ok : Small (message (codes "/hall/ok") [])
unfolding encode text_bytes filled_bytes
small_ok = small (message (codes "/hall/ok") []) refl refl tt (omega arith)

pub small-no : (x : ℕ) → x < 65536 → Small (message (codes "/hall/no") (number (pos x) ∷ []))
unfolding encode text_bytes filled_bytes
small-no x l = small (message (codes "/hall/no") (number (pos x) ∷ [])) refl refl (encodable x l, tt) (omega arith)

-- the message of two numbers
pub small_two : (a : List ℕ) → get_or a 0 0 ≡ 47 → nonzero a ≡ true → (x y : ℕ) → x < 65536 → y < 65536 → length (encode (message a (number (pos x) ∷ number (pos y) ∷ []))) ≤ 24
    → Small (message a (number (pos x) ∷ number (pos y) ∷ []))
small_two a slash letters x y l m = small (message a (number (pos x) ∷ number (pos y) ∷ [])) slash letters (encodable x l, (encodable y m, tt))

pub small_word : (x y : ℕ) → x < 65536 → y < 65536 → Small (message (codes "/hall/word") (number (pos x) ∷ number (pos y) ∷ []))
unfolding encode text_bytes filled_bytes
small_word x y l m = small_two (codes "/hall/word") refl refl x y l m (omega arith)

pub small-lamp : (x y : ℕ) → x < 65536 → y < 65536 → Small (message (codes "/hall/lamp") (number (pos x) ∷ number (pos y) ∷ []))
unfolding encode text_bytes filled_bytes
small-lamp x y l m = small_two (codes "/hall/lamp") refl refl x y l m (omega arith)
