-- The writer's list: the argument of an entry, and how long the message is. Assumes nothing.
use Rattle.std.proofs.Common.{◌≡◌, ℕ, zero, suc, ◌+◌, ◌^◌, ◌<◌, ◌≤◌, List, [], ◌∷◌, ◌++◌, map, length, get_or, drop, sym, refl, ap, ◌∙◌, subst, arith}
use Rattle.std.specs.List.{between, flat_map}
use Rattle.std.proofs.lemmas.List.{length-append}
use Rattle.packets.specs.declared.fields.Argument.TheVariants.{Number, Text, Blob}
use Rattle.packets.specs.declared.entries.Place.{Place}
use Rattle.packets.specs.Osc.{Value, tag, Plain, Field, Fields}
use Rattle.packets.specs.Encode.{text_bytes, blob_bytes, field_bytes, encode}
use Rattle.packets.specs.Write.{Entry, entry_value, entry_bytes, letter_of, Inside, content_of, Encodable, Broken, over}
use Rattle.packets.proofs.Puts.{two_puts, over-start, length_over}
use Rattle.packets.proofs.Encoded.{text-encodes, blob-encodes, encoding-length}

pub fields_at : (f : Entry → Value) (es : List Entry) (bs : List ℕ) (i : ℕ) (d : Entry) → i < length es → Fields (map f es) bs → (cs : List ℕ) × ((rest : List ℕ) × Field (f (get_or es i d)) cs rest)
fields_at f [] bs i d l h = absurd (omega arith)
fields_at f (e ∷ es) bs zero d l h = (bs, (h.0, h.1.0))
fields_at f (e ∷ es) bs (suc i) d l h = fields_at f es h.0 i d (omega arith) h.1.1

pub joined-map : (lent : List ℕ) (es : List Entry) → flat_map field_bytes (map (entry_value lent) es) ≡ flat_map (entry_bytes lent) es
joined-map lent [] = refl
joined-map lent (e ∷ es) = ap (λ x. entry_bytes lent e ++ x) (joined-map lent es)

letter_is : (lent : List ℕ) (e : Entry) → tag (entry_value lent e) ≡ letter_of e
letter_is lent (Number z) = refl
letter_is lent (Text p) = refl
letter_is lent (Blob p) = refl

pub letters-map : (lent : List ℕ) (es : List Entry) → map tag (map (entry_value lent) es) ≡ map letter_of es
letters-map lent [] = refl
letters-map lent (e ∷ es) = λ i. letter_is lent e i ∷ letters-map lent es i

-- what the size of an entry says
abbrev pub Sized : List ℕ → ℕ → Entry → Type 0
Sized lent n e = Inside lent e × (n ≡ length (entry_bytes lent e)) × Encodable (entry_value lent e)

-- the part of the lent bytes that a place names
abbrev pub PartAt : List ℕ → Place → List ℕ → Type 0
PartAt lent p s = (p.from ≤ p.to) × (p.to ≤ length lent) × (s ≡ between p.from p.to lent)

pub text-sized : (lent s : List ℕ) (e : Entry) (p : Place) (n : ℕ) → e ≡ Text p → PartAt lent p s → Plain s → n ≡ length (text_bytes s) → Sized lent n e
text-sized lent s e p n is at plain size =
    subst (Sized lent n) (sym is) ((at.0, at.1), size ∙ ap (λ x. length (text_bytes x)) at.2, text-encodes (between p.from p.to lent) (subst Plain at.2 plain))

pub blob-sized : (lent s : List ℕ) (e : Entry) (p : Place) (n : ℕ) → e ≡ Blob p → PartAt lent p s → length s < 2 ^ 31 → n ≡ length (blob_bytes s) → Sized lent n e
blob-sized lent s e p n is at short size =
    subst (Sized lent n) (sym is) ((at.0, at.1), size ∙ ap (λ x. length (blob_bytes x)) at.2, blob-encodes (between p.from p.to lent) (subst (λ x. length x < 2 ^ 31) at.2 short))

-- no packet holds a text with a zero byte in it, or a blob that is too long
pub text_unsent : (lent s : List ℕ) (e : Entry) (p : Place) → e ≡ Text p → PartAt lent p s → (Plain s → ⊥) → Inside lent e → (bs rest : List ℕ) → Field (entry_value lent e) bs rest → ⊥
text_unsent lent s e p is at bad in' bs rest f =
    bad (subst Plain (sym at.2) (subst (λ x. Field (entry_value lent x) bs rest) is f).plain)

pub blob_unsent : (lent s : List ℕ) (e : Entry) (p : Place) → e ≡ Blob p → PartAt lent p s → 2 ^ 31 ≤ length s → Inside lent e → (bs rest : List ℕ) → Field (entry_value lent e) bs rest → ⊥
blob_unsent lent s e p is at long in' bs rest f =
    let g = subst (λ x. Field (entry_value lent x) bs rest) is f in
    omega (arith, g.size.fits.sfits, ap length at.2)

pub encode-length : (address lent : List ℕ) (es : List Entry) → length (encode (content_of address lent es)) ≡ length (text_bytes address) + (length (text_bytes (44 ∷ map letter_of es)) + length (flat_map (entry_bytes lent) es))
unfolding encode
encode-length address lent es =
    let tags = ap (λ x. length (text_bytes (44 ∷ x))) (letters-map lent es) in
    let f = ap length (joined-map lent es) in
    omega (arith, length-append (text_bytes address) (text_bytes (44 ∷ map tag (map (entry_value lent) es)) ++ flat_map field_bytes (map (entry_value lent) es)), length-append (text_bytes (44 ∷ map tag (map (entry_value lent) es))) (flat_map field_bytes (map (entry_value lent) es)))

-- no packet holds a message that takes too many bytes
pub too_long : (address lent : List ℕ) (es : List Entry) → 4096 < length (encode (content_of address lent es)) → Broken address lent es
too_long address lent es long placed bs l = omega (arith, encoding-length (content_of address lent es) bs l, l.short)

-- three writes, one behind another, from the start of the buffer
pub three_puts : (address lent : List ℕ) (es : List Entry) (xs ys ts fs : List ℕ) (a t : ℕ) → ys ≡ over xs 0 (text_bytes address) → a ≡ 0 + length (text_bytes address) → ts ≡ over ys a (text_bytes (44 ∷ map letter_of es)) → t ≡ a + length (text_bytes (44 ∷ map letter_of es)) → fs ≡ over ts t (flat_map (entry_bytes lent) es) → length (encode (content_of address lent es)) ≤ length xs → fs ≡ encode (content_of address lent es) ++ drop (length (encode (content_of address lent es))) xs
unfolding encode
three_puts address lent es xs ys ts fs a t h1 e1 h2 e2 h3 room =
    let tagged = ap (λ x. text_bytes (44 ∷ x)) (letters-map lent es) in
    let same : text_bytes (44 ∷ map letter_of es) ++ flat_map (entry_bytes lent) es ≡ text_bytes (44 ∷ map tag (map (entry_value lent) es)) ++ flat_map field_bytes (map (entry_value lent) es) = λ i. sym tagged i ++ sym (joined-map lent es) i in
    let all : text_bytes address ++ (text_bytes (44 ∷ map letter_of es) ++ flat_map (entry_bytes lent) es) ≡ encode (content_of address lent es) = ap (λ x. text_bytes address ++ x) same in
    let long = ap length (sym all) ∙ length-append (text_bytes address) (text_bytes (44 ∷ map letter_of es) ++ flat_map (entry_bytes lent) es) in
    let more = length-append (text_bytes (44 ∷ map letter_of es)) (flat_map (entry_bytes lent) es) in
    let kept : length ys ≡ length xs = ap length h1 ∙ length_over xs 0 (text_bytes address) (omega arith) in
    let back = two_puts ys ts fs a t _ _ h2 e2 h3 (omega arith) in
    two_puts xs ys fs 0 a _ _ h1 e1 back (omega arith) ∙ ap (over xs 0) all ∙ over-start xs (encode (content_of address lent es))
