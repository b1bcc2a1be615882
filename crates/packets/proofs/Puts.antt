-- One write behind another. Assumes nothing.
use Rattle.std.proofs.Common.{◌≡◌, ℕ, zero, suc, ◌+◌, ◌<◌, ◌≤◌, List, [], ◌∷◌, ◌++◌, map, length, get_or, take, drop, replicate, sym, ap, ◌∙◌, add-zero, zero-add, one-add, arith}
use borrow.Rule.Slice.PartMut.{put_mid}
use Rattle.std.proofs.lemmas.List.{length-append, length-take, length-take-le, length-drop, length-replicate, take-append-drop, drop-drop, take_at, drop_at, append_assoc, take_more, flat_map_more, length-map, length_push}
use Rattle.std.specs.List.{flat_map}
use Rattle.packets.specs.Osc.{word}
use Rattle.packets.specs.Encode.{fill_len, filled_bytes, text_bytes, blob_bytes}
use Rattle.packets.specs.Write.{over}

pub put_is : (a k : ℕ) (xs ys bs : List ℕ) → ys ≡ bs → k ≡ length bs → put_mid a k xs ys ≡ over xs a bs
unfolding over
put_is a k xs ys bs e f =
    ap (λ y. put_mid a k xs y) e ∙ ap (λ x. take a xs ++ (bs ++ x)) (drop-drop k a xs ∙ ap (λ n. drop (a + n) xs) f)

pub over_none : (xs : List ℕ) (at : ℕ) → xs ≡ over xs at []
unfolding over
over_none xs at = sym (ap (λ n. take at xs ++ drop n xs) (add-zero at) ∙ take-append-drop at xs)

pub over-over : (xs : List ℕ) (at : ℕ) (a b : List ℕ) → at + length a + length b ≤ length xs → over (over xs at a) (at + length a) b ≡ over xs at (a ++ b)
unfolding over
over-over xs at a b room =
    let rest = drop (at + length a) xs in
    let front : over xs at a ≡ (take at xs ++ a) ++ rest = sym (append_assoc (take at xs) a rest) in
    let long : length (take at xs ++ a) ≡ at + length a = length-append (take at xs) a ∙ ap (λ n. n + length a) (length-take-le at xs (omega arith)) in
    let keep : take (at + length a) (over xs at a) ≡ take at xs ++ a = ap (take (at + length a)) front ∙ take_at (take at xs ++ a) rest (at + length a) long in
    let gone : drop (at + length a + length b) (over xs at a) ≡ drop (at + length (a ++ b)) xs =
    sym (drop-drop (length b) (at + length a) (over xs at a)) ∙ ap (drop (length b)) (ap (drop (at + length a)) front ∙ drop_at (take at xs ++ a) rest (at + length a) long) ∙ drop-drop (length b) (at + length a) xs ∙ ap (λ n. drop n xs) (omega (arith, length-append a b)) in
    (λ i. keep i ++ (b ++ gone i)) ∙ append_assoc (take at xs) a (b ++ drop (at + length (a ++ b)) xs) ∙ ap (λ x. take at xs ++ x) (sym (append_assoc a b (drop (at + length (a ++ b)) xs)))

-- two writes, the second where the first ended
pub two_puts : (xs ys zs : List ℕ) (at end : ℕ) (a b : List ℕ) → ys ≡ over xs at a → end ≡ at + length a → zs ≡ over ys end b → at + length a + length b ≤ length xs → zs ≡ over xs at (a ++ b)
two_puts xs ys zs at end a b e f g room = g ∙ (λ i. over (e i) (f i) b) ∙ over-over xs at a b room

pub length-filled : (part : List ℕ) → length (filled_bytes part) ≡ length part + fill_len (length part)
unfolding filled_bytes
length-filled part = length-append part (replicate (fill_len (length part)) 0) ∙ ap (λ n. length part + n) (length-replicate (fill_len (length part)) 0)

pub length-text : (s : List ℕ) → length (text_bytes s) ≡ length s + 1 + fill_len (length s + 1)
unfolding text_bytes
length-text s = length-filled (s ++ (0 ∷ [])) ∙ ap (λ n. n + fill_len n) (length_push s 0)

pub length-blob : (b : List ℕ) → length (blob_bytes b) ≡ 4 + (length b + fill_len (length b))
unfolding blob_bytes
length-blob b = length-append (word (length b)) (filled_bytes b) ∙ ap (λ n. 4 + n) (length-filled b)

-- a string's zero byte and fill bytes in one
pub text_zeros : (s : List ℕ) → text_bytes s ≡ s ++ replicate (1 + fill_len (length s + 1)) 0
unfolding text_bytes filled_bytes
text_zeros s =
    let k : ℕ = fill_len (length (s ++ (0 ∷ []))) in
    append_assoc s (0 ∷ []) (replicate k 0) ∙ ap (λ n. s ++ replicate n 0) (sym (one-add k) ∙ ap (λ n. 1 + fill_len n) (length_push s 0))

-- a loop that writes f of one element after another: F is what stands there by then
module _ {X : Type 0} (F : List X → List ℕ) (f : X → List ℕ) (snoc : (xs : List X) (x : X) → F (xs ++ (x ∷ [])) ≡ F xs ++ f x) where
  pub put-more : (es : List X) (i : ℕ) (d : X) → i < length es → F (take (i + 1) es) ≡ F (take i es) ++ f (get_or es i d)
  put-more es i d l = ap F (take_more es i d l) ∙ snoc (take i es) (get_or es i d)

  pub loop_put : (es : List X) (i : ℕ) (d : X) → i < length es → (xs ys zs : List ℕ) (at end : ℕ) → ys ≡ over xs at (F (take i es)) → end ≡ at + length (F (take i es)) → zs ≡ over ys end (f (get_or es i d)) → at + length (F (take (i + 1) es)) ≤ length xs → zs ≡ over xs at (F (take (i + 1) es))
  loop_put es i d l xs ys zs at end e g h room =
      let m = put-more es i d l in
      let n = ap length m ∙ length-append (F (take i es)) (f (get_or es i d)) in
      two_puts xs ys zs at end (F (take i es)) (f (get_or es i d)) e g h (omega arith) ∙ ap (over xs at) (sym m)

  pub loop_end : (es : List X) (i : ℕ) (d : X) → i < length es → (at end last : ℕ) → end ≡ at + length (F (take i es)) → last ≡ end + length (f (get_or es i d)) → last ≡ at + length (F (take (i + 1) es))
  loop_end es i d l at end last e g =
      let n = ap length (put-more es i d l) ∙ length-append (F (take i es)) (f (get_or es i d)) in
      omega arith

pub joined_le : {X : Type 0} (f : X → List ℕ) (i : ℕ) (es : List X) → length (flat_map f (take i es)) ≤ length (flat_map f es)
joined_le f zero es = omega arith
joined_le f (suc i) [] = omega arith
joined_le f (suc i) (e ∷ es) = omega (arith, joined_le f i es, length-append (f e) (flat_map f (take i es)), length-append (f e) (flat_map f es))

pub joined_snoc : {X : Type 0} (f : X → List ℕ) (xs : List X) (x : X) → flat_map f (xs ++ (x ∷ [])) ≡ flat_map f xs ++ f x
joined_snoc f xs x = sym (flat_map_more f [] xs x)

pub map_le : {X : Type 0} (f : X → ℕ) (i : ℕ) (es : List X) → length (map f (take i es)) ≤ length es
map_le f i es = omega (arith, length-map (take i es) f, length-take i es)

pub over-start : (xs bs : List ℕ) → over xs 0 bs ≡ bs ++ drop (length bs) xs
unfolding over
over-start xs bs = ap (λ n. bs ++ drop n xs) (zero-add (length bs))

pub length_over : (xs : List ℕ) (at : ℕ) (bs : List ℕ) → at + length bs ≤ length xs → length (over xs at bs) ≡ length xs
unfolding over
length_over xs at bs h =
    omega (arith, length-append (take at xs) (bs ++ drop (at + length bs) xs), length-append bs (drop (at + length bs) xs), length-take-le at xs (omega arith), length-drop (at + length bs) xs)
