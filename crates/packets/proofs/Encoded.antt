-- What the writer makes is an encoding, and how long every encoding is. Assumes nothing.
use Rattle.std.proofs.Common.{◌≡◌, ℕ, zero, suc, ◌+◌, ◌^◌, ◌<◌, ◌≤◌, List, [], ◌∷◌, ◌++◌, map, length, get_or, replicate, refl, ap, arith}
use Rattle.std.specs.List.{flat_map, AllByRecursion}
use Rattle.std.proofs.lemmas.List.{length-append, length-replicate, append_assoc, length_push}
use Rattle.packets.specs.Osc.{Value, number, text, blob, tag, word, TextByte, Plain, Content, Filled, TextOf, BlobOf, Field, Fields, Encoding}
use Rattle.packets.specs.Encode.{fill_len, filled_bytes, text_bytes, blob_bytes, field_bytes, encode}
use Rattle.packets.specs.Write.{Encodable}
use Rattle.packets.proofs.Cuts.{any_fills, filled_cut}
use Rattle.packets.proofs.Puts.{length-text, length-blob}

filled-encodes : (part rest : List ℕ) → Filled part (filled_bytes part ++ rest) rest
unfolding filled_bytes
filled-encodes part rest =
    let k : ℕ = fill_len (length part) in
    let n : length (replicate {A = ℕ} k 0) ≡ k = length-replicate k 0 in
    record {
      fill = replicate k 0;
      split = append_assoc part (replicate k 0) rest;
      few = omega arith;
      whole = omega arith;
      each = any_fills (replicate k 0);
    }

pub text-encodes : (s : List ℕ) → Plain s → (rest : List ℕ) → TextOf s (text_bytes s ++ rest) rest
unfolding text_bytes
text-encodes s plain rest = record { filled = filled-encodes (s ++ (0 ∷ [])) rest; plain = plain }

pub blob-encodes : (b : List ℕ) → length b < 2 ^ 31 → (rest : List ℕ) → BlobOf b (blob_bytes b ++ rest) rest
unfolding blob_bytes
blob-encodes b short rest = record {
  behind = filled_bytes b ++ rest;
  size = record { split = append_assoc (word (length b)) (filled_bytes b) rest; fits = record { sfits = short } };
  filled = filled-encodes b rest;
}

-- a field takes as many bytes as its encoding
pub field_length : (v : Value) (bs rest : List ℕ) → Field v bs rest → length bs ≡ length (field_bytes v) + length rest
field_length (number z) bs rest f = omega (arith, ap length f.split)
field_length (text s) bs rest f = omega (arith, length-text s, length_push s 0, (filled_cut f.filled).size)
field_length (blob b) bs rest f = omega (arith, length-blob b, ap length f.size.split, (filled_cut f.filled).size)

pub fields-length : (vs : List Value) (bs : List ℕ) → Fields vs bs → length bs ≡ length (flat_map field_bytes vs)
fields-length [] bs f = ap length f
fields-length (v ∷ vs) bs f =
    omega (arith, field_length v bs f.0 f.1.0, fields-length vs f.0 f.1.1, length-append (field_bytes v) (flat_map field_bytes vs))

pub fields-encode : (vs : List Value) → AllByRecursion Encodable vs → Fields vs (flat_map field_bytes vs)
fields-encode [] a = refl
fields-encode (v ∷ vs) a = (flat_map field_bytes vs, (a.0 (flat_map field_bytes vs), fields-encode vs a.1))

pub encoding-length : (m : Content) (bs : List ℕ) → Encoding m bs → length bs ≡ length (encode m)
unfolding encode
encoding-length m bs l =
    let a = field_length (text m.address) bs l.behind l.address in
    let t = field_length (text (44 ∷ map tag m.arguments)) l.behind l.body l.tags in
    let f = fields-length m.arguments l.body l.arguments in
    omega (arith, length-append (text_bytes m.address) (text_bytes (44 ∷ map tag m.arguments) ++ flat_map field_bytes m.arguments), length-append (text_bytes (44 ∷ map tag m.arguments)) (flat_map field_bytes m.arguments))

-- a type tag may stand in a string
tag-plain : (v : Value) → TextByte (tag v)
tag-plain (number z) e = omega arith
tag-plain (text z) e = omega arith
tag-plain (blob z) e = omega arith

tags-plain : (vs : List Value) → Plain (map tag vs)
tags-plain [] k l e = omega arith
tags-plain (v ∷ vs) zero l e = tag-plain v e
tags-plain (v ∷ vs) (suc k) l e = tags-plain vs k (omega arith) e

list-plain : (vs : List Value) → Plain (44 ∷ map tag vs)
list-plain vs zero l e = omega arith
list-plain vs (suc k) l e = tags-plain vs k (omega arith) e

pub encode-encodes : (m : Content) → get_or m.address 0 0 ≡ 47 → Plain m.address → AllByRecursion Encodable m.arguments → length (encode m) ≤ 4096 → Encoding m (encode m)
unfolding encode
encode-encodes m slash plain good short = record {
  behind = text_bytes (44 ∷ map tag m.arguments) ++ flat_map field_bytes m.arguments;
  body = flat_map field_bytes m.arguments;
  slash = slash;
  address = text-encodes m.address plain _;
  tags = text-encodes (44 ∷ map tag m.arguments) (list-plain m.arguments) _;
  arguments = fields-encode m.arguments good;
  short = short;
}
