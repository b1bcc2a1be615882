-- A packet has at most one meaning, and is a multiple of 4 bytes long. Assumes nothing.
use Rattle.std.proofs.Common.{◌≡◌, ℕ, zero, suc, ◌+◌, ◌%◌, ◌<◌, ◌≤◌, List, [], ◌∷◌, map, length, get_or, drop, Ok, Err, sym, refl, ap, ◌∙◌, subst, add-one, arith}
use Rattle.std.specs.List.{between}
use Rattle.std.proofs.lemmas.Slice.{first_rest}
use Rattle.packets.specs.Osc.{Value, number, text, blob, tag, TextByte, Plain, Filled, TextOf, Field, Fields, Content, Encoding}
use Rattle.packets.specs.Read.{Begins, Ends, Holds, Left}
use Rattle.packets.specs.Write.{ReadsAs}
use Rattle.packets.proofs.Cuts.{filled_cut}
use Rattle.packets.proofs.Texts.{text_same, text-split}
use Rattle.packets.proofs.Arguments.{holds_same}

-- a byte that may stand in a string, in front of others
pub plain-behind : (b : ℕ) (bs : List ℕ) → TextByte b → Plain bs → Plain (b ∷ bs)
plain-behind b bs h p zero l = h
plain-behind b bs h p (suc k) l = p k (omega arith)

pub ends-behind : (b : ℕ) (bs : List ℕ) (n : ℕ) → TextByte b → Ends bs n → Ends (b ∷ bs) (n + 1)
ends-behind b bs n h e =
    let P : (k : ℕ) → k < suc n → TextByte (get_or (b ∷ bs) k 0) = before-behind b bs n h e.before in
    subst (Ends (b ∷ bs)) (sym (add-one n)) (record { before = P; found = e.found; within = omega (arith, e.within) })
  where
    before-behind : (b : ℕ) (bs : List ℕ) (n : ℕ) → TextByte b → ((k : ℕ) → k < n → TextByte (get_or bs k 0)) → (k : ℕ) → k < suc n → TextByte (get_or (b ∷ bs) k 0)
    before-behind b bs n h f zero l = h
    before-behind b bs n h f (suc k) l = f k (omega arith)

-- what a filled part takes is a multiple of 4
filled-whole : {part bs rest : List ℕ} → Filled part bs rest → length rest % 4 ≡ 0 → length bs % 4 ≡ 0
filled-whole {part} f h = omega (arith, (filled_cut f).size)

field_whole : (v : Value) (bs rest : List ℕ) → Field v bs rest → length rest % 4 ≡ 0 → length bs % 4 ≡ 0
field_whole (number z) bs rest f h = omega (arith, ap length f.split)
field_whole (text s) bs rest f h = filled-whole f.filled h
field_whole (blob b) bs rest f h = omega (arith, ap length f.size.split, filled-whole f.filled h)

fields-whole : (vs : List Value) (bs : List ℕ) → Fields vs bs → length bs % 4 ≡ 0
fields-whole [] bs f = ap (λ x. length x % 4) f
fields-whole (v ∷ vs) bs f = field_whole v bs f.0 f.1.0 (fields-whole vs f.0 f.1.1)

pub encoding-whole : (m : Content) (bs : List ℕ) → Encoding m bs → length bs % 4 ≡ 0
encoding-whole m bs l = filled-whole l.address.filled (filled-whole l.tags.filled (fields-whole m.arguments l.body l.arguments))

-- the parts of an encoding
pub record Parts (m : Content) (a l f : List ℕ) : Type 0 where
  pub address : m.address ≡ a
  pub list : 44 ∷ map tag m.arguments ≡ l
  pub fields : Fields m.arguments f

pub encoding-parts : (m : Content) {bs address behind list fields : List ℕ} → TextOf address bs behind → TextOf list behind fields → Encoding m bs → Parts m address list fields
encoding-parts m {bs} {address} {behind} {list} {fields} a b l =
    let x = text_same l.address a in
    let y = text_same (subst (λ r. TextOf (44 ∷ map tag m.arguments) r l.body) x.1 l.tags) b in
    record { address = x.0; list = y.0; fields = subst (Fields m.arguments) y.1 l.arguments }

pub encoding-behind : (m : Content) {bs address behind : List ℕ} → TextOf address bs behind → (l : Encoding m bs) → TextOf (44 ∷ map tag m.arguments) behind l.body
encoding-behind m a l = subst (λ r. TextOf (44 ∷ map tag m.arguments) r l.body) (text_same l.address a).1 l.tags

pub encoding_comma : (m : Content) {bs address behind list fields : List ℕ} → TextOf address bs behind → TextOf list behind fields → Encoding m bs → Begins 44 list
encoding_comma m a b l =
    let p = encoding-parts m a b l in
    record { first = sym (ap (λ x. get_or x 0 0) p.list); some = omega (arith, ap length p.list) }

-- what begins with b is b and what stands behind it
pub begins_with : {b : ℕ} {bs rest : List ℕ} → Begins b bs → rest ≡ between 1 (length bs) bs → bs ≡ b ∷ rest
begins_with {b} {bs} {rest} h e = first_rest bs 0 h.some ∙ (λ i. h.first i ∷ sym e i)

pub encoding-same : (m n : Content) (bs : List ℕ) → Encoding m bs → Encoding n bs → m ≡ n
encoding-same m n bs a b =
    let p = encoding-parts m b.address b.tags a in
    let e = holds_same (map tag n.arguments) b.body m.arguments n.arguments (record { tags = ap (drop 1) p.list; fields = p.fields }) (record { tags = refl; fields = b.arguments }) in
    λ i. record { address = p.address i; arguments = e i }

pub encoding-holds : (m : Content) (bs address behind list fields : List ℕ) (t : ℕ) {ts : List ℕ} → TextOf address bs behind → TextOf list behind fields → list ≡ t ∷ ts → Encoding m bs → Holds ts fields m.arguments
encoding-holds m bs address behind list fields t a b e l =
    let p = encoding-parts m a b l in
    record { tags = ap (drop 1) (p.list ∙ e); fields = p.fields }

first-is : (s bs rest : List ℕ) → TextOf s bs rest → get_or bs 0 0 ≡ 47 → get_or s 0 0 ≡ 47
first-is [] bs rest t e = absurd (omega (arith, ap (λ x. get_or x 0 0) (text-split t)))
first-is (x ∷ s) bs rest t e = sym (ap (λ x. get_or x 0 0) (text-split t)) ∙ e

pub encoding-made : (bs address behind list fields ts : List ℕ) (vs : List Value) → get_or bs 0 0 ≡ 47 → TextOf address bs behind → TextOf list behind fields → list ≡ 44 ∷ ts → Holds ts fields vs → length bs ≤ 4096 → Encoding (record { address = address; arguments = vs }) bs
encoding-made bs address behind list fields ts vs slash a b e h short =
    record {
      behind = behind;
      body = fields;
      slash = first-is address bs behind a slash;
      address = a;
      tags = subst (λ x. TextOf x behind fields) (e ∙ ap (λ x. 44 ∷ x) (sym h.tags)) b;
      arguments = h.fields;
      short = short;
    }

-- an encoding of m is read as m
pub encoding_read : (m : Content) (bs : List ℕ) → Encoding m bs → ReadsAs bs m
encoding_read m bs l (Ok r) a =
    let e = a.means.only m l in
    record { address = a.says.address ∙ ap (λ k. k.address) (sym e); left = subst (Left r) (ap (λ k. k.arguments) (sym e)) a.says.left }
encoding_read m bs l (Err e) a = a.1 m l
