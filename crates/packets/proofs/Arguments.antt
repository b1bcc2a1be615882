-- Arguments one behind another: their bytes say them, given their type tags. Assumes nothing.
use Rattle.std.proofs.Common.{◌≡◌, ℕ, Bool, true, false, eqb, List, [], ◌∷◌, map, length, get_or, drop, Some, None, MatchBool, Option, is_some, not, sym, refl, ap, ◌∙◌, subst, arith, MatchOption}
use Rattle.std.proofs.lemmas.List.{nil_from_length}
use Rattle.std.specs.Bool.{then_some}
use Rattle.std.proofs.lemmas.Bool.{false≢true, eqb-true, eqb-false}
use Rattle.packets.specs.Osc.{Value, number, text, blob, tag, TextOf, Field, Fields}
use Rattle.packets.specs.Read.{Holds}
use Rattle.packets.proofs.Numbers.{number_same}
use Rattle.packets.proofs.Texts.{text_same, blob-same}

-- what is said of an answer, said of it in other words
pub some_weaker : {X : Type 0} (r : Option X) {P P' : Type 0} {Q Q' : X → Type 0} → (P → P') → ((x : X) → Q x → Q' x) → MatchOption r P Q → MatchOption r P' Q'
some_weaker (Some x) f g h = g x h
some_weaker None f g h = f h

-- what is said of an answer that is given where a test holds
pub some_where : {X Yes No P : Type 0} (Q : X → Type 0) (b : Bool) (x : X) (r : Option X) → r ≡ then_some b x → MatchBool b Yes No → (No → P) → (Yes → Q x) → MatchOption r P Q
some_where {P = P} Q true x r e h f g = subst (λ o. MatchOption o P Q) (sym e) (g h)
some_where {P = P} Q false x r e h f g = subst (λ o. MatchOption o P Q) (sym e) (f h)

-- a test whether there is no answer
pub none_test : {X : Type 0} (P : Type 0) (Q : X → Type 0) (o : Option X) (b : Bool) → is_some o ≡ not b → MatchOption o P Q → MatchBool b P ((x : X) × Q x)
none_test P Q (Some x) true e h = absurd (false≢true (sym e))
none_test P Q (Some x) false e h = (x, h)
none_test P Q None true e h = h
none_test P Q None false e h = absurd (false≢true e)

pub no_text : (bs : List ℕ) → ((s rest : List ℕ) → TextOf s bs rest → ⊥) → (v : Value) (rest : List ℕ) → tag v ≡ 115 → Field v bs rest → ⊥
no_text bs h (number z) rest e f = omega arith
no_text bs h (text s) rest e f = h s rest f
no_text bs h (blob b) rest e f = omega arith

pub field_same : (bs r q : List ℕ) (v w : Value) → tag v ≡ tag w → Field v bs r → Field w bs q → (v ≡ w) × (r ≡ q)
field_same bs r q (number z) (number y) e a b = let s = number_same a b in (ap number s.0, s.1)
field_same bs r q (text x) (text y) e a b = let s = text_same a b in (ap text s.0, s.1)
field_same bs r q (blob x) (blob y) e a b = let s = blob-same a b in (ap blob s.0, s.1)
field_same bs r q (number z) (text y) e a b = absurd (omega arith)
field_same bs r q (number z) (blob y) e a b = absurd (omega arith)
field_same bs r q (text x) (number y) e a b = absurd (omega arith)
field_same bs r q (text x) (blob y) e a b = absurd (omega arith)
field_same bs r q (blob x) (number y) e a b = absurd (omega arith)
field_same bs r q (blob x) (text y) e a b = absurd (omega arith)

pub holds_at : {ts us bs cs : List ℕ} {vs : List Value} → ts ≡ us → bs ≡ cs → Holds us cs vs → Holds ts bs vs
holds_at {ts} {us} {bs} {cs} {vs} e f h = subst (λ x. Holds x bs vs) (sym e) (subst (λ y. Holds us y vs) (sym f) h)

pub holds-none : {bs : List ℕ} (vs : List Value) → Holds [] bs vs → (vs ≡ []) × (bs ≡ [])
holds-none [] h = (refl, h.fields)
holds-none (v ∷ vs) h = absurd (omega (arith, ap length h.tags))

pub holds-refused : (t : ℕ) (ts bs : List ℕ) → ((v : Value) (rest : List ℕ) → tag v ≡ t → Field v bs rest → ⊥) → (vs : List Value) → Holds (t ∷ ts) bs vs → ⊥
holds-refused t ts bs none [] h = absurd (omega (arith, ap length h.tags))
holds-refused t ts bs none (v ∷ vs) h = none v h.fields.0 (ap (λ x. get_or x 0 0) h.tags) h.fields.1.0

-- there are arguments in the one just if there are in the other
pub record Same (ts bs us cs : List ℕ) : Type 0 where
  pub on : (vs : List Value) → Holds ts bs vs → (ws : List Value) × Holds us cs ws
  pub back : (ws : List Value) → Holds us cs ws → (vs : List Value) × Holds ts bs vs

-- one more tag letter t, for which v stands at the front of bs
module _ (t : ℕ) (ts bs more : List ℕ) (v : Value) (e : tag v ≡ t) (f : Field v bs more) where
  pub holds_less : (vs : List Value) → Holds (t ∷ ts) bs vs → (ws : List Value) × ((vs ≡ v ∷ ws) × Holds ts more ws)
  holds_less [] h = absurd (omega (arith, ap length h.tags))
  holds_less (w ∷ ws) h =
      let g = h.fields.1 in
      let s = field_same bs more h.fields.0 v w (e ∙ sym (ap (λ x. get_or x 0 0) h.tags)) f g.0 in
      (ws, ((λ i. sym s.0 i ∷ ws), record { tags = ap (drop 1) h.tags; fields = subst (Fields ws) (sym s.1) g.1 }))

  pub holds_more : (vs : List Value) → Holds ts more vs → Holds (t ∷ ts) bs (v ∷ vs)
  holds_more vs h = record { tags = λ i. e i ∷ h.tags i; fields = (more, (f, h.fields)) }

  pub same_step : (us cs : List ℕ) → Same us cs (t ∷ ts) bs → Same us cs ts more
  same_step us cs s = record {
    on = λ vs h. let w = s.on vs h in let l = holds_less w.0 w.1 in (l.0, l.1.1);
    back = λ ws h. s.back (v ∷ ws) (holds_more ws h);
  }

-- the end of a walk over the tag letters
pub fit_end : (b : Bool) (ts bs us cs : List ℕ) → Same ts bs us cs → us ≡ [] → b ≡ eqb (length cs) 0 → MatchBool b ((vs : List Value) × Holds ts bs vs) ((vs : List Value) → Holds ts bs vs → ⊥)
fit_end true ts bs us cs s e h = s.back [] (record { tags = sym e; fields = nil_from_length cs (eqb-true (length cs) 0 (sym h)) })
fit_end false ts bs us cs s e h = λ vs k.
    let w = s.on vs k in
    eqb-false (length cs) 0 (sym h) (ap length (holds-none w.0 (subst (λ x. Holds x cs w.0) e w.1)).1)

pub holds_same : (ts bs : List ℕ) (vs ws : List Value) → Holds ts bs vs → Holds ts bs ws → vs ≡ ws
holds_same ts bs [] ws h k = sym (holds-none ws (subst (λ x. Holds x bs ws) (sym h.tags) k)).0
holds_same ts bs (v ∷ vs) ws h k =
    let l = holds_less (tag v) (map tag vs) bs h.fields.0 v refl h.fields.1.0 ws (subst (λ x. Holds x bs ws) (sym h.tags) k) in
    ap (λ x. v ∷ x) (holds_same (map tag vs) h.fields.0 vs l.0 (record { tags = refl; fields = h.fields.1.1 }) l.1.1) ∙ sym l.1.0
