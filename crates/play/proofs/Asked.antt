-- What a packet is found to ask is what it asks: it has at most one meaning, and an address names at most one call.
use Rattle.std.proofs.Common.{◌≡◌, ℕ, ◌+◌, cond, eqb, List, get_or, Err, Option, Result, sym, refl, ap, ◌∙◌}
use Rattle.refusals.specs.declared.Refusal.{Refusal}
use Rattle.refusals.specs.declared.Refusal.TheVariants.{BrokenLayout, UnknownAddress}
use Rattle.packets.specs.Osc.{Content, Encoding, Means}
use Rattle.hall.specs.declared.call.Call.{Call}
use Rattle.play.specs.declared.name.Name.{Name}
use Rattle.play.specs.declared.name.Name.TheVariants.{Open, Round, Strike, Mark, Clear, Read, Lamp}
use Rattle.play.specs.Names.{address_of}
use Rattle.play.specs.Asks.{call_of, Asks}

-- the name, from two letters of its address
unfoldable name_by : ℕ → Name
name_by x =
    cond (eqb x 223) Open (cond (eqb x 225) Round (cond (eqb x 231) Strike (cond (eqb x 206) Mark (cond (eqb x 207) Clear (cond (eqb x 215) Read Lamp)))))

abbrev letters : List ℕ → ℕ
letters xs = get_or xs 6 0 + get_or xs 7 0

named : (c : Name) → c ≡ name_by (letters (address_of c))
unfolding name_by
named Open = refl
named Round = refl
named Strike = refl
named Mark = refl
named Clear = refl
named Read = refl
named Lamp = refl

pub one_name : (c d : Name) → address_of c ≡ address_of d → c ≡ d
one_name c d e = named c ∙ ap (λ (xs : List ℕ). name_by (letters xs)) e ∙ sym (named d)

module _ {K : Type 0} (word : ℕ → Option K) (packet : List ℕ) where
  pub asks-broken : (e : Refusal) → e ≡ BrokenLayout → ((m : Content) → Encoding m packet → ⊥) → Asks word packet (Err e)
  asks-broken e is none =
      record { broken = λ _. ap (λ (z : Refusal). Err z) is; unknown = λ m l _. absurd (none m l); known = λ m c l _. absurd (none m l) }

  pub asks-unknown : (m : Content) → Means m packet → (e : Refusal) → e ≡ UnknownAddress → ((c : Name) → m.address ≡ address_of c → ⊥) → Asks word packet (Err e)
  asks-unknown m means e is none =
      record {
        broken = λ h. absurd (h m means.encoding);
        unknown = λ _ _ _. ap (λ (z : Refusal). Err z) is;
        known = λ k c l f. absurd (none c (sym (ap (λ (z : Content). z.address) (means.only k l)) ∙ f));
      }

  pub asks-known : (m : Content) → Means m packet → (c : Name) → m.address ≡ address_of c → (r : Result (Call K) Refusal) → r ≡ call_of word c m.arguments → Asks word packet r
  asks-known m means c is r e =
      record {
        broken = λ h. absurd (h m means.encoding);
        unknown = λ k l h. absurd (h c (ap (λ (z : Content). z.address) (means.only k l) ∙ is));
        known = λ k d l f.
            let same = means.only k l in
            let name : c ≡ d = one_name c d (sym is ∙ sym (ap (λ (z : Content). z.address) same) ∙ f) in
            e ∙ ap (λ (z : Name). call_of word z m.arguments) name ∙ ap (λ (z : Content). call_of word d z.arguments) (sym same);
      }
