-- What a packet is found to ask of the console is what it asks.
use Rattle.std.proofs.Common.{◌≡◌, ℕ, List, get_or, Err, Result, sym, refl, ap, ◌∙◌, arith}
use Rattle.refusals.specs.declared.Refusal.{Refusal}
use Rattle.refusals.specs.declared.Refusal.TheVariants.{BrokenLayout, UnknownAddress}
use Rattle.packets.specs.Osc.{Content, Encoding, Means}
use Rattle.words.specs.Gates.{gate_word}
use Rattle.play.specs.declared.name.Name.{Name}
use Rattle.play.specs.declared.name.Name.TheVariants.{Open, Round, Strike, Mark, Clear, Read, Lamp}
use Rattle.play.specs.Names.{address_of}
use Rattle.play.specs.Asks.{call_of}
use Rattle.play.proofs.Asked.{one_name}
use Rattle.console_hall.specs.Making.{making_of}
use Rattle.console_hall.specs.Orders.{make_address, Wanted, as_making, as_call, Orders}

-- no call has the address of a making: their ninth letters differ
ninth : (c : Name) → address_of c ≡ make_address → get_or (address_of c) 8 0 ≡ 107
ninth c e = ap (λ (xs : List ℕ). get_or xs 8 0) e

pub not_make : (c : Name) → address_of c ≡ make_address → ⊥
not_make Open e = omega (arith, ninth Open e)
not_make Round e = omega (arith, ninth Round e)
not_make Strike e = omega (arith, ninth Strike e)
not_make Mark e = omega (arith, ninth Mark e)
not_make Clear e = omega (arith, ninth Clear e)
not_make Read e = omega (arith, ninth Read e)
not_make Lamp e = omega (arith, ninth Lamp e)

module _ (packet : List ℕ) where
  pub order_broken : ((m : Content) → Encoding m packet → ⊥) → Orders packet (Err BrokenLayout)
  order_broken none =
      record { broken = λ _. refl; making = λ m l _. absurd (none m l); known = λ m c l _. absurd (none m l); unknown = λ m l _ _. absurd (none m l) }

  module _ (m : Content) (means : Means m packet) where
    same_address : (k : Content) → Encoding k packet → m.address ≡ k.address
    same_address k l = sym (ap (λ (z : Content). z.address) (means.only k l))

    pub order_making : m.address ≡ make_address → (r : Result Wanted Refusal) → r ≡ as_making (making_of m.arguments) → Orders packet r
    order_making is r e =
        record {
          broken = λ h. absurd (h m means.encoding);
          making = λ k l _. e ∙ ap (λ (z : Content). as_making (making_of z.arguments)) (sym (means.only k l));
          known = λ k c l f. absurd (not_make c (sym f ∙ sym (same_address k l) ∙ is));
          unknown = λ k l h _. absurd (h (sym (same_address k l) ∙ is));
        }

    pub order_known : (c : Name) → m.address ≡ address_of c → (r : Result Wanted Refusal) → r ≡ as_call (call_of gate_word c m.arguments) → Orders packet r
    order_known c is r e =
        record {
          broken = λ h. absurd (h m means.encoding);
          making = λ k l f. absurd (not_make c (sym is ∙ same_address k l ∙ f));
          known = λ k d l f.
              let name : c ≡ d = one_name c d (sym is ∙ same_address k l ∙ f) in
              e ∙ ap (λ (z : Name). as_call (call_of gate_word z m.arguments)) name ∙ ap (λ (z : Content). as_call (call_of gate_word d z.arguments)) (sym (means.only k l));
          unknown = λ k l _ h. absurd (h c (sym (same_address k l) ∙ is));
        }

    pub order_unknown : (m.address ≡ make_address → ⊥) → ((c : Name) → m.address ≡ address_of c → ⊥) → (e : Refusal) → e ≡ UnknownAddress → Orders packet (Err e)
    order_unknown no-make none e is =
        record {
          broken = λ h. absurd (h m means.encoding);
          making = λ k l f. absurd (no-make (same_address k l ∙ f));
          known = λ k c l f. absurd (none c (same_address k l ∙ f));
          unknown = λ _ _ _ _. ap (λ (z : Refusal). Err z) is;
        }
