use Rattle.std.proofs.Common.{◌+◌, sym, refl, subst, arith}
use Rattle.packets.specs.Osc.{Plain, Content}
use Rattle.packets.specs.Read.{Ends}
use Rattle.packets.proofs.Texts.{text_unended}
use Rattle.packets.proofs.Encodings.{plain-behind, ends-behind, encoding_comma, encoding-behind, encoding-made, encoding-holds, encoding-same, encoding-whole, begins_with}
use Rattle.packets.proofs.Encoded.{encoding-length}
use Rattle.packets.proofs.Arguments.{some_where}
use Rattle.packets.proofs.message.find_message.Goals as goal

pub returns-in_err-n : goal.returns-in_err-n
returns-in_err-n c =
    let e = begins_with c.in_ok-rest.ensures.0 c.in_ok-rest.ensures.1 in
    rw c.from_residual-in_err-n.ensures (λ m l. text_unended _ (subst Plain (sym e) (plain-behind 47 _ (λ z. omega arith) c.in_err-n.ensures)) _ _ l.address)

pub cut_text-requires : goal.cut_text-requires
cut_text-requires c =
    let e = begins_with c.in_ok-rest.ensures.0 c.in_ok-rest.ensures.1 in
    subst (λ x. Ends x (c.in_ok-n.n + 1)) (sym e) (ends-behind 47 _ _ (λ z. omega arith) c.in_ok-n.ensures)

pub returns-in_err-address : goal.returns-in_err-address
returns-in_err-address c = rw c.from_residual-in_err-address.ensures (λ m l. c.in_err-address.ensures _ _ l.address)

pub returns-in_err-list : goal.returns-in_err-list
returns-in_err-list c = rw c.from_residual-in_err-list.ensures (λ m l. c.in_err-list.ensures _ _ (encoding-behind m c.in_ok-address.ensures l))

pub returns-in_err-tags : goal.returns-in_err-tags
returns-in_err-tags c =
    rw c.from_residual-in_err-tags.ensures
    (λ m l. c.in_err-tags.ensures (encoding_comma m c.in_ok-address.ensures c.in_ok-list.ensures l))

pub returns : goal.returns
returns c =
    let slash = c.in_ok-rest.ensures.0.first in
    let e = begins_with c.in_ok-tags.ensures.0 c.in_ok-tags.ensures.1 in
    some_where _ _ _ _ c.then_some.ensures c.fit.ensures
    (λ none m l. none _ (encoding-holds m _ _ _ _ _ _ c.in_ok-address.ensures c.in_ok-list.ensures e l))
    (λ got.
    let m : Content = record { address = c.in_ok-address.address.now; arguments = got.0 } in
    let l = encoding-made _ _ _ _ _ _ _ slash c.in_ok-address.ensures c.in_ok-list.ensures e got.1 (omega (arith, c.in_ok-within_packet.ensures)) in
    record {
      content = m;
      means = record { encoding = l; only = λ k n. encoding-same k m _ n l };
      says = record { address = refl; left = got.1 };
      whole = encoding-whole m _ l;
      len = encoding-length m _ l;
    })
