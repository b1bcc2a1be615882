use Rattle.std.proofs.Common.{◌≡◌, pos, nat_abs, sym, ap, ◌∙◌, w32}
use Rattle.std.proofs.lemmas.Int.{to_z-of_z}
use Rattle.packets.proofs.Texts.{blob-filled, blob-made}
use Rattle.packets.proofs.Arguments.{some_weaker}
use Rattle.packets.proofs.fields.read_blob.Goals as goal

pub returns-in_err-size : goal.returns-in_err-size
returns-in_err-size c = rw c.from_residual.ensures (λ b rest h. c.in_err-size.ensures _ _ h.size)

pub returns : goal.returns
returns c =
    let x = c.in_ok-size.ensures in
    let e : c.in_ok-size.size ≡ pos c.in_ok-n.n = sym (to_z-of_z w32 _ x.fits) ∙ c.in_ok-n.ensures in
    some_weaker c.cut_filled.result
    (λ none b rest h. let f = blob-filled x h in none b rest f.1 (sym (ap nat_abs (sym e ∙ f.0))))
    (λ p h. blob-made _ _ _ _ _ x (e ∙ ap pos (sym h.0)) h.1)
    c.cut_filled.ensures
