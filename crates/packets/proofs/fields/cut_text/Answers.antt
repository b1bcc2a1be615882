use native.Mathlib.Nat.{sub-zero}
use Rattle.packets.proofs.Texts.{text-made, text-refused}
use Rattle.packets.proofs.fields.cut_text.Goals as goal

pub returns-in_err-part : goal.returns-in_err-part
returns-in_err-part c = rw c.from_residual.ensures (text-refused _ _ c.requires c.in_err-part.ensures)

pub returns : goal.returns
returns c =
    let got = c.in_ok-part.ensures in
    simp sub-zero (text-made _ _ _ c.args.n c.requires got.0 got.1)
