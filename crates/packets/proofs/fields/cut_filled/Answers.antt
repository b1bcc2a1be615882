use Rattle.packets.proofs.Cuts.{filled_at}
use Rattle.packets.proofs.fields.cut_filled.Goals as goal

pub returns : goal.returns
returns c =
    let p = c.in_ok-part.ensures.cases in
    let q = c.in_ok-rest.ensures.cases in
    (p.3, filled_at _ _ _ _ _ _ p.1 p.2 c.fill_len.ensures q.2 q.0 p.0)
