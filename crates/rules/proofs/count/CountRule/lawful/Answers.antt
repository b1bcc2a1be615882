use Rattle.std.proofs.lemmas.Result.{err_from_is_err_and}
use Rattle.rules.proofs.count.CountRule.lawful.Goals as goal

pub returns-in_err-stations : goal.returns-in_err-stations
returns-in_err-stations c = let p = err_from_is_err_and c.from_residual.result c.from_residual.ensures.1 in
    let h = c.in_err-stations.ensures in
    rw (p.1, p.2) (h.0.0 _, λ m. h.1 m.0)
