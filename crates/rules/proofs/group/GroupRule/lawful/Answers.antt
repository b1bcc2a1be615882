use Rattle.std.proofs.lemmas.Result.{err_from_is_err_and}
use Rattle.rules.proofs.group.GroupRule.lawful.Goals as goal

pub returns-in_err-station_count : goal.returns-in_err-station_count
returns-in_err-station_count c = let p = err_from_is_err_and c.from_residual.result c.from_residual.ensures.1 in
    let h = c.in_err-station_count.ensures in
    rw (p.1, p.2) (h.0.1 _, λ m. h.1 m.0)
