use Rattle.std.proofs.Common.{◌≡◌, ℕ, ◌/◌, List, length, IfOk, subst, rules}
use Rattle.std.proofs.iter.runs.Made.{chains}
use Rattle.console_hall.proofs.Pairs.{pairs_are}
use Rattle.console_hall.proofs.entries.entries.Goals as goal

pub returns : goal.returns
returns c =
    let bytes = c.args.bytes.now in
    subst (λ (ns : List ℕ). IfOk c.collect.result (λ v. v.items ≡ ns)) (pairs_are bytes 0 (length bytes / 2)) (search (rules, chains))
