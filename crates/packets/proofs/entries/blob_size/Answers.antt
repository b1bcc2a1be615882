use Rattle.std.proofs.Common.{◌<◌, ◌≤◌, leb, length, MatchBool, arith, rules, tests}
use Rattle.packets.proofs.Puts.{length-blob}
use Rattle.packets.proofs.Arguments.{some_where}
use Rattle.packets.proofs.entries.blob_size.Goals as goal

pub returns : goal.returns
returns c =
    let n = length c.args.b.now in
    let test : MatchBool (leb n 2147483647) (n ≤ 2147483647) (2147483647 < n) = search (rules, tests) in
    some_where _ _ _ _ c.then_some.ensures test
    (λ long. omega arith)
    (λ short. (omega arith, omega (arith, c.filled_len.ensures, length-blob c.args.b.now)))
