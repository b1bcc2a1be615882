use Rattle.std.proofs.Common.{sym, ◌∙◌}
use Rattle.packets.proofs.Puts.{length-text}
use Rattle.packets.proofs.Arguments.{some_where, none_test}
use Rattle.packets.proofs.entries.text_size.Goals as goal

pub returns : goal.returns
returns c =
    some_where _ _ _ _ c.then_some.ensures (none_test _ _ _ _ c.is_none.ensures c.zero_at.ensures)
    (λ (n, end) plain. plain n end.within end.found)
    (λ plain. (plain, c.filled_len.ensures ∙ sym (length-text c.args.s.now)))
