use Rattle.std.proofs.Common.{◌<◌, length, subst, rules}
use Rattle.std.proofs.lemmas.Slice.{first_rest}
use Rattle.packets.specs.Read.{Holds}
use Rattle.packets.proofs.Arguments.{holds_at, holds_less, holds-refused}
use Rattle.packets.proofs.message.Message.next.Goals as goal

pub returns-in_err-argument-clause-value : goal.returns-in_err-argument-clause-value
returns-in_err-argument-clause-value c = rw c.from_residual.ensures (λ vs h.
    let some : 0 < length c.args.self.now.tags.now = search rules in
    let e = first_rest c.args.self.now.tags.now 0 some in
    absurd (holds-refused _ _ _ c.in_err-argument.ensures vs (subst (λ x. Holds x c.args.self.now.fields.now vs) e h)))

pub returns-clause-value : goal.returns-clause-value
returns-clause-value c = λ vs h.
    let some : 0 < length c.args.self.now.tags.now = search rules in
    let e = first_rest c.args.self.now.tags.now 0 some in
    let got = c.in_ok-argument.ensures in
    let made = c.with_left.ensures in
    let l = holds_less _ _ _ _ _ got.0 got.1 vs (subst (λ x. Holds x c.args.self.now.fields.now vs) e h) in
    (l.0, (l.1.0, holds_at made.left.0 made.left.1 l.1.1))
