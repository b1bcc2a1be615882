use Rattle.std.proofs.Common.{sym, refl, ◌∙◌}
use Rattle.std.proofs.lemmas.Bool.{true≢false}
use Rattle.std.proofs.lemmas.Result.{err_from_is_err_and}
use Rattle.console_hall.proofs.Ordered.{order_broken, order_making, order_known, order_unknown}
use Rattle.console_hall.proofs.order.read_order.Goals as goal

pub returns-in_err-message : goal.returns-in_err-message
returns-in_err-message c =
    let p = err_from_is_err_and c.from_residual.result c.from_residual.ensures.1 in
    let broken = c.in_err-message.ensures.value in
    rw (p.1, p.2, broken.0) (order_broken _ broken.1)

pub returns-then-is_make : goal.returns-then-is_make
returns-then-is_make c =
    let read = c.in_ok-message.ensures.value in
    let at = c.address.ensures.value ∙ read.says.address in
    order_making _ read.content read.means (sym at ∙ c.if-is_make.ensures.0 refl) _ (c.make_order.ensures read.content.arguments read.says.left)

pub returns-in_err-try_from : goal.returns-in_err-try_from
returns-in_err-try_from c =
    let p = err_from_is_err_and c.from_residual-in_err-try_from.result c.from_residual-in_err-try_from.ensures.1 in
    let read = c.in_ok-message.ensures.value in
    let at = c.address.ensures.value ∙ read.says.address in
    let at-2 = c.address-2.ensures.value ∙ read.says.address in
    let named = c.in_err-try_from.ensures in
    rw p.1 (order_unknown _ read.content read.means (λ e. true≢false (sym (c.if-is_make.ensures.1 (at ∙ e)))) (λ k e. named.1 k (at-2 ∙ e)) p.0 (p.2 ∙ named.0))

pub returns : goal.returns
returns c =
    let read = c.in_ok-message.ensures.value in
    let at = c.address-2.ensures.value ∙ read.says.address in
    order_known _ read.content read.means c.in_ok-try_from.field-0 (sym at ∙ c.in_ok-try_from.ensures) _ (c.call_order.ensures read.content.arguments read.says.left)
