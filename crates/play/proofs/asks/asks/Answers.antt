use Rattle.std.proofs.Common.{sym, ◌∙◌}
use Rattle.std.proofs.lemmas.Result.{err_from_is_err_and}
use Rattle.play.proofs.Asked.{asks-broken, asks-unknown, asks-known}
use Rattle.play.proofs.asks.asks.Goals as goal

pub returns-in_err-message : goal.returns-in_err-message
returns-in_err-message g c =
    let p = err_from_is_err_and c.from_residual.result c.from_residual.ensures.1 in
    let broken = c.in_err-message.ensures.value in
    rw p.1 (asks-broken _ _ p.0 (p.2 ∙ broken.0) broken.1)

pub returns-in_err-try_from : goal.returns-in_err-try_from
returns-in_err-try_from g c =
    let p = err_from_is_err_and c.from_residual-in_err-try_from.result c.from_residual-in_err-try_from.ensures.1 in
    let read = c.in_ok-message.ensures.value in
    let named = c.in_err-try_from.ensures in
    rw p.1 (asks-unknown _ _ read.content read.means p.0 (p.2 ∙ named.0) (λ k e. named.1 k (c.address.ensures.value ∙ read.says.address ∙ e)))

pub returns : goal.returns
returns g c =
    let read = c.in_ok-message.ensures.value in
    asks-known _ _ read.content read.means c.in_ok-try_from.field-0 (sym (c.address.ensures.value ∙ read.says.address) ∙ c.in_ok-try_from.ensures) _ (c.call_of.ensures read.content.arguments read.says.left)
