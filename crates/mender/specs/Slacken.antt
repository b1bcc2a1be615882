-- The telling of a slack keeps the laws of tellings.
use Rattle.std.specs.Prelude.{◌≡◌, ℕ, true}
use Rattle.std.proofs.Common.{sym, ◌∙◌}
use Rattle.std.proofs.lemmas.Bool.{cond-true, cond-false}
use Rattle.rigs.specs.declared.keys.TrioKey.{TrioKey}
use Rattle.rigs.specs.Keys.{good_wire, good_tell, other_than}
use Rattle.rigs.specs.Lines.{Wires}
use Rattle.rigs.specs.Laws.{Kept, BadTelling, Passed}
use Rattle.rigs.proofs.Trios.{trio-facts, in_below, wire-good}
use Rattle.rigs.proofs.Listeners.{tell-facts, other_in, other_differs}
use Rattle.mender.specs.Slacks.{tell_wire, slack_told}

-- the wire between the two listeners of a good key is good
pub tell-wire-good : (k : TrioKey) (t : ℕ) → good_tell k t ≡ true → good_wire (tell_wire k t) ≡ true
tell-wire-good k t e =
    let p = tell-facts k t e in
    wire-good (tell_wire k t) (trio-facts k p.0).0 (in_below k t p.0 p.1)
    (in_below k (other_than k t) p.0 (other_in k t p.0 p.1 p.2))
    (λ q. other_differs k t p.0 p.1 p.2 (sym q))

pub slack_untold : (w : Wires) → BadTelling (slack_told w)
slack_untold w k t code broken e = cond-false (good_tell k t) _ _ e

pub slack_passed : (w : Wires) → Kept w → Passed (slack_told w)
slack_passed w kept k t code broken e h h' = cond-true (good_tell k t) _ _ e ∙ kept (tell_wire k t) code broken (tell-wire-good k t e) h h'
