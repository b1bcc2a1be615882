use Rattle.std.proofs.Common.{ℕ, List, ◌∙◌, ap}
use Rattle.sets.specs.Sets.{has}
use Rattle.words.specs.Kinds.{is_word}
use Rattle.agreement.specs.Rounds.{king_held}
use Rattle.agreement.specs.Sheets.{sixteen}
use Rattle.rounds.specs.Settings.{lines, setting_from}
use Rattle.rounds.proofs.Fills.{sixteen-same}
use Rattle.rounds.proofs.Kept.{no-lamp}
use Rattle.rounds.proofs.wires.caller_round.Goals as goal

pub returns : goal.returns
returns g c = λ trio.
    let e = setting_from (lines (g.R.Wire.carried c.args.rig.now) trio) (is_word g.K.WordKind.word) c.args.start.now in
    let caller = c.args.start.now.caller in
    let codes : ℕ → List ℕ = λ rest. sixteen (g.Q.Rule.stations c.args.rule.now) (king_held e rest (has 0) caller) in
    c.codes.ensures trio ∙ ap codes c.encode.ensures ∙ sixteen-same _ _ _ (λ p _. no-lamp e (g.K.WordKind.code c.args.rest) caller p)
