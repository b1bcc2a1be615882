use Rattle.std.proofs.Common.{rules}
use Rattle.sets.specs.Sets.{has}
use Rattle.words.specs.Kinds.{is_word}
use Rattle.agreement.specs.Rounds.{king_held}
use Rattle.rounds.specs.Settings.{lines, setting_from}
use Rattle.rounds.proofs.Fills.{sixteen_is}
use Rattle.rounds.proofs.wires.Sender.codes.Goals as goal

pub returns : goal.returns
returns g c = λ trio.
    let self = c.args.self.now in
    let f = king_held (setting_from (lines (g.R.Wire.carried self.rig.now) trio) (is_word g.K.WordKind.word) self.start.now) self.rest (has self.lamps) self.from in
    sixteen_is f _ _ (g.met.Q.Rule.sized c.args.rule.now).1 (c.by_station.ensures f (λ p x low post. search rules))
