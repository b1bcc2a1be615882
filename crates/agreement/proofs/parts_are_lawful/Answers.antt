use Rattle.words.proofs.KindLaws.{small-words, some_word}
use Rattle.agreement.proofs.parts_are_lawful.Goals as goal

pub returns : goal.returns
returns g c =
    let rule = c.args.rule.now in
    let rig = c.args.rig.now in
    let kind = g.met.K.WordKind in
    record {
      rule = record { sized = g.met.Q.Rule.sized rule; own = g.met.Q.Rule.own rule; part = g.met.Q.Rule.part rule; single = g.met.Q.Rule.single rule; apart = g.met.Q.Rule.apart rule };
      rig = record { bad = g.met.R.Wire.bad rig; kept = g.met.R.Wire.kept rig; mute = g.met.R.Rig.mute rig; spoken = g.met.R.Rig.spoken rig; agreed = g.met.R.Rig.agreed rig };
      kind = record { some = some_word _ _ kind.sized kind.full; small = small-words _ _ kind.sized kind.full; back = kind.back; only = kind.only };
    }
