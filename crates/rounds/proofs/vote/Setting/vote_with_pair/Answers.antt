use Rattle.std.proofs.Common.{◌≡◌, List, ℕ, ◌≤◌, sym, subst, arith}
use Rattle.words.specs.Kinds.{is_word}
use Rattle.agreement.specs.Made.{rig_of}
use Rattle.agreement.specs.Sheets.{vote_entry}
use Rattle.rounds.specs.Settings.{setting_from}
use Rattle.rounds.specs.Sheets.{with_pair, with_trio, high, Wrote}
use Rattle.rounds.proofs.Writes.{turn, first, last}
use Rattle.rounds.proofs.Entries.{high_above, high-below, trio_wrote}
use Rattle.rounds.proofs.vote.Setting.vote_with_pair.Goals as goal

pub loop-c-init : goal.loop-c-init
loop-c-init g c = first (with_pair _ c.args.a c.args.b) high _ c.args.votes.now _ (high_above _ c.args.a c.args.b)

pub loop-c-preserved : goal.loop-c-preserved
loop-c-preserved g c =
    let self = c.args.self.now in
    let n = g.Q.Rule.stations self.rule.now in
    let few : n ≤ 16 = (g.met.Q.Rule.sized self.rule.now).1 in
    let a = c.args.a in
    let b = c.args.b in
    let m = c.loop-c.c in
    let e = setting_from (rig_of g.R.Wire g.R.Rig self.rig.now) (is_word g.K.WordKind.word) self.start.now in
    turn (with_pair n a b) high (vote_entry n e) _ c.loop-c.votes c.args.votes.now m c.loop-c.invariant
    (subst (λ (s : List ℕ). Wrote (with_trio n a b m) (vote_entry n e) s c.loop-c.votes) (sym c.put_trio.ensures)
    (trio_wrote n e a b m c.requires.0 (omega arith) (omega (arith, c.n-c-end.ensures)) few c.loop-c.votes (omega (arith, c.loop-c.invariant.long, c.told-votes))))

pub returns : goal.returns
returns g c =
    let n = g.Q.Rule.stations c.args.self.now.rule.now in
    last (with_pair n c.args.a c.args.b) high _ c.loop-c.votes c.args.votes.now n (high-below n c.args.a c.args.b)
    (let z : c.loop-c.c ≡ n = omega (arith, c.n-c-end.ensures, c.requires.1) in rw z at c.loop-c.invariant)
