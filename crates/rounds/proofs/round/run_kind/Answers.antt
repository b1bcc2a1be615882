use Rattle.std.proofs.Common.{◌≡◌, ℕ, List, sym, ap, ◌∙◌}
use Rattle.sets.specs.Sets.{has}
use Rattle.words.specs.Kinds.{is_word}
use Rattle.agreement.specs.declared.stage.RoundKind.{RoundKind}
use Rattle.agreement.specs.Made.{rule_of, rig_of}
use Rattle.agreement.specs.Rounds.{king_held}
use Rattle.agreement.specs.Sheets.{sixteen, vote_sheet, round_sheet}
use Rattle.rounds.specs.Settings.{setting_from}
use Rattle.rounds.specs.Sheets.{votes_on}
use Rattle.rounds.specs.Tallies.{graded_by}
use Rattle.rounds.specs.declared.outcome.Outcome.{Outcome}
use Rattle.rounds.specs.Outcomes.{outcome_of}
use Rattle.rounds.proofs.Rounds.{after_caller, after-king, after-weak, after-graded}
use Rattle.rounds.proofs.round.run_kind.Goals as goal

pub returns-in-Caller : goal.returns-in-Caller
unfolding round_sheet
returns-in-Caller g c =
    let R = rule_of g.Q.Rule c.args.rule.now in
    let e = setting_from (rig_of g.R.Wire g.R.Rig c.args.rig.now) (is_word g.K.WordKind.word) c.args.start.now in
    let leaves : RoundKind → Outcome = λ k. outcome_of k R e (g.K.WordKind.code c.args.rest) c.args.start.now.caller c.args.start.now.lamps in
    let writes : RoundKind → List ℕ = λ k. round_sheet k R.n e c.args.votes.now in
    record {
      value = after_caller R e (g.K.WordKind.code c.args.rest) c.args.start.now.caller c.args.start.now.lamps c.caller_round-held.result (c.caller_round-held.ensures (g.R.Rig.heard c.args.rig.now))
          ∙ ap leaves (sym c.in-Caller.is);
      after = ap writes (sym c.in-Caller.is);
    }

pub returns-in-King : goal.returns-in-King
unfolding round_sheet
returns-in-King g c =
    let R = rule_of g.Q.Rule c.args.rule.now in
    let e = setting_from (rig_of g.R.Wire g.R.Rig c.args.rig.now) (is_word g.K.WordKind.word) c.args.start.now in
    let start = c.args.start.now in
    let rest = g.K.WordKind.code c.args.rest in
    let leaves : RoundKind → Outcome = λ k. outcome_of k R e (g.K.WordKind.code c.args.rest) c.args.start.now.caller c.args.start.now.lamps in
    let writes : RoundKind → List ℕ = λ k. round_sheet k R.n e c.args.votes.now in
    record {
      value = after-king R e rest start.caller start.lamps c.in-King.number c.king_round-held.result
          (c.king_round-held.ensures (g.R.Rig.heard c.args.rig.now) ∙ ap (λ (k : ℕ). sixteen R.n (king_held e rest (has start.lamps) k)) c.king_of.ensures)
          ∙ ap leaves (sym c.in-King.is);
      after = ap writes (sym c.in-King.is);
    }

pub returns-in-Weak : goal.returns-in-Weak
unfolding round_sheet
returns-in-Weak g c =
    let rule = c.args.rule.now in
    let R = rule_of g.Q.Rule rule in
    let e = setting_from (rig_of g.R.Wire g.R.Rig c.args.rig.now) (is_word g.K.WordKind.word) c.args.start.now in
    let old = c.args.votes.now in
    let sheet = c.vote.new.votes in
    let voted : sheet ≡ vote_sheet R.n e old = c.vote.ensures in
    let leaves : RoundKind → Outcome = λ k. outcome_of k R e (g.K.WordKind.code c.args.rest) c.args.start.now.caller c.args.start.now.lamps in
    let writes : RoundKind → List ℕ = λ k. round_sheet k R.n e c.args.votes.now in
    record {
      value = after-weak R e (g.K.WordKind.code c.args.rest) c.args.start.now.caller c.args.start.now.lamps (g.met.Q.Rule.sized rule).1 old sheet voted c.weak_codes-held.result c.weak_codes-held.ensures
          ∙ ap leaves (sym c.in-Weak.is);
      after = voted ∙ ap writes (sym c.in-Weak.is);
    }

pub returns-in-Graded : goal.returns-in-Graded
unfolding round_sheet
returns-in-Graded g c =
    let rule = c.args.rule.now in
    let R = rule_of g.Q.Rule rule in
    let e = setting_from (rig_of g.R.Wire g.R.Rig c.args.rig.now) (is_word g.K.WordKind.word) c.args.start.now in
    let old = c.args.votes.now in
    let sheet = c.vote-in-Graded.new.votes in
    let voted : sheet ≡ vote_sheet R.n e old = c.vote-in-Graded.ensures in
    let leaves : RoundKind → Outcome = λ k. outcome_of k R e (g.K.WordKind.code c.args.rest) c.args.start.now.caller c.args.start.now.lamps in
    let writes : RoundKind → List ℕ = λ k. round_sheet k R.n e c.args.votes.now in
    record {
      value = c.grade.ensures ∙ ap (λ (rest : ℕ). graded_by R e.words rest (votes_on sheet)) c.encode.ensures
          ∙ after-graded R e (g.K.WordKind.code c.args.rest) c.args.start.now.caller c.args.start.now.lamps (g.met.Q.Rule.sized rule).1 old sheet voted
          ∙ ap leaves (sym c.in-Graded.is);
      after = voted ∙ ap writes (sym c.in-Graded.is);
    }
