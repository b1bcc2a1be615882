use Rattle.std.proofs.Common.{◌≡◌, ℕ, ◌≤◌, ◌++◌, List, length, take, drop, rules, sym, ap, ◌∙◌}
use Rattle.std.proofs.lemmas.Bool.{cond-true, le-leb}
use Rattle.words.specs.Kinds.{is_word}
use Rattle.agreement.specs.Made.{rig_of}
use Rattle.agreement.specs.Sheets.{vote_sheet}
use Rattle.rounds.specs.Settings.{setting_from}
use Rattle.rounds.proofs.Rounds.{fits, vote_sheet-first}
use Rattle.rounds.proofs.vote.vote.Goals as goal

pub returns : goal.returns
returns g c =
    let sheet = c.args.sheet.now in
    let n = g.Q.Rule.stations c.args.rule.now in
    let e = setting_from (rig_of g.R.Wire g.R.Rig c.args.rig.now) (is_word g.K.WordKind.word) c.args.start.now in
    let at : c.in_ok-votes.votes.now ≡ take 4096 sheet = search rules in
    let long : 4096 ≤ length sheet = search rules in
    record {
      refused = fits sheet tt long;
      after = ap (λ (s : List ℕ). s ++ drop 4096 sheet) (c.vote.ensures ∙ ap (vote_sheet n e) at) ∙ vote_sheet-first n e sheet ∙ sym (cond-true _ _ _ (le-leb 4096 (length sheet) long));
    }
