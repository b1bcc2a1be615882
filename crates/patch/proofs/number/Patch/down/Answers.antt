use Rattle.std.proofs.Common.{rules, cond, ◌||◌, eqb, refl, ◌∙◌}
use Rattle.std.proofs.lemmas.Iterator.{YieldsList-from_range}
use Rattle.std.proofs.lemmas.Iterator.Consumers.{fold_from_yields_List}
use Rattle.sets.specs.Sets.{has, mask_of}
use Rattle.patch.specs.Boxes.{box_of, boxes}
use Rattle.patch.proofs.Gathered.{gathered}
use Rattle.patch.proofs.number.Patch.down.Goals as goal

pub returns : goal.returns
unfolding boxes
returns c =
    let f = box_of c.args.self.now.number in
    let set = c.args.set in
    fold_from_yields_List _ (λ under i. cond (has set i) (mask_of 16 (λ j. has under j || eqb (f i) j)) under) 0 c.fold.result c.fold.ensures.ran
    (YieldsList-from_range 0 16 16 refl refl)
    (λ a x r q k. search rules)
    ∙ gathered f set 16
