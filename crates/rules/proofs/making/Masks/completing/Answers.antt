use Rattle.std.proofs.Common.{◌≡◌, ℕ, ◌<◌, true, false, List, Option, Some, None, length, arith, rules, tests}
use Rattle.std.specs.List.{AllWithin, HoldsAt}
use Rattle.std.specs.Option.{MatchOption}
use Rattle.std.proofs.lemmas.Bool.{both_ways}
use Rattle.std.proofs.lemmas.Iterator.{first_from_find, YieldsList-from_slice}
use Rattle.std.proofs.lemmas.Iterator.Consumers.{YieldsList-from_copied}
use Rattle.sets.specs.Sets.{whole, Whole}
use Rattle.sets.proofs.Tests.{whole-decides}
use Rattle.rules.specs.Flaws.{OneOf}
use Rattle.rules.specs.Making.{NoneCompletes}
use Rattle.rules.proofs.making.Masks.completing.Goals as goal

module _ (n : ℕ) (ms : List ℕ) (s : ℕ) where
  abbrev Yes : ℕ → Type 0
  Yes m = whole n m s ≡ true

  abbrev No : ℕ → Type 0
  No m = whole n m s ≡ false

  found : (r : Option ℕ) → MatchOption r (AllWithin No ms 0 (length ms)) (λ m. Yes m × (i : ℕ) × (i < length ms) × HoldsAt (λ y. y ≡ m) ms i × AllWithin No ms 0 i)
      → MatchOption r (NoneCompletes n ms s) (λ m. OneOf m ms × Whole n m s)
  found None h = λ k l w. both_ways _ (h k 0 (omega arith) l) ((whole-decides n _ s).1 w)
  found (Some m) h = ((h.1, h.2, h.3 0), (whole-decides n m s).0 h.0)

pub returns : goal.returns
returns c =
    let n = c.args.self.now.n in
    let ms = c.args.self.now.masks.now in
    let s = c.args.set in
    found n ms s c.find.result (first_from_find _ _ c.find.result (Yes n ms s) (No n ms s) c.find.ensures.ran
    (YieldsList-from_copied (YieldsList-from_slice ms cc)) (λ m q k. search (rules, tests)) (λ m q k. search (rules, tests)))
