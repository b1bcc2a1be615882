use Rattle.std.proofs.Common.{◌≡◌, ℕ, ◌+◌, ◌^◌, ◌<◌, ◌≤◌, List, Option, Some, None, sym, subst, rules}
use Rattle.std.specs.Option.{MatchOption, IsSomeAnd}
use Rattle.std.proofs.lemmas.Bool.{ltb-true, ltb-false}
use Rattle.sets.specs.Sets.{members}
use Rattle.sets.proofs.Bounds.{among-lt, among-over}
use Rattle.sets.specs.Sets.{Whole}
use Rattle.rules.specs.declared.flaw.Flaw.{Flaw}
use Rattle.rules.specs.declared.flaw.Flaw.TheVariants.{Together}
use Rattle.rules.specs.Rules.{Sized}
use Rattle.rules.specs.Flaws.{OneOf}
use Rattle.rules.specs.Making.{NoneCompletes, Sound, Flawed}
use Rattle.rules.specs.GroupLaws.{not_stranger, not_one_missing, not-together}
use Rattle.rules.proofs.making.Masks.mask_flaw.Goals as goal

together : (n : ℕ) (ms : List ℕ) (m : ℕ) → Sized n → (o : Option ℕ) (r : Option Flaw)
    → MatchOption o (NoneCompletes n ms m) (λ a. OneOf a ms × Whole n a m) → MatchOption o (r ≡ None) (λ a. IsSomeAnd r (λ f. f ≡ Together a m))
    → m < 2 ^ n → members m + 1 < n → MatchOption r (Sound n ms m) (λ f. OneOf m ms → Flawed n ms f)
together n ms m sized None r h e l s = subst (λ r. MatchOption r (Sound n ms m) (λ f. OneOf m ms → Flawed n ms f)) (sym e) (l, s, h)
together n ms m sized (Some a) None h e l s = elim e [ ]
together n ms m sized (Some a) (Some f) h e l s = λ o. subst (Flawed n ms) (sym e) ((h.0, o, h.1), λ d. not-together n sized.1 ms d.0 d.1 a m h.0 o h.1)

pub returns-then-not-among : goal.returns-then-not-among
returns-then-not-among c = λ o.
    let q = c.args.self.now in
    let l : 2 ^ q.n ≤ c.args.mask = among-over q.n c.args.mask (sym c.if-not-among.ensures) in
    ((o, l), λ m. not_stranger q.n q.sized.1 q.masks.now m.0 m.1 c.args.mask o l)

pub returns-then-not-leaves_two : goal.returns-then-not-leaves_two
returns-then-not-leaves_two c = λ o.
    let q = c.args.self.now in
    let l : q.n ≤ members c.args.mask + 1 = ltb-false _ _ (sym c.if-not-leaves_two.ensures) in
    ((o, l), λ m. not_one_missing q.n q.sized.1 q.masks.now m.0 m.1 c.args.mask o l)

pub returns : goal.returns
returns c =
    let q = c.args.self.now in
    together q.n q.masks.now c.args.mask q.sized c.completing.result c.map.result c.completing.ensures (search rules)
    (among-lt q.n c.args.mask (sym c.if-not-among.ensures)) (ltb-true _ _ (sym c.if-not-leaves_two.ensures))
