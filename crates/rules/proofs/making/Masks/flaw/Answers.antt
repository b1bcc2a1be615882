use Rattle.std.proofs.Common.{◌≡◌, ℕ, ◌+◌, ◌<◌, List, Option, Some, None, length, get_or, Bor, IsTrue, sym, ap, ◌∙◌, subst, arith, rules}
use denote.Param.Members.{Mut, Called}
use Rattle.std.specs.Iterator.Runs.{Run, ItemsMapTo, AllItemsGive, IsFirstToGive, CallKeepsClosure}
use Rattle.std.specs.Slice.Iter.{iter_rest}
use Rattle.std.specs.Option.{MatchOption, IsSomeAnd, IfSome, option_map}
use Rattle.rules.specs.declared.flaw.Flaw.{Flaw}
use Rattle.rules.specs.Rules.{Sized}
use Rattle.rules.specs.Flaws.{OneOf}
use Rattle.rules.specs.Making.{Sound, MasksMade, Flawed}
use Rattle.rules.specs.GroupLaws.{sound_below, sound_apart}
use Rattle.rules.proofs.making.Masks.flaw.Goals as goal

-- the item at a place of a run over the masks
item : (o : Option (Bor ℕ)) (m : ℕ) (P : Bor ℕ → Type 0) → option_map (λ y. y.now) o ≡ Some m → IfSome o P → (x : Bor ℕ) × (x.now ≡ m) × P x
item None m P e h = cc
item (Some x) m P e h = (x, cc, h)

some : (o : Option (Bor ℕ)) (P : Bor ℕ → Type 0) → IsSomeAnd o P → IfSome o P
some None P h = elim h [ ]
some (Some x) P h = h

module _ {S F : Type 0} {steps : S → Option (Bor ℕ) → S → Type 0} (g : Mut F (Bor ℕ × Unit {0}) (Option Flaw)) (f : F) (n : ℕ) (ms : List ℕ) (sized : Sized n)
    (p : Run steps) (items : ItemsMapTo p (λ y. y.now) ms) (keeps : CallKeepsClosure g f)
    (says : (x : Bor ℕ) (r : Option Flaw) → Called g f (x, tt) r f → MatchOption r (Sound n ms x.now) (λ w. OneOf x.now ms → Flawed n ms w)) where
  found : (r : Option Flaw) → MatchOption r (IsTrue p.whole × AllItemsGive p g f None) (λ y. (i : ℕ) × (i < p.len) × (p.len ≡ i + 1) × IsFirstToGive p g f (Some y) None i)
      → MatchOption r (MasksMade n ms) (Flawed n ms)
  found None h = (sound_below n sized.1 ms sized.0 all, sound_apart n sized.1 ms sized.0 all)
    where
      all : (k : ℕ) → k < length ms → Sound n ms (get_or ms k 0)
      all k l =
          let i = item (p.at k) (get_or ms k 0) _ (items.2 k 0 (omega (arith, items.1 h.0))) (h.1 keeps k) in
          subst (Sound n ms) i.1 (says i.0 None i.2)
  found (Some y) (k, l, _, first) =
      let i = item (p.at k) (get_or ms k 0) _ (items.2 k 0 l) (some (p.at k) _ (first keeps).0) in
      says i.0 (Some y) i.2 (k, omega (arith, items.0), sym i.1)

pub returns : goal.returns
returns c =
    let q = c.args.self.now in
    let r = c.find_map.ensures.runs in
    let items = subst (ItemsMapTo r.0 (λ y. y.now)) (ap iter_rest r.1 ∙ c.iter.ensures.rest) (c.iter.ensures.runs r.0 r.0.seen) in
    found _ _ q.n q.masks.now q.sized r.0 items (λ x o f k. search rules) (λ x o k. search rules) c.find_map.result r.2
