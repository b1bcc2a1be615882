use Rattle.std.proofs.Common.{◌≡◌, ℕ, ◌+◌, ◌-◌, ◌*◌, ◌/◌, ◌%◌, ◌<◌, Bool, true, false, nat_eq, List, Option, Some, None, length, get_or, Bor, IsTrue, ap, ◌∙◌, subst, arith, rules, tests}
use denote.Param.Members.{Mut, Called}
use Rattle.std.specs.Iterator.Runs.{Run, IsChunksRun, AllItemsGive, AllItemsBelow, IsFirstToGive, CallKeepsClosure}
use Rattle.std.specs.Slice.Iter.{chunks_rest, chunks_size}
use Rattle.std.specs.Option.{IsSomeAnd, IfSome, option_map}
use Rattle.std.specs.List.{list_any, IsSubsliceAt, AllWithin, HoldsAt, between}
use Rattle.std.proofs.lemmas.Iterator.{IsFirst-from_position, YieldsList-from_slice}
use Rattle.std.proofs.lemmas.List.Folds.{list_any_at}
use Rattle.std.proofs.lemmas.Grind.{common_steps}
use Rattle.packets.specs.Osc.{TextByte, Plain}
use Rattle.packets.specs.Read.{Ends}
use Rattle.packets.proofs.fields.zero_at.Goals as goal

-- a group that has no zero byte
abbrev NoZero : Bor (List ℕ) → Type 0
NoZero x = list_any (λ y. nat_eq y 0) x.now ≡ false

-- no byte of xs before place n is zero
abbrev PlainUntil : List ℕ → ℕ → Type 0
PlainUntil xs n = (k : ℕ) → k < n → k < length xs → TextByte (get_or xs k 0)

in_group : (o : Option (Bor (List ℕ))) (xs : List ℕ) (i j : ℕ) → IfSome o (λ x. (0 < length x.now) × (i < length xs) × IsSubsliceAt 48 xs i x.now) → IsSomeAnd o NoZero → j < 48 → i + j < length xs → TextByte (get_or xs (i + j) 0)
in_group None xs i j h none few l e = elim none [ ]
in_group (Some x) xs i j h none few l e =
    let there : get_or x.now j 0 ≡ 0 = h.2.2 j 0 few ∙ e in
    let any = list_any_at (λ y. nat_eq y 0) x.now j 0 (omega (arith, h.2.1)) (ap (λ y. nat_eq y 0) there) in
    cc

some : (o : Option (Bor (List ℕ))) (x : Bor (List ℕ)) (P : Bor (List ℕ) → Type 0) → option_map (λ y. y) o ≡ Some x → IfSome o P → IsSomeAnd o P
some None x P e h = cc
some (Some y) x P e h = h

-- what a run over the groups found, where f asks each whether it has a zero byte
module _ {S F : Type 0} {steps : S → Option (Bor (List ℕ)) → S → Type 0} (g : Mut F (Bor (List ℕ) × Unit {0}) Bool) (f : F) (bytes : Bor (List ℕ))
    (p : Run steps) (size : ℕ) (xs : List ℕ) (groups : 0 < size → IsChunksRun p size xs) (is : size ≡ 48) (of : xs ≡ bytes.now)
    (keeps : CallKeepsClosure g f) (says : (x : Bor (List ℕ)) → Called g f (x, tt) false f → NoZero x) where
  items : IsChunksRun p 48 bytes.now
  items = subst (λ n. IsChunksRun p n bytes.now) is (subst (IsChunksRun p size) of (groups (omega (arith, is))))

  each : (o : Option (Bor (List ℕ))) → IsSomeAnd o (λ x. Called g f (x, tt) false f) → IsSomeAnd o NoZero
  each None h = h
  each (Some x) h = says x h

  before : (n : ℕ) → AllItemsBelow p n (λ x. Called g f (x, tt) false f) → PlainUntil bytes.now (48 * n)
  before n none k few l =
      subst (λ m. TextByte (get_or bytes.now m 0)) (omega arith)
      (in_group (p.at (k / 48)) bytes.now (k / 48 * 48) (k % 48) (items.2 (k / 48)) (each (p.at (k / 48)) (none (k / 48) (omega arith))) (omega arith) (omega (arith, l)))

  found : (n : ℕ) → IsFirstToGive p g f true false n → PlainUntil bytes.now (48 * n)
  found n h = before n (h keeps).1

  never : IsTrue p.whole → AllItemsGive p g f false → Plain bytes.now
  never whole h k l = before p.len (λ m few. some (p.at m) _ _ (p.reads m bytes few) (h keeps m)) k (omega (arith, items.1 whole)) l

plain_all : (xs : List ℕ) (n : ℕ) → PlainUntil xs n → AllWithin TextByte (between n (length xs) xs) 0 (length (between n (length xs) xs)) → Plain xs
plain_all xs n before behind k l = grind (arith, common_steps, before k, behind (k - n) 0)

ends_at : (xs : List ℕ) (n m : ℕ) → PlainUntil xs n → m < length (between n (length xs) xs) → HoldsAt (λ x. x ≡ 0) (between n (length xs) xs) m → AllWithin TextByte (between n (length xs) xs) 0 m → Ends xs (n + m)
ends_at xs n m before within found behind = record {
  before = λ k l. grind (arith, common_steps, before k, behind (k - n) 0);
  found = grind (arith, common_steps, found 0);
  within = grind (arith, common_steps);
}

pub returns-in_err-from : goal.returns-in_err-from
returns-in_err-from c =
    let h = c.in_err-from.ensures.runs in
    rw c.from_residual.ensures (never _ _ c.args.bytes h.0 _ _ (c.chunks.ensures.runs h.0 h.0.seen) (ap chunks_size h.1 ∙ c.chunks.ensures.size) (ap chunks_rest h.1 ∙ c.chunks.ensures.rest) (λ x o f k. search rules) (λ x k. search rules) h.2.0 h.2.1)

pub returns-in_err-n : goal.returns-in_err-n
returns-in_err-n c =
    let h = c.in_ok-from.ensures.runs in
    let before = found _ _ c.args.bytes h.0 _ _ (c.chunks.ensures.runs h.0 h.0.seen) (ap chunks_size h.1 ∙ c.chunks.ensures.size) (ap chunks_rest h.1 ∙ c.chunks.ensures.rest) (λ x o f k. search rules) (λ x k. search rules) _ h.2.1 in
    let behind = IsFirst-from_position _ _ c.position-2.result (λ x. x ≡ 0) TextByte c.position-2.ensures.ran (YieldsList-from_slice _ c.iter.ensures.rest) (λ x q k. search (rules, tests)) (λ x q k. search (rules, tests)) in
    rw c.from_residual-in_err-n.ensures (plain_all _ _ before (rw c.in_err-n.was at behind))

pub returns : goal.returns
returns c =
    let h = c.in_ok-from.ensures.runs in
    let before = found _ _ c.args.bytes h.0 _ _ (c.chunks.ensures.runs h.0 h.0.seen) (ap chunks_size h.1 ∙ c.chunks.ensures.size) (ap chunks_rest h.1 ∙ c.chunks.ensures.rest) (λ x o f k. search rules) (λ x k. search rules) _ h.2.1 in
    let first = IsFirst-from_position _ _ c.position-2.result (λ x. x ≡ 0) TextByte c.position-2.ensures.ran (YieldsList-from_slice _ c.iter.ensures.rest) (λ x q k. search (rules, tests)) (λ x q k. search (rules, tests)) in
    let at = rw c.in_ok-n.was at first in
    ends_at _ _ _ before at.0 at.1 at.2
