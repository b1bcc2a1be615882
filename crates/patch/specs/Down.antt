-- A rig over boxes, no two stations on one, keeps the laws that the rig below keeps.
use Rattle.std.specs.Prelude.{◌≡◌, ℕ, true}
use Rattle.std.proofs.Common.{sym, ap, ◌∙◌}
use Rattle.std.proofs.lemmas.Bool.{cond-true, cond-false}
use Rattle.rigs.specs.declared.keys.TrioKey.{TrioKey}
use Rattle.rigs.specs.Keys.{good_wire, good_trio, in_trio}
use Rattle.rigs.specs.Lines.{heard_at, Wires, Casts}
use Rattle.rigs.specs.Laws.{BadWire, Kept, Mute, Spoken, Agreed, Lawful}
use Rattle.rigs.proofs.Trios.{wire-facts, trio-facts, at_each}
use Rattle.patch.specs.Boxes.{Boxes, OneEach, boxes}
use Rattle.patch.specs.Patching.{wire_down, trio_down, patched_wire, patched_trio}
use Rattle.patch.specs.Boxing.{has-boxes, wire-down-good, trio-down-good, in_down, good-down}

pub patched_bad : (f : Boxes) (w : Wires) → BadWire (patched_wire f w)
patched_bad f w k code broken e = cond-false (good_wire k) _ _ e

pub patched_mute : (f : Boxes) (h : Casts) → Mute (patched_trio f h)
patched_mute f h k code broken e = cond-false (good_trio k) _ _ e

-- each station hears what its box heard
pub patched_at : (f : Boxes) (h : Casts) (k : TrioKey) (code broken s : ℕ) → good_trio k ≡ true → in_trio k s ≡ true
    → heard_at k (patched_trio f h k code broken) s ≡ heard_at (trio_down f k) (h (trio_down f k) code (boxes f broken)) (f s)
patched_at f h k code broken s e i =
    ap (λ x. heard_at k x s) (cond-true (good_trio k) _ _ e)
    ∙ at_each k (λ s. heard_at (trio_down f k) (h (trio_down f k) code (boxes f broken)) (f s)) s i

module _ (f : Boxes) (o : OneEach f) where
  pub patched_kept : (w : Wires) → Kept w → Kept (patched_wire f w)
  patched_kept w kept k code broken e hf ht =
      let t = wire-facts k e in
      cond-true (good_wire k) _ _ e
      ∙ kept (wire_down f k) code (boxes f broken) (wire-down-good f o k e) (has-boxes f o broken k.from t.1 ∙ hf) (has-boxes f o broken k.«to» t.2 ∙ ht)

  pub patched_spoken : (h : Casts) → Spoken h → Spoken (patched_trio f h)
  patched_spoken h spoken k code broken s e n b i g =
      patched_at f h k code broken s e i
      ∙ spoken (trio_down f k) code (boxes f broken) (f s) (trio-down-good f o k e) n
      (good-down f o k broken k.speaker e (trio-facts k e).4 b) (in_down f k s i) (good-down f o k broken s e i g)

  pub patched_agreed : (h : Casts) → Agreed h → Agreed (patched_trio f h)
  patched_agreed h agreed k code broken s t e n is gs it gt =
      patched_at f h k code broken s e is
      ∙ agreed (trio_down f k) code (boxes f broken) (f s) (f t) (trio-down-good f o k e) n
      (in_down f k s is) (good-down f o k broken s e is gs) (in_down f k t it) (good-down f o k broken t e it gt)
      ∙ sym (patched_at f h k code broken t e it)

  -- all laws together
  pub patched_lawful : (w : Wires) (h : Casts) → Lawful w h → Lawful (patched_wire f w) (patched_trio f h)
  patched_lawful w h l = record {
    bad = patched_bad f w;
    kept = patched_kept w l.kept;
    mute = patched_mute f h;
    spoken = patched_spoken h l.spoken;
    agreed = patched_agreed h l.agreed;
  }
