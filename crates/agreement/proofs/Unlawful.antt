-- The laws keep these out.
use Rattle.std.proofs.Common.{◌≡◌, ℕ, true, false, ◌||◌, refl, ap, arith}
use Rattle.std.proofs.lemmas.Bool.{both_ways}
use Rattle.sets.specs.Sets.{mask_of}
use Rattle.sets.proofs.Masks.{has-none, has-mask_of, mask_of-lt}
use Rattle.sets.proofs.Bounds.{lt-among}
use Rattle.rigs.specs.Lines.{void}
use Rattle.agreement.specs.Meanings.{LawfulRule, LawfulRig}
use Rattle.agreement.specs.Unlawful.{void_rig, all_fail, none_fail, Unlawful}

-- its wire does not keep the code 0 between two good stations
void-unlawful : LawfulRig void_rig → ⊥
void-unlawful l =
    let e : ◌≡◌ {A = ℕ} void 0 = l.kept (record { take = 0; round = 1; from = 0; «to» = 1 }) 0 0 refl (has-none 0) (has-none 1) in
    omega (arith, e)

-- the set of all n stations would make them up alone
all-unlawful : (n : ℕ) → LawfulRule (all_fail n) → ⊥
all-unlawful n l =
    let all : ℕ = mask_of n (λ i. true) in
    let can = lt-among n all (mask_of-lt n (λ i. true)) in
    l.apart all all can can (λ i k. ap (λ b. b || b) (has-mask_of n (λ i. true) i k))

none-unlawful : (n : ℕ) → LawfulRule (none_fail n) → ⊥
none-unlawful n l = both_ways false refl (l.single 0 (omega (arith, l.sized.0)))

pub unlawful : Unlawful
unlawful = record { rig = void-unlawful; all = all-unlawful; none = none-unlawful }
