-- An int32 and its four bytes. Assumes nothing.
use Rattle.std.proofs.Common.{◌≡◌, ℕ, ◌+◌, ◌*◌, ◌/◌, ◌%◌, ◌^◌, ◌<◌, List, drop, ℤ, pos, negsuc, sym, ap, ◌∙◌, arith, w32, SFits, to_z, of_z}
use Rattle.std.proofs.lemmas.Int.{to_z-of_z}
use Rattle.packets.specs.Osc.{NumberOf}
use Rattle.packets.specs.Read.{unword}

word_back : (n : ℕ) → n < 2 ^ 32 → n / 16777216 % 256 * 16777216 + n / 65536 % 256 * 65536 + n / 256 % 256 * 256 + n % 256 ≡ n
word_back n h =
    let a : n / 65536 ≡ n / 256 / 256 = omega arith in
    let b : n / 16777216 ≡ n / 65536 / 256 = omega arith in
    let small : n / 16777216 < 256 = omega arith in
    let q3 : n ≡ n / 256 * 256 + n % 256 = omega arith in
    let q2 : n / 256 ≡ n / 65536 * 256 + n / 256 % 256 = omega arith in
    let q1 : n / 65536 ≡ n / 16777216 * 256 + n / 65536 % 256 = omega arith in
    let q0 : n / 16777216 % 256 ≡ n / 16777216 = omega arith in
    omega arith

bits_fit : (z : ℤ) → SFits w32 z → of_z w32 z < 2 ^ 32
bits_fit (pos n) f = omega (arith, f.sfits)
bits_fit (negsuc n) f = omega (arith, f.sfits)

pub number-value : {z : ℤ} {bs rest : List ℕ} → NumberOf z bs rest → z ≡ to_z w32 (unword bs)
number-value {z} {bs} {rest} h =
    sym (ap (to_z w32) (ap unword h.split ∙ word_back (of_z w32 z) (bits_fit z h.fits)) ∙ to_z-of_z w32 z h.fits)

pub number_same : {z y : ℤ} {bs r q : List ℕ} → NumberOf z bs r → NumberOf y bs q → (z ≡ y) × (r ≡ q)
number_same a b = (number-value a ∙ sym (number-value b), sym (ap (drop 4) a.split) ∙ ap (drop 4) b.split)
