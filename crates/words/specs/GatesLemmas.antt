-- The gate is a word kind.
use Rattle.std.proofs.Common.{arith}
use Rattle.std.specs.Prelude.{refl}
use Rattle.std.proofs.lemmas.Bool.Decides.{nat_tests}
use Rattle.words.specs.declared.gate.Gate.TheVariants.{Hold, Go}
use Rattle.words.specs.Gates.{gate_code, gate_word}
use Rattle.words.specs.Kinds.{Back, Only, Full}

pub gate_full : Full 2 gate_word
gate_full x = grind (arith, nat_tests)

pub gate_back : Back gate_code gate_word
gate_back Hold = refl
gate_back Go = refl

pub gate_only : Only gate_code gate_word
gate_only x w e = grind (arith, nat_tests)
