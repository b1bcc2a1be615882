use Rattle.std.proofs.Common.{◌∷◌, map, arith}
use Rattle.std.proofs.lemmas.List.{length-map}
use Rattle.packets.specs.Write.{letter_of}
use Rattle.packets.proofs.Puts.{length-text}
use Rattle.packets.proofs.entries.tags_size.Goals as goal

pub returns : goal.returns
returns c =
    omega (arith, c.filled_len.ensures, c.in_ok-letters.ensures, length-text (44 ∷ map letter_of c.args.entries.now), length-map c.args.entries.now letter_of)
