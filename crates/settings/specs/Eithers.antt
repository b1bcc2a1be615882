-- What holds of one of two.
use Rattle.settings.specs.declared.either.Either.{Either}
use Rattle.settings.specs.declared.either.Either.TheVariants.{First, Second}

-- what f says of the first, or g of the second
abbrev pub either : {A B C : Type 0} → (A → C) → (B → C) → Either A B → C
either f g (First a) = f a
either f g (Second b) = g b
