-- Why a call is refused: the number of each case.
use Rattle.std.specs.Prelude.{ℕ}
use Rattle.refusals.specs.declared.Refusal.{Refusal}
use Rattle.refusals.specs.declared.Refusal.TheVariants.{NoSuchStation, NotIdle, NotRunning, Idle, NotDecided, NotMade, AlreadyMade, TooManyBroken, SheetTooShort, BufferTooShort, UnlawfulRule, HoldsVoid, DigitTwice, BrokenLayout, UnknownAddress, WrongTags, TakeOutOfRange, OddScript, NoWord}

-- the number that stands for a case on a line
abbrev pub number_of : Refusal → ℕ
number_of NoSuchStation = 1
number_of NotIdle = 2
number_of NotRunning = 2
number_of Idle = 2
number_of NotDecided = 2
number_of NotMade = 2
number_of AlreadyMade = 2
number_of TooManyBroken = 3
number_of SheetTooShort = 4
number_of BufferTooShort = 4
number_of UnlawfulRule = 5
number_of HoldsVoid = 6
number_of DigitTwice = 7
number_of BrokenLayout = 8
number_of UnknownAddress = 9
number_of WrongTags = 10
number_of TakeOutOfRange = 10
number_of OddScript = 10
number_of NoWord = 11
