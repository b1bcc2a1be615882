-- The calls by the addresses of their messages.
use Rattle.std.specs.Prelude.{ℕ, List, codes}
use Rattle.play.specs.declared.name.Name.{Name}
use Rattle.play.specs.declared.name.Name.TheVariants.{Open, Round, Strike, Mark, Clear, Read, Lamp}

abbrev pub address_of : Name → List ℕ
address_of Open = codes "/hall/open"
address_of Round = codes "/hall/round"
address_of Strike = codes "/hall/strike"
address_of Mark = codes "/hall/mark"
address_of Clear = codes "/hall/clear"
address_of Read = codes "/hall/read"
address_of Lamp = codes "/hall/lamp"
