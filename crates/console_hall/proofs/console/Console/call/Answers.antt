use Rattle.std.proofs.Common.{sym, refl, ap, ◌∙◌}
use Rattle.std.specs.Option.{option_copied_mut}
use Rattle.hall.specs.Halls.{model}
use Rattle.console_hall.proofs.console.Console.call.Goals as goal

pub returns : goal.returns
returns c =
    let done = c.perform.ensures in
    let has = sym c.as_mut.ensures.value ∙ ap option_copied_mut c.in_ok-hall.ensures.ok_part in
    rw has (model c.perform.new.hall, (refl, record { hall = done.hall; sheet = done.sheet; reply = done.value; history = done.history }))
