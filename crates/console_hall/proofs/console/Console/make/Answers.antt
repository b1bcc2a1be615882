use Rattle.std.proofs.Common.{◌≡◌, false, is_some, Some, None, Option, refl, inr}
use Rattle.hall.specs.Halls.{model}
use Rattle.console_hall.proofs.console.Console.make.Goals as goal

none_is : {A : Type 0} (o : Option A) → is_some o ≡ false → o ≡ None
none_is None e = refl
none_is (Some x) e = cc

pub returns-in_ok-list-in-Ok : goal.returns-in_ok-list-in-Ok
returns-in_ok-list-in-Ok c =
    let lawful = c.in-Ok.ensures in
    let none = none_is c.args.self.now.hall cc in
    rw none (inr (
      lawful.0,
      refl,
      (
        model c.new-in-Ok.result,
        (
          refl,
          record {
            rig = record { list = c.in_ok-list-in-Ok.list };
            rule = c.in-Ok.rule;
            entries = c.in_ok-list-in-Ok.ensures;
            stations = lawful.1;
            broken = lawful.2;
            had = c.new-in-Ok.ensures.made;
          },
        ),
      ),
    ))
