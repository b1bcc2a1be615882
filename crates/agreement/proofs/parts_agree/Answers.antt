use Rattle.agreement.proofs.parts_agree.Goals as goal

pub returns : goal.returns
returns g c h = c.agreement_stands.ensures.agreed _ c.parts_are_lawful.ensures h
