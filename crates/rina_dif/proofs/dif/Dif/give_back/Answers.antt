use Rattle.std.proofs.Common.{Option, Some, subst, sym}
use Rattle.rina_data.proofs.Finding.{there}
use Rattle.rina_dif.specs.declared.release.IdRest.{IdRest}
use Rattle.rina_dif.specs.IdRests.{CanGive, GaveOne}
use Rattle.rina_dif.proofs.dif.Dif.give_back.Goals as goal

pub returns-in-Some-clause-given : goal.returns-in-Some-clause-given
returns-in-Some-clause-given c =
    let d = c.args.self.now in
    let may : CanGive d c.args.home (Some c.in-Some.rest) = subst (CanGive d c.args.home) c.in-Some.is c.requires in
    let ids = there d.ids c.args.home may.1 in
    subst (λ (o : Option IdRest). GaveOne c.args.home d.clock (Some o) d.ids c.give_back.new.self) (sym c.in-Some.is) (ids.0, ids.1, c.give_back.ensures ids.0 ids.1)
