use Rattle.std.proofs.Common.{inl}
use Rattle.rina_tower.proofs.Asked.{notes_told}
use Rattle.rina_tower.proofs.Failed.{failed_at}
use Rattle.rina_tower.proofs.Serving.{at_one}
use Rattle.rina_tower.proofs.difs.Difs.cdap.Goals as goal

pub returns-clause-does : goal.returns-clause-does
returns-clause-does c =
    let k = c.cdap.ensures in
    inl (at_one _ c.args.fac c.args.self.now c.self.inside.items.items c.in-Some._dif.now _ c.index_mut-one.result.now c.cdap.new.self c.self.view_is c.in-Some.ensures c.index_mut-one.ensures.value (record { does = k.does; keeps = k.same; notes = notes_told _ _ _ k.failed k.fails; goes_on = k.goes_on; stands = k.stands }))

pub returns-clause-fails : goal.returns-clause-fails
returns-clause-fails c = λ h. failed_at c.args.fac c.args.self.now c.self.inside.items.items c.in-Some._dif.now c.cdap.new.self c.self.view_is c.in-Some.ensures (c.cdap.ensures.fails.1 h)
