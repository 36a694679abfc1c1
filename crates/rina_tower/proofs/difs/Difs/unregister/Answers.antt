use Rattle.std.proofs.Common.{inl}
use Rattle.rina_tower.proofs.Failed.{failed_at}
use Rattle.rina_tower.proofs.Serving.{at_one}
use Rattle.rina_tower.proofs.difs.Difs.unregister.Goals as goal

pub returns-clause-does : goal.returns-clause-does
returns-clause-does c =
    let k = c.unregister.ensures in
    inl (at_one _ c.args.fac c.args.self.now c.self.inside.items.items c.in-Some._dif.now _ c.index_mut-one.result.now c.unregister.new.self c.self.view_is c.in-Some.ensures c.index_mut-one.ensures.value (record { serves = record { shown = λ s h. k.shown s c.args.fac h; goes_on = k.goes_on; stands = k.stands; settings = k.settings; laid = k.laid; rest = k.whole }; managed = k.manages; notes = record { failed = k.failed; fails = k.fails } }))

pub returns-clause-fails : goal.returns-clause-fails
returns-clause-fails c = λ h. failed_at c.args.fac c.args.self.now c.self.inside.items.items c.in-Some._dif.now c.unregister.new.self c.self.view_is c.in-Some.ensures (c.unregister.ensures.fails.1 h)
