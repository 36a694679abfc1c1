use Rattle.std.proofs.Common.{inl}
use Rattle.rina_tower.proofs.Failed.{failed_at}
use Rattle.rina_tower.proofs.Serving.{at_one}
use Rattle.rina_tower.proofs.difs.Difs.send.Goals as goal

pub returns-clause-does : goal.returns-clause-does
returns-clause-does c =
    let k = c.send.ensures in
    inl (at_one _ c.args.port.fac c.args.self.now c.self.inside.items.items c.in-Some._dif.now _ c.index_mut-one.result.now c.send.new.self c.self.view_is c.in-Some.ensures c.index_mut-one.ensures.value (record { serves = record { shown = k.shown; goes_on = k.goes_on; stands = k.stands; settings = k.settings; laid = k.laid; rest = k.whole }; does = k.does; notes = record { failed = k.failed; fails = k.fails }; leaves = k.leaves }))

pub returns-clause-fails : goal.returns-clause-fails
returns-clause-fails c = λ h. failed_at c.args.port.fac c.args.self.now c.self.inside.items.items c.in-Some._dif.now c.send.new.self c.self.view_is c.in-Some.ensures (c.send.ensures.fails.1 h)
