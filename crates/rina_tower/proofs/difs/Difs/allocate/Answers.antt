use Rattle.std.proofs.Common.{inl}
use Rattle.rina_tower.proofs.Failed.{failed_at}
use Rattle.rina_tower.proofs.Serving.{at_one}
use Rattle.rina_tower.proofs.difs.Difs.allocate.Goals as goal

pub returns-clause-does : goal.returns-clause-does
returns-clause-does c =
    let k = c.allocate.ensures in
    inl (at_one _ c.args.ask.now.fac c.args.self.now c.self.inside.items.items c.in-Some._dif.now _ c.index_mut-one.result.now c.allocate.new.self c.self.view_is c.in-Some.ensures c.index_mut-one.ensures.value (record { serves = record { shown = λ s here fac. k.shown s here fac; goes_on = k.goes_on; stands = k.stands; settings = k.settings; laid = k.laid; rest = k.whole }; does = k.does; requests = k.asks_for; notes = record { failed = k.failed; fails = k.fails }; leaves = k.keeps }))

pub returns-clause-fails : goal.returns-clause-fails
returns-clause-fails c = λ h. failed_at c.args.ask.now.fac c.args.self.now c.self.inside.items.items c.in-Some._dif.now c.allocate.new.self c.self.view_is c.in-Some.ensures (c.allocate.ensures.fails.1 h)
