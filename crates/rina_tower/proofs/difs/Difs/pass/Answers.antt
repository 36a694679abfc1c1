use Rattle.rina_tower.proofs.Serving.{at_one}
use Rattle.rina_tower.proofs.difs.Difs.pass.Goals as goal

pub returns : goal.returns
returns c =
    let k = c.pass.ensures in
    (at_one _ c.args.port.fac c.args.self.now c.self.inside.items.items c.in-Some._dif.now _ c.index_mut-one.result.now c.pass.new.self c.self.view_is c.in-Some.ensures c.index_mut-one.ensures.value (record { serves = record { shown = k.shown; goes_on = k.goes_on; stands = k.stands; settings = k.settings; laid = k.laid; rest = k.whole }; does = k.does; leaves = k.leaves }))
