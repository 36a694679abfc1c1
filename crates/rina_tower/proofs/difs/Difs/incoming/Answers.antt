use Rattle.std.proofs.Common.{inl}
use Rattle.rina_tower.proofs.Serving.{at_one}
use Rattle.rina_tower.proofs.difs.Difs.incoming.Goals as goal

pub returns : goal.returns
returns c =
    let k = c.incoming.ensures in
    inl (at_one _ c.args.fac c.args.self.now c.self.inside.items.items c.in-Some._dif.now _ c.index_mut-one.result.now c.incoming.new.self c.self.view_is c.in-Some.ensures c.index_mut-one.ensures.value (record { shown = λ s h. k.shown s c.args.fac h; goes_on = k.goes_on; stands = k.stands; settings = k.settings; laid = k.laid; rest = k.whole }))
