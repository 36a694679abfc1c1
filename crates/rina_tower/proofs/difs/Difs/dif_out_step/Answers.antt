use Rattle.std.proofs.Common.{inl}
use Rattle.rina_tower.proofs.Failed.{failed_at}
use Rattle.rina_tower.proofs.Serving.{at_one, one_at}
use Rattle.rina_tower.proofs.Using.{leaves_use}
use Rattle.rina_tower.proofs.Waiting.{leaves_wait}
use Rattle.rina_tower.proofs.difs.Difs.dif_out_step.Goals as goal

pub returns-clause-does : goal.returns-clause-does
returns-clause-does g c =
    let k = c.out_step.ensures in
    let one = c.index_mut-one.result.now in
    let after = c.out_step.new.self in
    let below = g.F.Facility.seen c.args.below.now in
    let below' = g.F.Facility.seen c.out_step.new.below in
    let at = one_at c.args.dif c.args.self.now c.self.inside.items.items c.in-Some._dif.now _ one c.self.view_is c.in-Some.ensures c.index_mut-one.ensures.value in
    let st = c.requires.stand.stand c.args.dif one at in
    inl (at_one _ c.args.dif c.args.self.now c.self.inside.items.items c.in-Some._dif.now _ one after c.self.view_is c.in-Some.ensures c.index_mut-one.ensures.value (record { does = k.does; after = record { stands = (st.0, k.keeps st.0 st.1); uses = leaves_use _ one after below c.args.node c.args.link c.out_step.result below' (λ name mine. c.requires.stand.ipc c.args.dif one name at mine) st k.does; goes_on = k.goes_on; silent = k.silent; waiting = leaves_wait _ one after below c.args.node c.args.link c.out_step.result below' k.does; others = k.others; settings = k.settings; laid = k.laid }; rest = k.whole; leaves = k.leaves; shelf = k.shelf; notes = record { failed = k.failed; fails = k.fails } }))

pub returns-clause-fails : goal.returns-clause-fails
returns-clause-fails g c = λ h. failed_at c.args.dif c.args.self.now c.self.inside.items.items c.in-Some._dif.now c.out_step.new.self c.self.view_is c.in-Some.ensures (c.out_step.ensures.fails.1 h)
