use Rattle.std.proofs.Common.{Option, inl, subst, sym}
use Rattle.rina_iface.specs.Free.{FreesAsSeen}
use Rattle.rina_dif.specs.declared.dif.Dif.{Dif}
use Rattle.rina_dif.specs.Lower.{ClocksBelow}
use Rattle.rina_tower.specs.Steps.{name_among}
use Rattle.rina_tower.proofs.Lasting.{clocked_after}
use Rattle.rina_tower.proofs.Failed.{failed_at}
use Rattle.rina_tower.proofs.Serving.{at_one, one_at}
use Rattle.rina_tower.proofs.difs.Difs.dif_clock_step.Goals as goal

pub returns-clause-does : goal.returns-clause-does
returns-clause-does g c =
    let k = c.clock_step.ensures in
    let one = c.index_mut-one.result.now in
    let after = c.clock_step.new.self in
    let below = g.F.Facility.seen c.args.below.now in
    let below' = g.F.Facility.seen c.clock_step.new.below in
    let at = one_at c.args.dif c.args.self.now c.self.inside.items.items c.in-Some._dif.now _ one c.self.view_is c.in-Some.ensures c.index_mut-one.ensures.value in
    let st = c.requires.stand.stand c.args.dif one at in
    inl (at_one _ c.args.dif c.args.self.now c.self.inside.items.items c.in-Some._dif.now _ one after c.self.view_is c.in-Some.ensures c.index_mut-one.ensures.value (record { does = k.does; fails = k.fails_late; stays = k.stays; after = clocked_after one after below c.args.node c.clock_step.result below' (λ name mine. c.requires.stand.ipc c.args.dif one name at mine) st k.goes_on k.silent k.others k.settings k.laid k.does; rest = k.whole; notes = record { failed = k.failed; fails = k.fails }; leaves = k.leaves }))

pub returns-clause-fails : goal.returns-clause-fails
returns-clause-fails g c = λ h. failed_at c.args.dif c.args.self.now c.self.inside.items.items c.in-Some._dif.now c.clock_step.new.self c.self.view_is c.in-Some.ensures (c.clock_step.ensures.fails.1 h)

pub returns-clause-lower : goal.returns-clause-lower
returns-clause-lower g c =
    let one = c.index_mut-one.result.now in
    let at = one_at c.args.dif c.args.self.now c.self.inside.items.items c.in-Some._dif.now _ one c.self.view_is c.in-Some.ensures c.index_mut-one.ensures.value in
    subst (λ (o : Option Dif). ClocksBelow (λ x fac answer y. g.F.Facility.does_incoming x fac c.args.node (name_among o c.args.node) answer y) (FreesAsSeen g.F.Facility.seen g.F.Facility.frees_both g.F.Facility.does_free) c.args.below.now c.clock_step.result c.clock_step.new.below) (sym at) c.clock_step.ensures.lower
