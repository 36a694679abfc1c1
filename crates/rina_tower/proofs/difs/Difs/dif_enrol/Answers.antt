use Rattle.std.proofs.Common.{◌≡◌, Option, ap, inl, subst, sym}
use Rattle.rina_dif.specs.declared.dif.Dif.{Dif}
use Rattle.rina_dif.specs.Enrolling.{AllocatesAsSeen}
use Rattle.rina_tower.specs.Enrolling.{AsksBelow}
use Rattle.rina_tower.proofs.Failed.{failed_at}
use Rattle.rina_tower.proofs.Serving.{at_one, one_at}
use Rattle.rina_tower.proofs.difs.Difs.dif_enrol.Goals as goal

pub returns-clause-does : goal.returns-clause-does
returns-clause-does g c =
    let k = c.enrol.ensures in
    let one = c.index_mut-one.result.now in
    let after = c.enrol.new.self in
    let at = one_at c.args.dif c.args.self.now c.self.inside.items.items c.in-Some._dif.now _ one c.self.view_is c.in-Some.ensures c.index_mut-one.ensures.value in
    let st = c.requires.stand.stand c.args.dif one at in
    inl (at_one _ c.args.dif c.args.self.now c.self.inside.items.items c.in-Some._dif.now _ one after c.self.view_is c.in-Some.ensures c.index_mut-one.ensures.value (record { does = k.does; failed = λ h. (let x = k.failed h in (x.0, x.1, ap g.F.Facility.seen x.2)); notes = record { failed = λ h. (k.failed h).0; fails = k.fails }; stands = (st.0, k.holds st.0 st.1); goes_on = k.goes_on; silent = k.silent; others = k.others; settings = k.settings; laid = k.laid; rest = k.whole; leaves = k.leaves }))

pub returns-clause-fails : goal.returns-clause-fails
returns-clause-fails g c = λ h. failed_at c.args.dif c.args.self.now c.self.inside.items.items c.in-Some._dif.now c.enrol.new.self c.self.view_is c.in-Some.ensures (c.enrol.ensures.fails.1 h)

pub returns-clause-lower : goal.returns-clause-lower
returns-clause-lower g c =
    let one = c.index_mut-one.result.now in
    let at = one_at c.args.dif c.args.self.now c.self.inside.items.items c.in-Some._dif.now _ one c.self.view_is c.in-Some.ensures c.index_mut-one.ensures.value in
    subst (λ (o : Option Dif). AsksBelow (c.enrol.new.below ≡ c.args.below.now) (AllocatesAsSeen g.F.Facility.seen g.F.Facility.refuses_allocate g.F.Facility.does_allocate c.args.below.now c.enrol.new.below) o c.args.node c.args.fac c.args.peer c.enrol.result) (sym at) c.enrol.ensures.lower
