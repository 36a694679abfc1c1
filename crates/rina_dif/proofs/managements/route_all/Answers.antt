-- One more has its next hops.
use Rattle.std.proofs.Common.{subst, sym}
use Rattle.rina_member.specs.declared.management.Management.{Management}
use Rattle.rina_member.specs.Knowing.{AreRoutesOf}
use Rattle.rina_dif.proofs.Routed.{none_routed, turn_routed}
use Rattle.rina_dif.proofs.managements.route_all.Goals as goal

pub loop-at-init : goal.loop-at-init
loop-at-init c = none_routed c.args.members.now c.args.managements.now c.args.processes.now

pub loop-at-preserved : goal.loop-at-preserved
loop-at-preserved c = turn_routed c.args.members.now c.args.managements.now c.loop-at.at c.args.processes.now c.loop-at.processes c.set_routes.new.self c.index-managements-at.result _ _ c.loop-at.invariant c.requires c.loop-at-test.true c.index-managements-at.is (subst (λ (g : Management). AreRoutesOf g.agent c.args.members.now c.in_ok-routes.routes.items) (sym c.index-managements-at.is) c.in_ok-routes.ensures) c.from_vec.ensures c.set_routes.ensures
