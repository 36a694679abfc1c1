use Rattle.std.proofs.Common.{length, sym}
use Rattle.rina_way.proofs.Walks.{walked_all, walked_out, walked_push}
use Rattle.rina_way.proofs.walk.way.Goals as goal

pub returns-then-at-to-clause-way : goal.returns-then-at-to-clause-way
returns-then-at-to-clause-way g c = walked_all (g.F.Facility.seen c.args.below.now) c.args.members.now c.args.processes.now c.args.dst c.args.from c.args.to c.hops.hops c.hops.at (length c.hops.hops) c.hops.invariant c.if-at-to.true

pub returns-in_default-clause-none : goal.returns-in_default-clause-none
returns-in_default-clause-none g c = λ _ hs w. walked_out (g.F.Facility.seen c.args.below.now) c.args.members.now c.args.processes.now c.args.dst c.args.from c.args.to c.hops.hops c.hops.at (length c.hops.hops) c.hops.invariant (sym c.in_default.ensures) c.if-at-to.false hs w

pub hops-preserved : goal.hops-preserved
hops-preserved g c = walked_push (g.F.Facility.seen c.args.below.now) c.args.members.now c.args.processes.now c.args.dst c.args.from c.args.to c.hops.hops c.hops.at c.in-Some.hop c.push.new.self c.hops.invariant (sym c.in-Some.ensures) c.if-at-to.false c.in_ok-push.ensures.ok

pub returns-then-at-to-2-clause-way : goal.returns-then-at-to-2-clause-way
returns-then-at-to-2-clause-way g c = walked_all (g.F.Facility.seen c.args.below.now) c.args.members.now c.args.processes.now c.args.dst c.args.from c.args.to c.hops.hops c.hops.at (length c.hops.hops) c.hops.invariant c.if-at-to-2.true
