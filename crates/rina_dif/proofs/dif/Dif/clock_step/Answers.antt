use Rattle.std.proofs.Common.{◌∙◌, None, sym, ap, refl, inl}
use Rattle.rina_iface.specs.Free.{FreesAsSeen}
use Rattle.rina_dif.specs.declared.dif.Dif.{Dif}
use Rattle.rina_dif.proofs.Beside.{clock_is_step, no_step, step_noted}
use Rattle.rina_dif.proofs.Failing.{fails_late, steps_home}
use Rattle.rina_dif.proofs.Elsewhere.{clock_noted}
use Rattle.rina_dif.proofs.ClaimedFirst.{clocks_home}
use Rattle.rina_dif.proofs.dif.Dif.clock_step.Goals as goal

pub returns-clause-does : goal.returns-clause-does
returns-clause-does g c = λ lines h.
    steps_home c.args.self.now lines (g.F.Facility.seen c.args.below.now) c.args.node c.in-Some.at c.step_at-step.result c.remember_memory_failure.result c.step_at-step.new.self (g.F.Facility.seen c.step_at-step.new.below) c.remember_memory_failure.new.failed (c.step_at-step.ensures.same.1 ∙ c.if-self.false) c.remember_memory_failure.ensures.noted.0 (sym c.place_at_node.ensures.place ∙ c.in-Some.is) c.remember_memory_failure.ensures.same (c.step_at-step.ensures.does lines h) c.step_at-step.ensures.manages c.step_at-step.ensures.keeps

pub returns-clause-fails_late : goal.returns-clause-fails_late
returns-clause-fails_late g c = λ lines h.
    fails_late c.args.self.now lines (g.F.Facility.seen c.args.below.now) c.args.node c.step_at-step.result c.step_at-step.new.self (g.F.Facility.seen c.step_at-step.new.below) h (c.step_at-step.ensures.does lines h)

pub returns-then-self-clause-goes_on : goal.returns-then-self-clause-goes_on
returns-then-self-clause-goes_on g c = (no_step c.args.self.now (g.F.Facility.seen c.args.below.now) c.requires.stands).goes_on

pub returns-then-self-clause-silent : goal.returns-then-self-clause-silent
returns-then-self-clause-silent g c = (no_step c.args.self.now (g.F.Facility.seen c.args.below.now) c.requires.stands).silent

pub returns-in_default-clause-goes_on : goal.returns-in_default-clause-goes_on
returns-in_default-clause-goes_on g c = (no_step c.args.self.now (g.F.Facility.seen c.args.below.now) c.requires.stands).goes_on

pub returns-in_default-clause-silent : goal.returns-in_default-clause-silent
returns-in_default-clause-silent g c = (no_step c.args.self.now (g.F.Facility.seen c.args.below.now) c.requires.stands).silent

pub returns-clause-goes_on : goal.returns-clause-goes_on
returns-clause-goes_on g c = (step_noted c.args.self.now (g.F.Facility.seen c.args.below.now) c.step_at-step.new.self c.remember_memory_failure.new.failed (g.F.Facility.seen c.step_at-step.new.below) (clock_is_step c.args.self.now (g.F.Facility.seen c.args.below.now) c.args.node c.step_at-step.result c.step_at-step.new.self (g.F.Facility.seen c.step_at-step.new.below) (ap (λ (z : Dif). z.enrolled) c.step_at-step.ensures.whole) (g.met.F.Facility.kept c.args.below.now c.requires.valid) (g.met.F.Facility.kept c.step_at-step.new.below c.step_at-step.ensures.valid) c.step_at-step.ensures.later c.requires.stands (c.step_at-step.ensures.does c.requires.stands.0 c.requires.stands.1))).goes_on

pub returns-clause-silent : goal.returns-clause-silent
returns-clause-silent g c = (step_noted c.args.self.now (g.F.Facility.seen c.args.below.now) c.step_at-step.new.self c.remember_memory_failure.new.failed (g.F.Facility.seen c.step_at-step.new.below) (clock_is_step c.args.self.now (g.F.Facility.seen c.args.below.now) c.args.node c.step_at-step.result c.step_at-step.new.self (g.F.Facility.seen c.step_at-step.new.below) (ap (λ (z : Dif). z.enrolled) c.step_at-step.ensures.whole) (g.met.F.Facility.kept c.args.below.now c.requires.valid) (g.met.F.Facility.kept c.step_at-step.new.below c.step_at-step.ensures.valid) c.step_at-step.ensures.later c.requires.stands (c.step_at-step.ensures.does c.requires.stands.0 c.requires.stands.1))).silent

pub returns-clause-leaves : goal.returns-clause-leaves
returns-clause-leaves g c = clock_noted c.step_at-step.result c.remember_memory_failure.result c.args.self.now (record c.step_at-step.new.self { failed = c.remember_memory_failure.new.failed }) c.args.node c.in-Some.at (sym c.place_at_node.ensures.place ∙ c.in-Some.is) c.remember_memory_failure.ensures.same c.step_at-step.ensures.leaves

pub returns-clause-others : goal.returns-clause-others
returns-clause-others g c = (step_noted c.args.self.now (g.F.Facility.seen c.args.below.now) c.step_at-step.new.self c.remember_memory_failure.new.failed (g.F.Facility.seen c.step_at-step.new.below) (clock_is_step c.args.self.now (g.F.Facility.seen c.args.below.now) c.args.node c.step_at-step.result c.step_at-step.new.self (g.F.Facility.seen c.step_at-step.new.below) (ap (λ (z : Dif). z.enrolled) c.step_at-step.ensures.whole) (g.met.F.Facility.kept c.args.below.now c.requires.valid) (g.met.F.Facility.kept c.step_at-step.new.below c.step_at-step.ensures.valid) c.step_at-step.ensures.later c.requires.stands (c.step_at-step.ensures.does c.requires.stands.0 c.requires.stands.1))).others

pub returns-clause-lower : goal.returns-clause-lower
returns-clause-lower g c = clocks_home (λ name x fac answer y. g.F.Facility.does_incoming x fac c.args.node name answer y) (FreesAsSeen g.F.Facility.seen g.F.Facility.frees_both g.F.Facility.does_free) c.args.below.now c.step_at-step.new.below c.args.self.now c.args.node c.in-Some.at c.step_at-step.result c.remember_memory_failure.result (sym c.place_at_node.ensures.place ∙ c.in-Some.is) c.remember_memory_failure.ensures.same c.step_at-step.ensures.lower

pub returns-then-self-clause-lower : goal.returns-then-self-clause-lower
returns-then-self-clause-lower g c = record { mid = c.args.below.now; asked = (None, (0, refl)); does = inl refl }
