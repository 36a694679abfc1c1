use Rattle.std.proofs.Common.{◌∙◌, sym}
use Rattle.rina_dif.proofs.Beside.{in_is_step, no_step, step_noted}
use Rattle.rina_dif.proofs.Taken.{takes_home, takes_none, takes_nowhere}
use Rattle.rina_dif.proofs.Elsewhere.{in_noted}
use Rattle.rina_dif.proofs.dif.Dif.in_step.Goals as goal

pub returns-then-self-clause-does : goal.returns-then-self-clause-does
returns-then-self-clause-does g c = λ lines h. takes_none c.args.self.now lines (g.F.Facility.seen c.args.below.now) c.args.node c.args.link h

pub returns-in_default-clause-does : goal.returns-in_default-clause-does
returns-in_default-clause-does g c = λ lines h. takes_nowhere c.args.self.now lines (g.F.Facility.seen c.args.below.now) c.args.node c.args.link (sym c.place_at_node.ensures.place ∙ c.in_default.is) h

pub returns-clause-does : goal.returns-clause-does
returns-clause-does g c = λ lines h.
    takes_home c.args.self.now lines (g.F.Facility.seen c.args.below.now) c.args.node c.args.link c.in-Some.at c.in_step_at-step.result c.remember_memory_failure.result c.in_step_at-step.new.self c.remember_memory_failure.new.failed (g.F.Facility.seen c.in_step_at-step.new.below) (c.in_step_at-step.ensures.failed ∙ c.if-self.false) (sym c.place_at_node.ensures.place ∙ c.in-Some.is) c.remember_memory_failure.ensures.same (c.in_step_at-step.ensures.does lines h)

pub returns-then-self-clause-goes_on : goal.returns-then-self-clause-goes_on
returns-then-self-clause-goes_on g c = (no_step c.args.self.now (g.F.Facility.seen c.args.below.now) c.requires.stands).goes_on

pub returns-then-self-clause-silent : goal.returns-then-self-clause-silent
returns-then-self-clause-silent g c = (no_step c.args.self.now (g.F.Facility.seen c.args.below.now) c.requires.stands).silent

pub returns-in_default-clause-goes_on : goal.returns-in_default-clause-goes_on
returns-in_default-clause-goes_on g c = (no_step c.args.self.now (g.F.Facility.seen c.args.below.now) c.requires.stands).goes_on

pub returns-in_default-clause-silent : goal.returns-in_default-clause-silent
returns-in_default-clause-silent g c = (no_step c.args.self.now (g.F.Facility.seen c.args.below.now) c.requires.stands).silent

pub returns-clause-goes_on : goal.returns-clause-goes_on
returns-clause-goes_on g c = (step_noted c.args.self.now (g.F.Facility.seen c.args.below.now) c.in_step_at-step.new.self c.remember_memory_failure.new.failed (g.F.Facility.seen c.in_step_at-step.new.below) (in_is_step c.args.self.now (g.F.Facility.seen c.args.below.now) c.in-Some.at c.args.link c.in_step_at-step.result c.in_step_at-step.new.self (g.F.Facility.seen c.in_step_at-step.new.below) c.in_step_at-step.ensures.enrolled (g.met.F.Facility.kept c.args.below.now c.requires.valid) (g.met.F.Facility.kept c.in_step_at-step.new.below c.in_step_at-step.ensures.valid) c.requires.stands (c.in_step_at-step.ensures.does c.requires.stands.0 c.requires.stands.1))).goes_on

pub returns-clause-silent : goal.returns-clause-silent
returns-clause-silent g c = (step_noted c.args.self.now (g.F.Facility.seen c.args.below.now) c.in_step_at-step.new.self c.remember_memory_failure.new.failed (g.F.Facility.seen c.in_step_at-step.new.below) (in_is_step c.args.self.now (g.F.Facility.seen c.args.below.now) c.in-Some.at c.args.link c.in_step_at-step.result c.in_step_at-step.new.self (g.F.Facility.seen c.in_step_at-step.new.below) c.in_step_at-step.ensures.enrolled (g.met.F.Facility.kept c.args.below.now c.requires.valid) (g.met.F.Facility.kept c.in_step_at-step.new.below c.in_step_at-step.ensures.valid) c.requires.stands (c.in_step_at-step.ensures.does c.requires.stands.0 c.requires.stands.1))).silent

pub returns-clause-others : goal.returns-clause-others
returns-clause-others g c = (step_noted c.args.self.now (g.F.Facility.seen c.args.below.now) c.in_step_at-step.new.self c.remember_memory_failure.new.failed (g.F.Facility.seen c.in_step_at-step.new.below) (in_is_step c.args.self.now (g.F.Facility.seen c.args.below.now) c.in-Some.at c.args.link c.in_step_at-step.result c.in_step_at-step.new.self (g.F.Facility.seen c.in_step_at-step.new.below) c.in_step_at-step.ensures.enrolled (g.met.F.Facility.kept c.args.below.now c.requires.valid) (g.met.F.Facility.kept c.in_step_at-step.new.below c.in_step_at-step.ensures.valid) c.requires.stands (c.in_step_at-step.ensures.does c.requires.stands.0 c.requires.stands.1))).others

pub returns-clause-leaves : goal.returns-clause-leaves
returns-clause-leaves g c = in_noted c.in_step_at-step.result c.remember_memory_failure.result c.args.self.now (record c.in_step_at-step.new.self { failed = c.remember_memory_failure.new.failed }) c.args.node c.in-Some.at (sym c.place_at_node.ensures.place ∙ c.in-Some.is) c.remember_memory_failure.ensures.same c.in_step_at-step.ensures.leaves
