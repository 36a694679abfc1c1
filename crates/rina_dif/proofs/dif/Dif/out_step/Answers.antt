use Rattle.std.proofs.Common.{◌∙◌, sym, ℕ, Option, subst, ap}
use Rattle.rina_data.specs.Configs.{config_of}
use Rattle.rina_data.specs.Outgoing.{IsHeld}
use Rattle.rina_dif.specs.Shown.{seen_of}
use Rattle.rina_dif.specs.declared.dif.Dif.{Dif}
use Rattle.rina_dif.proofs.Beside.{no_step, out_is_step, step_noted}
use Rattle.rina_dif.proofs.Leaves.{asks_home, outs_at}
use Rattle.rina_dif.specs.Elsewhere.{ChangesProcess}
use Rattle.rina_dif.proofs.dif.Dif.out_step.Goals as goal

pub returns-clause-does : goal.returns-clause-does
returns-clause-does g c =
    let here = sym c.place_at_node.ensures.place ∙ c.in-Some.is in
    rw c.remember_memory_failure.ensures.same (outs_at (g.F.Facility.refuses_send c.args.below.now) (seen_of c.args.self.now) (g.F.Facility.seen c.args.below.now) c.args.node c.args.link c.in-Some.at c.out_step_at-step.result (seen_of c.out_step_at-step.new.self) (g.F.Facility.seen c.out_step_at-step.new.below) here c.out_step_at-step.ensures.does)

pub returns-clause-keeps : goal.returns-clause-keeps
returns-clause-keeps g c = λ lines h.
    let k = c.out_step_at-step.ensures.keeps lines h in
    record { tied = k.tied; standing = k.standing; carrying = k.carrying; numbered = k.numbered; accounted = k.accounted; caused = k.caused; written_off = k.written_off; housed = k.housed; managed = k.managed; enrolled = k.enrolled; connected = k.connected; flooded = λ still. k.flooded (c.out_step_at-step.ensures.failed ∙ c.if-self.false) }

pub returns-clause-shelf : goal.returns-clause-shelf
returns-clause-shelf g c = λ alive.
    let here = sym c.place_at_node.ensures.place ∙ c.in-Some.is in
    rw c.remember_memory_failure.ensures.same (asks_home (g.S.Picks.may_answer c.args.shelf.now c.args.self.now.settings.policy) (IsHeld (g.F.Facility.refuses_send c.args.below.now) (config_of c.args.self.now.settings) c.args.self.now.clock (g.F.Facility.seen c.args.below.now) c.args.link) c.args.self.now.settings c.args.node c.args.link c.in-Some.at (g.S.Picks.slots c.args.shelf.now) (g.S.Picks.slots c.out_step_at-step.new.shelf) c.args.self.now.processes c.out_step_at-step.result c.out_step_at-step.new.self.processes here c.out_step_at-step.ensures.shelf)

pub returns-then-self-clause-goes_on : goal.returns-then-self-clause-goes_on
returns-then-self-clause-goes_on g c = (no_step c.args.self.now (g.F.Facility.seen c.args.below.now) c.requires.stands).goes_on

pub returns-then-self-clause-silent : goal.returns-then-self-clause-silent
returns-then-self-clause-silent g c = (no_step c.args.self.now (g.F.Facility.seen c.args.below.now) c.requires.stands).silent

pub returns-in_default-clause-goes_on : goal.returns-in_default-clause-goes_on
returns-in_default-clause-goes_on g c = (no_step c.args.self.now (g.F.Facility.seen c.args.below.now) c.requires.stands).goes_on

pub returns-in_default-clause-silent : goal.returns-in_default-clause-silent
returns-in_default-clause-silent g c = (no_step c.args.self.now (g.F.Facility.seen c.args.below.now) c.requires.stands).silent

pub returns-clause-goes_on : goal.returns-clause-goes_on
returns-clause-goes_on g c = (step_noted c.args.self.now (g.F.Facility.seen c.args.below.now) c.out_step_at-step.new.self c.remember_memory_failure.new.failed (g.F.Facility.seen c.out_step_at-step.new.below) (out_is_step (g.F.Facility.refuses_send c.args.below.now) c.args.self.now (g.F.Facility.seen c.args.below.now) c.in-Some.at c.args.link c.out_step_at-step.result c.out_step_at-step.new.self (g.F.Facility.seen c.out_step_at-step.new.below) (ap (λ (z : Dif). z.enrolled) c.out_step_at-step.ensures.whole) (g.met.F.Facility.kept c.args.below.now c.requires.valid) (g.met.F.Facility.kept c.out_step_at-step.new.below c.out_step_at-step.ensures.valid) c.requires.stands c.out_step_at-step.ensures.does c.out_step_at-step.ensures.keeps)).goes_on

pub returns-clause-silent : goal.returns-clause-silent
returns-clause-silent g c = (step_noted c.args.self.now (g.F.Facility.seen c.args.below.now) c.out_step_at-step.new.self c.remember_memory_failure.new.failed (g.F.Facility.seen c.out_step_at-step.new.below) (out_is_step (g.F.Facility.refuses_send c.args.below.now) c.args.self.now (g.F.Facility.seen c.args.below.now) c.in-Some.at c.args.link c.out_step_at-step.result c.out_step_at-step.new.self (g.F.Facility.seen c.out_step_at-step.new.below) (ap (λ (z : Dif). z.enrolled) c.out_step_at-step.ensures.whole) (g.met.F.Facility.kept c.args.below.now c.requires.valid) (g.met.F.Facility.kept c.out_step_at-step.new.below c.out_step_at-step.ensures.valid) c.requires.stands c.out_step_at-step.ensures.does c.out_step_at-step.ensures.keeps)).silent

pub returns-clause-others : goal.returns-clause-others
returns-clause-others g c = (step_noted c.args.self.now (g.F.Facility.seen c.args.below.now) c.out_step_at-step.new.self c.remember_memory_failure.new.failed (g.F.Facility.seen c.out_step_at-step.new.below) (out_is_step (g.F.Facility.refuses_send c.args.below.now) c.args.self.now (g.F.Facility.seen c.args.below.now) c.in-Some.at c.args.link c.out_step_at-step.result c.out_step_at-step.new.self (g.F.Facility.seen c.out_step_at-step.new.below) (ap (λ (z : Dif). z.enrolled) c.out_step_at-step.ensures.whole) (g.met.F.Facility.kept c.args.below.now c.requires.valid) (g.met.F.Facility.kept c.out_step_at-step.new.below c.out_step_at-step.ensures.valid) c.requires.stands c.out_step_at-step.ensures.does c.out_step_at-step.ensures.keeps)).others

pub returns-clause-leaves : goal.returns-clause-leaves
returns-clause-leaves g c =
    let here = sym c.place_at_node.ensures.place ∙ c.in-Some.is in
    subst (λ (o : Option ℕ). ChangesProcess o c.args.self.now.processes c.out_step_at-step.new.self.processes) (sym here) c.out_step_at-step.ensures.leaves
