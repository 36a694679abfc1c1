use Rattle.std.proofs.Common.{◌≡◌, ◌∙◌, ap, sym}
use Rattle.rina_dif.specs.declared.dif.Dif.{Dif}
use Rattle.rina_dif.proofs.Beside.{no_step}
use Rattle.rina_dif.proofs.EnrolBeside.{enrol_others, quiet_step}
use Rattle.rina_dif.proofs.Enrols.{noted_enrols, noted_marked}
use Rattle.rina_dif.proofs.dif.Dif.enrol.Goals as goal

pub returns-then-self-clause-goes_on : goal.returns-then-self-clause-goes_on
returns-then-self-clause-goes_on g c = (no_step c.args.self.now (g.F.Facility.seen c.args.below.now) c.requires.stands).goes_on

pub returns-then-self-clause-silent : goal.returns-then-self-clause-silent
returns-then-self-clause-silent g c = (no_step c.args.self.now (g.F.Facility.seen c.args.below.now) c.requires.stands).silent

pub returns-in_default-clause-goes_on : goal.returns-in_default-clause-goes_on
returns-in_default-clause-goes_on g c = (no_step c.args.self.now (g.F.Facility.seen c.args.below.now) c.requires.stands).goes_on

pub returns-in_default-clause-silent : goal.returns-in_default-clause-silent
returns-in_default-clause-silent g c = (no_step c.args.self.now (g.F.Facility.seen c.args.below.now) c.requires.stands).silent

pub returns-in_default-2-clause-goes_on : goal.returns-in_default-2-clause-goes_on
returns-in_default-2-clause-goes_on g c = (no_step c.args.self.now (g.F.Facility.seen c.args.below.now) c.requires.stands).goes_on

pub returns-in_default-2-clause-silent : goal.returns-in_default-2-clause-silent
returns-in_default-2-clause-silent g c = (no_step c.args.self.now (g.F.Facility.seen c.args.below.now) c.requires.stands).silent

pub returns-clause-does : goal.returns-clause-does
returns-clause-does g c = λ alive.
    noted_enrols c.enrol_at-done.new.self c.enrol_at-done.result (ap (λ (z : Dif). z.failed) c.enrol_at-done.ensures.whole ∙ c.if-self.false) (g.F.Facility.refuses_allocate c.args.below.now) c.args.self.now (g.F.Facility.seen c.args.below.now) c.args.node c.args.fac c.args.peer (g.F.Facility.seen c.enrol_at-done.new.below) c.lacks_memory-self.result c.lacks_memory-self.ensures.0
    (c.enrol_at-done.ensures.does c.args.node c.args.peer (sym c.place_at_node.ensures.place ∙ c.in-Some-Some.is-0) (sym c.place_at_node-2.ensures.place ∙ c.in-Some-Some.is-1))

pub returns-clause-holds : goal.returns-clause-holds
returns-clause-holds g c = λ lines h.
    noted_marked c.enrol_at-done.new.self lines (g.F.Facility.seen c.enrol_at-done.new.below) c.enrol_at-done.result c.lacks_memory-self.result (ap (λ (z : Dif). z.failed) c.enrol_at-done.ensures.whole ∙ c.if-self.false) c.lacks_memory-self.ensures.0 c.lacks_memory-self.ensures.1 (c.enrol_at-done.ensures.holds lines h)

pub returns-clause-others : goal.returns-clause-others
returns-clause-others g c =
    let b = c.args.below.now in
    let b1 = c.enrol_at-done.new.below in
    enrol_others c.args.self.now (g.F.Facility.seen b) (g.F.Facility.seen b1) c.args.node c.args.fac c.args.peer (g.met.F.Facility.kept b c.requires.valid) (g.met.F.Facility.kept b1 c.enrol_at-done.ensures.valid) c.enrol_at-done.ensures.later (b1 ≡ b) (g.F.Facility.refuses_allocate b) (λ ask answer. g.F.Facility.does_allocate b ask answer b1) c.enrol_at-done.result (λ e. ap g.F.Facility.seen e)
    (c.enrol_at-done.ensures.lower c.args.node c.args.peer (sym c.place_at_node.ensures.place ∙ c.in-Some-Some.is-0) (sym c.place_at_node-2.ensures.place ∙ c.in-Some-Some.is-1))

pub returns-clause-goes_on : goal.returns-clause-goes_on
returns-clause-goes_on g c =
    let st = c.requires.stands in
    let d1 = c.enrol_at-done.new.self in
    let b1 = g.F.Facility.seen c.enrol_at-done.new.below in
    (quiet_step c.args.self.now (g.F.Facility.seen c.args.below.now) (record d1 { failed = c.lacks_memory-self.result }) st.0 b1 (ap (λ (z : Dif). record z { failed = c.lacks_memory-self.result }) c.enrol_at-done.ensures.whole)
    (noted_marked d1 st.0 b1 c.enrol_at-done.result c.lacks_memory-self.result (ap (λ (z : Dif). z.failed) c.enrol_at-done.ensures.whole ∙ c.if-self.false) c.lacks_memory-self.ensures.0 c.lacks_memory-self.ensures.1 (c.enrol_at-done.ensures.holds st.0 st.1))
    (returns-clause-others g c)).goes_on

pub returns-clause-silent : goal.returns-clause-silent
returns-clause-silent g c =
    let st = c.requires.stands in
    let d1 = c.enrol_at-done.new.self in
    let b1 = g.F.Facility.seen c.enrol_at-done.new.below in
    (quiet_step c.args.self.now (g.F.Facility.seen c.args.below.now) (record d1 { failed = c.lacks_memory-self.result }) st.0 b1 (ap (λ (z : Dif). record z { failed = c.lacks_memory-self.result }) c.enrol_at-done.ensures.whole)
    (noted_marked d1 st.0 b1 c.enrol_at-done.result c.lacks_memory-self.result (ap (λ (z : Dif). z.failed) c.enrol_at-done.ensures.whole ∙ c.if-self.false) c.lacks_memory-self.ensures.0 c.lacks_memory-self.ensures.1 (c.enrol_at-done.ensures.holds st.0 st.1))
    (returns-clause-others g c)).silent
