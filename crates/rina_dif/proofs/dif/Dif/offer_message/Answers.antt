-- One more link was tried.
use Rattle.std.proofs.Common.{◌≡◌, ◌∙◌, List, Bool, Ok, Some, ap, arith, refl, slice_get, subst, sym}
use Rattle.rina_law.specs.Direction.{Direction}
use Rattle.rina_dif.specs.declared.dif.Dif.{Dif}
use Rattle.rina_dif.specs.Holding.{Holds}
use Rattle.rina_dif.specs.Messaging.{OffersAt}
use Rattle.rina_dif.proofs.Among.{none_among, none_here, none_waits, one_among}
use Rattle.rina_dif.specs.Elsewhere.{ChangesProcess}
use Rattle.rina_dif.proofs.Elsewhere.{none_process}
use Rattle.rina_dif.proofs.Leaves.{has_process}
use Rattle.rina_dif.proofs.dif.Dif.offer_message.Goals as goal

pub returns-then-not-has_waiting-clause-does : goal.returns-then-not-has_waiting-clause-does
returns-then-not-has_waiting-clause-does g c = λ lines h. (
  λ links place number due. none_waits c.args.self.now (g.F.Facility.seen c.args.below.now) links.lines c.args.at place number c.has_waiting.result c.has_waiting.ensures c.if-not-has_waiting.true due,
  refl,
)

pub offer_on-requires-clause-tell : goal.offer_on-requires-clause-tell
offer_on-requires-clause-tell g c = λ k x is. c.requires.tell k x (ap (λ (z : Dif). slice_get z.managements k) (sym c.loop-number.invariant.same) ∙ is)

pub returns-then-branch : goal.returns-then-branch
returns-then-branch g c =
    let d = c.args.self.now in
    let below = g.F.Facility.seen c.args.below.now in
    let offers = subst (λ (b : Bool). (lines : List Direction) → Holds c.loop-number.self lines below → OffersAt c.loop-number.self lines below c.args.at c.loop-number.number (Ok b) c.offer_on.new.self) c.if-branch.true c.in_ok-offer_on.ensures.does in
    let new : Dif = c.offer_on.new.self in
    record {
      does = λ lines h. one_among d c.loop-number.self c.offer_on.new.self lines below c.args.at c.loop-number.number h c.loop-number.invariant offers;
      whole = subst (λ (z : Dif). new ≡ record z { processes = new.processes; connections = record z.connections { flows = new.connections.flows }; managements = new.managements }) c.loop-number.invariant.same c.in_ok-offer_on.ensures.whole;
      leaves = subst (λ (z : Dif). ChangesProcess (Some c.args.at) z.processes new.processes) c.loop-number.invariant.same c.in_ok-offer_on.ensures.leaves;
    }

pub loop-number-preserved : goal.loop-number-preserved
loop-number-preserved g c =
    let d = c.args.self.now in
    let below = g.F.Facility.seen c.args.below.now in
    let st = c.requires.stands in
    let offers = subst (λ (b : Bool). (lines : List Direction) → Holds c.loop-number.self lines below → OffersAt c.loop-number.self lines below c.args.at c.loop-number.number (Ok b) c.offer_on.new.self) c.if-branch.false c.in_ok-offer_on.ensures.does in
    none_here d c.loop-number.self c.offer_on.new.self st.0 below c.args.at c.loop-number.number st.1 c.loop-number.invariant offers

pub returns : goal.returns
returns g c =
    let d = c.args.self.now in
    let below = g.F.Facility.seen c.args.below.now in
    let p = has_process d below c.args.at c.requires.stands c.requires.at in
    let past = c.loop-number-test.false in
    record {
      does = λ lines h. none_among d c.loop-number.self lines below c.args.at c.loop-number.number p.0 h c.requires.at p.1 (omega (arith, past)) c.loop-number.invariant;
      whole = subst (λ (z : Dif). z ≡ record d { processes = z.processes; connections = record d.connections { flows = z.connections.flows }; managements = z.managements }) (sym c.loop-number.invariant.same) refl;
      leaves = subst (λ (z : Dif). ChangesProcess (Some c.args.at) d.processes z.processes) (sym c.loop-number.invariant.same) (none_process (Some c.args.at) d.processes d.processes refl);
    }
