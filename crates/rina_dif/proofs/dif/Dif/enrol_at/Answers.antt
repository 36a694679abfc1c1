use Rattle.std.proofs.Common.{◌≡◌, ◌∙◌, Err, None, Ok, Result, ap, refl, subst, sym}
use Rattle.std.proofs.lemmas.Result.{err_from_is_err_and}
use Rattle.rina_iface.specs.declared.ask.Ask.{Ask}
use Rattle.rina_iface.specs.Allocate.{Allocates}
use Rattle.rina_iface.specs.Seen.{Seen}
use Rattle.rina_dif.specs.declared.enrol.EnrolError.{EnrolError}
use Rattle.rina_dif.specs.Enrolling.{AllocatesAsSeen, AllocatesBelow, EnrolsAs, enrol_refusal, marked}
use Rattle.rina_dif.specs.Holding.{Holds}
use Rattle.rina_dif.proofs.Enrols.{asked_below_err, asked_below_ok, asked_enrols, asked_refused, marked_holds, refusal_by, refused_below, refused_enrols, same_below}
use Rattle.rina_dif.proofs.Leaves.{has_process}
use Rattle.rina_dif.proofs.NewLinkHolds.{asked_holds}
use Rattle.rina_dif.proofs.Unlinked.{has_agent, has_member}
use Rattle.rina_dif.proofs.dif.Dif.enrol_at.Goals as goal

pub returns-in_err-number-clause-does : goal.returns-in_err-number-clause-does
returns-in_err-number-clause-does g c = λ node peer at_i at_j.
    let d = c.args.self.now in
    let below = g.F.Facility.seen c.args.below.now in
    let st = c.requires.stands in
    let p = has_process d below c.args.at st c.requires.joiner in
    let m = has_agent d st.0 below c.args.at c.requires.joiner st.1 in
    let err = err_from_is_err_and c.from_residual.result c.from_residual.ensures.1 in
    subst (λ (r : Result (Unit {0}) EnrolError). EnrolsAs (g.F.Facility.refuses_allocate c.args.below.now) d below node c.args.fac peer r d below) (sym (err.1 ∙ ap (λ (e : EnrolError). Err e) err.2))
    (refused_enrols (g.F.Facility.refuses_allocate c.args.below.now) d below node c.args.fac peer c.args.at c.args.peer p.0 m.0 _ at_i at_j p.1 m.1 (c.in_err-number.ensures.refused p.0 m.0 p.1 m.1))

pub returns-in_err-number-clause-lower : goal.returns-in_err-number-clause-lower
returns-in_err-number-clause-lower g c = λ node peer at_i at_j.
    let d = c.args.self.now in
    let below = g.F.Facility.seen c.args.below.now in
    let st = c.requires.stands in
    let p = has_process d below c.args.at st c.requires.joiner in
    let m = has_agent d st.0 below c.args.at c.requires.joiner st.1 in
    let err = err_from_is_err_and c.from_residual.result c.from_residual.ensures.1 in
    subst (λ (r : Result (Unit {0}) EnrolError). AllocatesBelow (c.args.below.now ≡ c.args.below.now) (AllocatesAsSeen g.F.Facility.seen g.F.Facility.refuses_allocate g.F.Facility.does_allocate c.args.below.now c.args.below.now) d node c.args.fac peer r) (sym (err.1 ∙ ap (λ (e : EnrolError). Err e) err.2))
    (refused_below (c.args.below.now ≡ c.args.below.now) (AllocatesAsSeen g.F.Facility.seen g.F.Facility.refuses_allocate g.F.Facility.does_allocate c.args.below.now c.args.below.now) d node c.args.fac peer p.0 m.0 _ (c.in_err-number.ensures.refused p.0 m.0 p.1 m.1) refl)

pub returns-in_err-number-clause-holds : goal.returns-in_err-number-clause-holds
returns-in_err-number-clause-holds g c = λ lines h. marked_holds c.args.self.now lines (g.F.Facility.seen c.args.below.now) c.from_residual.result c.requires.alive h

pub returns-in_err-ask-clause-holds : goal.returns-in_err-ask-clause-holds
returns-in_err-ask-clause-holds g c = λ lines h. marked_holds c.args.self.now lines (g.F.Facility.seen c.args.below.now) c.from_residual-in_err-ask.result c.requires.alive h

pub returns-in_err-port-clause-does : goal.returns-in_err-port-clause-does
returns-in_err-port-clause-does g c = λ node peer at_i at_j.
    let d = c.args.self.now in
    let b = c.args.below.now in
    let below = g.F.Facility.seen b in
    let below' = g.F.Facility.seen c.ask_below.new.below in
    let st = c.requires.stands in
    let p = has_process d below c.args.at st c.requires.joiner in
    let m = has_agent d st.0 below c.args.at c.requires.joiner st.1 in
    let joiner = has_member d c.args.at c.requires.joiner in
    let member = has_member d c.args.peer c.requires.member in
    let may : enrol_refusal d node peer ≡ None = refusal_by d node peer c.args.at c.args.peer p.0 m.0 at_i at_j p.1 m.1 ∙ c.in_ok-number.ensures.refused p.0 m.0 p.1 m.1 in
    let err = err_from_is_err_and c.from_residual-in_err-port.result c.from_residual-in_err-port.ensures.1 in
    subst (λ (r : Result (Unit {0}) EnrolError). EnrolsAs (g.F.Facility.refuses_allocate b) d below node c.args.fac peer r d below') (sym (err.1 ∙ ap (λ (e : EnrolError). Err e) err.2))
    (asked_refused d node c.args.fac peer c.args.at c.args.peer joiner.0 member.0 at_i at_j joiner.1 member.1 c.in_ok-ask.ask (c.in_ok-ask.ensures joiner.0 member.0 joiner.1 member.1) (g.F.Facility.refuses_allocate b) below below' (λ answer. g.F.Facility.does_allocate b c.in_ok-ask.ask answer c.ask_below.new.below) may _ c.in_err-port.ensures.asks)

pub returns-in_err-port-clause-lower : goal.returns-in_err-port-clause-lower
returns-in_err-port-clause-lower g c = λ node peer at_i at_j.
    let d = c.args.self.now in
    let b = c.args.below.now in
    let joiner = has_member d c.args.at c.requires.joiner in
    let member = has_member d c.args.peer c.requires.member in
    let err = err_from_is_err_and c.from_residual-in_err-port.result c.from_residual-in_err-port.ensures.1 in
    subst (λ (r : Result (Unit {0}) EnrolError). AllocatesBelow (c.ask_below.new.below ≡ b) (AllocatesAsSeen g.F.Facility.seen g.F.Facility.refuses_allocate g.F.Facility.does_allocate b c.ask_below.new.below) d node c.args.fac peer r) (sym (err.1 ∙ ap (λ (e : EnrolError). Err e) err.2))
    (asked_below_err d node c.args.fac peer c.args.at c.args.peer joiner.0 member.0 at_i at_j joiner.1 member.1 c.in_ok-ask.ask (c.in_ok-ask.ensures joiner.0 member.0 joiner.1 member.1) (c.ask_below.new.below ≡ b) (AllocatesAsSeen g.F.Facility.seen g.F.Facility.refuses_allocate g.F.Facility.does_allocate b c.ask_below.new.below) _ c.in_err-port.ensures.asks)

pub returns-in_err-port-clause-holds : goal.returns-in_err-port-clause-holds
returns-in_err-port-clause-holds g c = λ lines h.
    let d = c.args.self.now in
    let b = c.args.below.now in
    let below = g.F.Facility.seen b in
    let below' = g.F.Facility.seen c.ask_below.new.below in
    let same : below' ≡ below = same_below c.in_ok-ask.ask (g.F.Facility.refuses_allocate b) below below' (λ answer. g.F.Facility.does_allocate b c.in_ok-ask.ask answer c.ask_below.new.below) _ c.in_err-port.ensures.asks in
    subst (λ (s : Seen). Holds (marked c.from_residual-in_err-port.result d) lines s) (sym same) (marked_holds d lines below c.from_residual-in_err-port.result c.requires.alive h)

pub take_asked-requires-clause-joins : goal.take_asked-requires-clause-joins
take_asked-requires-clause-joins g c = c.in_ok-number.ensures.ok c.in_ok-port.port

pub returns-clause-does : goal.returns-clause-does
returns-clause-does g c = λ node peer at_i at_j.
    let d = c.args.self.now in
    let b = c.args.below.now in
    let below = g.F.Facility.seen b in
    let below' = g.F.Facility.seen c.ask_below.new.below in
    let st = c.requires.stands in
    let p = has_process d below c.args.at st c.requires.joiner in
    let m = has_agent d st.0 below c.args.at c.requires.joiner st.1 in
    let joiner = has_member d c.args.at c.requires.joiner in
    let member = has_member d c.args.peer c.requires.member in
    let may : enrol_refusal d node peer ≡ None = refusal_by d node peer c.args.at c.args.peer p.0 m.0 at_i at_j p.1 m.1 ∙ c.in_ok-number.ensures.refused p.0 m.0 p.1 m.1 in
    asked_enrols d node c.args.fac peer c.args.at c.args.peer joiner.0 member.0 at_i at_j joiner.1 member.1 c.in_ok-ask.ask (c.in_ok-ask.ensures joiner.0 member.0 joiner.1 member.1) (g.F.Facility.refuses_allocate b) below below' (λ answer. g.F.Facility.does_allocate b c.in_ok-ask.ask answer c.ask_below.new.below) may c.in_ok-number.number c.in_ok-port.port c.in_ok-number.after c.take_asked.result c.take_asked.new.self c.in_ok-port.ensures.asks (c.in_ok-number.ensures.ok c.in_ok-port.port) c.take_asked.ensures.joins

pub returns-clause-lower : goal.returns-clause-lower
returns-clause-lower g c = λ node peer at_i at_j.
    let d = c.args.self.now in
    let b = c.args.below.now in
    let joiner = has_member d c.args.at c.requires.joiner in
    let member = has_member d c.args.peer c.requires.member in
    asked_below_ok d node c.args.fac peer c.args.at c.args.peer joiner.0 member.0 at_i at_j joiner.1 member.1 c.in_ok-ask.ask (c.in_ok-ask.ensures joiner.0 member.0 joiner.1 member.1) (c.ask_below.new.below ≡ b) (AllocatesAsSeen g.F.Facility.seen g.F.Facility.refuses_allocate g.F.Facility.does_allocate b c.ask_below.new.below) (record { number = c.in_ok-number.number; port = c.in_ok-port.port }) c.in_ok-number.after c.take_asked.result c.take_asked.new.self c.in_ok-port.ensures.asks c.take_asked.ensures.joins

pub returns-clause-holds : goal.returns-clause-holds
returns-clause-holds g c = λ lines h.
    let d = c.args.self.now in
    let b = c.args.below.now in
    let below = g.F.Facility.seen b in
    let below' = g.F.Facility.seen c.ask_below.new.below in
    let joiner = has_member d c.args.at c.requires.joiner in
    let member = has_member d c.args.peer c.requires.member in
    let asked = subst (λ (ask : Ask). Allocates (g.F.Facility.refuses_allocate b c.in_ok-ask.ask) below ask (Ok c.in_ok-port.port) below') (c.in_ok-ask.ensures joiner.0 member.0 joiner.1 member.1) c.in_ok-port.ensures.asks.0 in
    asked_holds d lines below below' (g.F.Facility.refuses_allocate b c.in_ok-ask.ask) c.args.fac c.args.at c.args.peer joiner.0 member.0 (record { number = c.in_ok-number.number; port = c.in_ok-port.port }) c.in_ok-number.after c.take_asked.result c.take_asked.new.self
    (g.met.F.Facility.kept b c.requires.valid) (g.met.F.Facility.kept c.ask_below.new.below c.in_ok-port.ensures.valid) c.in_ok-port.ensures.later joiner.1 member.1 asked (c.in_ok-number.ensures.ok c.in_ok-port.port) c.take_asked.ensures.joins h
