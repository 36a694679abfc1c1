use Rattle.std.proofs.Common.{◌≡◌, ap, refl}
use Rattle.std.proofs.lemmas.Result.{err_from_is_err_and}
use Rattle.rina_iface.specs.Free.{FreesAsSeen}
use Rattle.rina_dif.specs.declared.dif.Dif.{Dif}
use Rattle.rina_dif.proofs.Clocked.{same_links}
use Rattle.rina_dif.proofs.FlowIds.{tells_flow}
use Rattle.rina_dif.proofs.GivenUp.{frees_below_err, frees_none}
use Rattle.rina_dif.proofs.KeptAsks.{flow_keeps, none_keeps, told_keeps}
use Rattle.rina_dif.proofs.MessageSteps.{told_none_idle}
use Rattle.rina_dif.proofs.Serving.{ask_serves, flow_serves, link_manages, link_serves, link_serves_none}
use Rattle.rina_dif.proofs.dif.Dif.serve_next.Goals as goal

pub returns-in_ok-serve_link-in-Some-first_link-clause-does : goal.returns-in_ok-serve_link-in-Some-first_link-clause-does
returns-in_ok-serve_link-in-Some-first_link-clause-does g c = λ lines h.
    let below = g.F.Facility.seen c.args.below.now in
    link_serves c.args.self.now lines below (g.F.Facility.seen c.serve_link.new.below) c.args.at c.args.node c.in-Some-first_link.next c.in_ok-serve_link-in-Some-first_link.field-0 c.serve_link.new.self c.requires.home c.in_ok-serve_link-in-Some-first_link.ensures.whole (λ links. c.in-Some-first_link.ensures.first lines below h links) (λ links. c.in_default.ensures lines below h links) (c.in_ok-serve_link-in-Some-first_link.ensures.does lines h)

pub returns-in_ok-serve_link-in-Some-first_link-clause-idle : goal.returns-in_ok-serve_link-in-Some-first_link-clause-idle
returns-in_ok-serve_link-in-Some-first_link-clause-idle g c =
    let st = c.requires.stands in
    told_none_idle c.in_ok-serve_link-in-Some-first_link.field-0 c.in-Some-first_link.next.item (c.serve_link.new.self ≡ c.args.self.now) ((c.in_ok-serve_link-in-Some-first_link.ensures.does st.0 st.1).0 st.1.connected).0

pub returns-in_ok-serve_link-in-Some-first_link-clause-manages : goal.returns-in_ok-serve_link-in-Some-first_link-clause-manages
returns-in_ok-serve_link-in-Some-first_link-clause-manages g c =
    let st = c.requires.stands in
    link_manages c.args.self.now (g.F.Facility.seen c.args.below.now) (g.F.Facility.seen c.serve_link.new.below) st.0 c.args.at c.args.node c.in-Some-first_link.next c.in_ok-serve_link-in-Some-first_link.field-0 c.serve_link.new.self st.1 c.in_ok-serve_link-in-Some-first_link.ensures.whole (c.in_ok-serve_link-in-Some-first_link.ensures.does st.0 st.1)

pub returns-in_err-serve_link-in-Some-first_link-clause-does : goal.returns-in_err-serve_link-in-Some-first_link-clause-does
returns-in_err-serve_link-in-Some-first_link-clause-does g c = λ lines h.
    let err = err_from_is_err_and c.from_residual.result c.from_residual.ensures.1 in
    let s = c.in_err-serve_link-in-Some-first_link.ensures.does lines h in
    link_serves_none c.args.self.now lines (g.F.Facility.seen c.args.below.now) (g.F.Facility.seen c.serve_link.new.below) c.args.node c.from_residual.result err.0 c.serve_link.new.self err.2 err.1 (s.1, s.2) s.3

pub returns-in-None-clause-does : goal.returns-in-None-clause-does
returns-in-None-clause-does g c = λ lines h.
    let below = g.F.Facility.seen c.args.below.now in
    flow_serves c.args.self.now lines below c.args.at c.args.node c.do_next.result c.do_next.new.self c.requires.home (same_links c.args.self.now c.do_next.new.self c.do_next.ensures.whole) (λ links. c.in-None.ensures.first lines below h links) (λ links. c.in_default.ensures lines below h links) h.connected (c.do_next.ensures.does lines below h)

pub returns-in_ok-serve_link-in-Some-first_link-clause-lower : goal.returns-in_ok-serve_link-in-Some-first_link-clause-lower
returns-in_ok-serve_link-in-Some-first_link-clause-lower g c = c.in_ok-serve_link-in-Some-first_link.ensures.lower

pub returns-in_err-serve_link-in-Some-first_link-clause-lower : goal.returns-in_err-serve_link-in-Some-first_link-clause-lower
returns-in_err-serve_link-in-Some-first_link-clause-lower g c =
    let err = err_from_is_err_and c.from_residual.result c.from_residual.ensures.1 in
    frees_below_err (c.serve_link.new.below ≡ c.args.below.now) (FreesAsSeen g.F.Facility.seen g.F.Facility.frees_both g.F.Facility.does_free c.args.below.now c.serve_link.new.below) c.from_residual.result err.0 err.2 err.1 c.in_err-serve_link-in-Some-first_link.ensures.lower

pub returns-in-None-clause-lower : goal.returns-in-None-clause-lower
returns-in-None-clause-lower g c = frees_none (c.args.below.now ≡ c.args.below.now) (FreesAsSeen g.F.Facility.seen g.F.Facility.frees_both g.F.Facility.does_free c.args.below.now c.args.below.now) c.do_next.result (let st = c.requires.stands in tells_flow c.args.self.now st.0 (g.F.Facility.seen c.args.below.now) c.args.node c.do_next.result c.do_next.new.self st.1 (c.do_next.ensures.does st.0 (g.F.Facility.seen c.args.below.now) st.1)) refl

pub time_out-port-requires-clause-first : goal.time_out-port-requires-clause-first
time_out-port-requires-clause-first g c = (let st = c.requires.stands in (c.in-Some.ensures st.0 (g.F.Facility.seen c.args.below.now) st.1 st.1.connected).0)

pub returns-in-Some-clause-does : goal.returns-in-Some-clause-does
returns-in-Some-clause-does g c = λ lines h.
    let below = g.F.Facility.seen c.args.below.now in
    let t = c.time_out-port.ensures.does lines below h in
    ask_serves c.args.self.now lines below c.args.at c.args.node c.time_out-port.result c.time_out-port.new.self c.requires.home c.time_out-port.ensures.whole (λ links. (c.in-Some.ensures lines below h links).1) t.0 t.1

pub returns-in_ok-serve_link-in-Some-first_link-clause-keeps : goal.returns-in_ok-serve_link-in-Some-first_link-clause-keeps
returns-in_ok-serve_link-in-Some-first_link-clause-keeps g c =
    let st = c.requires.stands in
    told_keeps c.in_ok-serve_link-in-Some-first_link.field-0 c.in-Some-first_link.next.item c.args.self.now c.args.node c.serve_link.new.self ((c.in_ok-serve_link-in-Some-first_link.ensures.does st.0 st.1).0 st.1.connected).0 (ap (λ (z : Dif). z.asks) c.in_ok-serve_link-in-Some-first_link.ensures.whole)

pub returns-in_err-serve_link-in-Some-first_link-clause-keeps : goal.returns-in_err-serve_link-in-Some-first_link-clause-keeps
returns-in_err-serve_link-in-Some-first_link-clause-keeps g c =
    let err = err_from_is_err_and c.from_residual.result c.from_residual.ensures.1 in
    none_keeps c.args.self.now c.args.node c.from_residual.result err.0 c.serve_link.new.self err.2 err.1 (ap (λ (z : Dif). z.asks) c.in_err-serve_link-in-Some-first_link.ensures.whole)

pub returns-in-None-clause-keeps : goal.returns-in-None-clause-keeps
returns-in-None-clause-keeps g c =
    let st = c.requires.stands in
    let below = g.F.Facility.seen c.args.below.now in
    flow_keeps c.args.self.now st.0 below c.args.node c.do_next.result c.do_next.new.self (c.do_next.ensures.does st.0 below st.1) (ap (λ (z : Dif). z.asks) c.do_next.ensures.whole)

pub returns-in-Some-clause-keeps : goal.returns-in-Some-clause-keeps
returns-in-Some-clause-keeps g c =
    let st = c.requires.stands in
    (c.time_out-port.ensures.does st.0 (g.F.Facility.seen c.args.below.now) st.1).0
