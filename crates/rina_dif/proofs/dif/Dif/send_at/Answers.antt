use Rattle.std.proofs.Common.{List, length, subst, sym, ℕ, Option, Some, ◌≡◌, ◌∙◌, ap, refl, slice_get}
use Rattle.std.proofs.lemmas.Result.{err_from_is_err_and}
use Rattle.rina_base.specs.declared.pdu.Pdu.{Pdu}
use Rattle.rina_dif.specs.Sending.{AreOf, HasRoomFor, Puts, queued}
use Rattle.rina_dif.proofs.Sent.{can_put, sends_barred, sends_made, sends_refused}
use Rattle.rina_dif.proofs.Elsewhere.{by_process, flows_none, none_process}
use Rattle.rina_data.specs.Configs.{config_of}
use Rattle.rina_iface.specs.declared.ends.End.{End}
use Rattle.rina_dif.specs.Elsewhere.{ChangesProcess, home_of}
use Rattle.rina_dif.proofs.Freed.{same_end}
use Rattle.rina_dif.proofs.dif.Dif.send_at.Goals as goal

pub returns-in_err-way-clause-does : goal.returns-in_err-way-clause-does
returns-in_err-way-clause-does c =
    let p = err_from_is_err_and c.from_residual.result c.from_residual.ensures.1 in
    rw (p.1, p.2) (sends_barred c.args.self.now c.args.at c.args.sdu.now c.in_err-way.field-0.0 c.in_err-way.ensures.err)

pub returns-in-Err-clause-does : goal.returns-in-Err-clause-does
returns-in-Err-clause-does c = rw c.send_error.ensures (sends_refused c.args.self.now c.args.at c.args.sdu.now c.in_ok-way.way c.in-Err.error c.offer.new.self c.in_ok-way.ensures.ok c.in-Err.ensures.offers)

pub put-requires-clause-cube : goal.put-requires-clause-cube
put-requires-clause-cube c =
    let can = can_put c.args.self.now c.args.at c.args.sdu.now c.in_ok-way.way c.in-Ok.made c.offer.new.self c.requires.valid c.in_ok-way.ensures.ok c.in-Ok.ensures.offers in
    subst (AreOf c.in_ok-way.way.qos) (sym c.into_vec-pdus.ensures) can.cube

pub put-requires-clause-room : goal.put-requires-clause-room
put-requires-clause-room c = λ p is.
    let can = can_put c.args.self.now c.args.at c.args.sdu.now c.in_ok-way.way c.in-Ok.made c.offer.new.self c.requires.valid c.in_ok-way.ensures.ok c.in-Ok.ensures.offers in
    subst (λ (pdus : List Pdu). HasRoomFor c.in_ok-way.way.qos c.in_ok-way.way.link (length pdus) p) (sym c.into_vec-pdus.ensures) (can.room p is)

pub returns-clause-does : goal.returns-clause-does
returns-clause-does c =
    let w = c.in_ok-way.way in
    sends_made c.args.self.now c.args.at c.args.sdu.now w c.in-Ok.made c.offer.new.self c.put.new.self c.in_ok-way.ensures.ok c.in-Ok.ensures.offers (subst (λ (pdus : List Pdu). Puts w.qos w.link (queued w.left c.args.self.now.clock pdus) w.home c.args.self.now.processes c.put.new.self) c.into_vec-pdus.ensures c.put.ensures)

pub returns-in-Err-clause-leaves : goal.returns-in-Err-clause-leaves
returns-in-Err-clause-leaves c = λ end is. (flows_none (λ i. ⊥) c.args.self.now.flows c.offer.new.self (c.in-Err.ensures.offers (config_of c.args.self.now.settings) c.requires.valid.stands.0 c.requires.valid.stands.1.tied).1, none_process (home_of c.args.self.now end.port.node) c.args.self.now.processes c.args.self.now.processes refl)

pub returns-clause-leaves : goal.returns-clause-leaves
returns-clause-leaves c = λ end is.
    let d = c.args.self.now in
    let w = c.in_ok-way.way in
    let ok = c.in_ok-way.ensures.ok in
    let x = c.put.ensures ok.goes.process ok.goes.is_process in
    let at_home : home_of d end.port.node ≡ Some w.home = ap (λ (e : End). home_of d e.port.node) (same_end (slice_get d.flows.journal.ends c.args.at) end ok.end is ok.is_at.end_is) ∙ ok.goes.at_home in
    (c.in-Ok.ensures.leaves, subst (λ (o : Option ℕ). ChangesProcess o d.processes c.put.new.self) (sym at_home) (by_process d.processes c.put.new.self w.home ok.goes.process x.0 ok.goes.is_process x.1.kept x.2))
