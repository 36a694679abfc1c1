use Rattle.std.proofs.Common.{◌∙◌, List, ap, length, map, subst, sym}
use Rattle.std.proofs.lemmas.Option.{slice_get_within}
use Rattle.std.proofs.lemmas.Result.{err_from_is_err_and}
use Rattle.rina_base.specs.declared.pdu.Pdu.{Pdu}
use Rattle.rina_channel.specs.Names.{unnamed}
use Rattle.rina_dif.specs.Sending.{AreOf, HasRoomFor, Puts, queued}
use Rattle.rina_dif.proofs.Elsewhere.{by_process}
use Rattle.rina_dif.proofs.Offered.{can_put, offers_done}
use Rattle.rina_dif.proofs.Undue.{offers_err, refused, unchanged}
use Rattle.rina_dif.proofs.dif.Dif.offer_sdu.Goals as goal

pub returns-in_err-unless_memory-in-Err-clause-does : goal.returns-in_err-unless_memory-in-Err-clause-does
returns-in_err-unless_memory-in-Err-clause-does c = λ lines below h open_end.
    let err = err_from_is_err_and c.from_residual.result c.from_residual.ensures.1 in
    offers_err c.args.self.now lines below c.args.at c.args.number c.from_residual.result err.0 _ err.1 (unchanged c.args.self.now c.args.place c.args.sdu.now c.in-Err.error c.offer.new.self below h.connected c.in-Err.ensures.offers)

pub returns-in-Err-clause-does : goal.returns-in-Err-clause-does
returns-in-Err-clause-does c = λ lines below h open_end. (
  refused c.args.self.now below c.args.at c.args.place c.args.number c.args.sdu.now c.in-Err.error c.offer.new.self c.requires.ready open_end c.in-Err.ensures.offers c.in_ok-unless_memory-in-Err.ensures,
  unchanged c.args.self.now c.args.place c.args.sdu.now c.in-Err.error c.offer.new.self below h.connected c.in-Err.ensures.offers,
)

pub put-requires-clause-at : goal.put-requires-clause-at
put-requires-clause-at c = slice_get_within c.args.self.now.processes c.args.at c.requires.ready.process c.requires.ready.is_process

pub put-requires-clause-cube : goal.put-requires-clause-cube
put-requires-clause-cube c =
    let st = c.requires.stands in
    let pdus = c.unnamed-pdus.ensures ∙ ap (map unnamed) c.into_vec.ensures in
    subst (AreOf 0) (sym pdus) (can_put c.args.self.now c.args.at c.args.place c.args.number c.args.sdu.now c.in-Ok.made c.offer.new.self c.at.result.now c.requires.ready c.at.ensures c.in-Ok.ensures.offers st.0 st.1.1.connected).0

pub put-requires-clause-room : goal.put-requires-clause-room
put-requires-clause-room c =
    let st = c.requires.stands in
    let pdus = c.unnamed-pdus.ensures ∙ ap (map unnamed) c.into_vec.ensures in
    λ p is. subst (λ (xs : List Pdu). HasRoomFor 0 c.args.number (length xs) p) (sym pdus) ((can_put c.args.self.now c.args.at c.args.place c.args.number c.args.sdu.now c.in-Ok.made c.offer.new.self c.at.result.now c.requires.ready c.at.ensures c.in-Ok.ensures.offers st.0 st.1.1.connected).1 p is)

pub sent-requires : goal.sent-requires
sent-requires c = slice_get_within c.args.self.now.managements c.args.at c.requires.ready.first.management c.requires.ready.first.is_management

pub returns-clause-does : goal.returns-clause-does
returns-clause-does c =
    let pdus = c.unnamed-pdus.ensures ∙ ap (map unnamed) c.into_vec.ensures in
    let left = c.at.result.now.sending.form.cube.mpl in
    let puts = subst (λ (xs : List Pdu). Puts 0 c.args.number (queued left c.args.self.now.clock xs) c.args.at c.args.self.now.processes c.put.new.self) pdus c.put.ensures in
    offers_done c.args.self.now c.args.at c.args.place c.args.number c.args.sdu.now c.at.result.now c.in-Ok.made c.offer.new.self c.put.new.self c.sent.new.self c.requires.tell c.requires.ready c.at.ensures c.in-Ok.ensures.offers puts c.sent.ensures

pub returns-clause-leaves : goal.returns-clause-leaves
returns-clause-leaves c =
    let r = c.requires.ready in
    let x = c.put.ensures r.process r.is_process in
    by_process c.args.self.now.processes c.put.new.self c.args.at r.process x.0 r.is_process x.1.kept x.2
