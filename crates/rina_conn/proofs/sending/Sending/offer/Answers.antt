use Rattle.std.proofs.Common.{refl, ap}
use Rattle.std.proofs.lemmas.Result.{err_from_is_err_and}
use Rattle.rina_dtcp.specs.Senders.{Kept, flag_of}
use Rattle.rina_conn.specs.Carrying.{carry, part_in}
use Rattle.rina_conn.proofs.Offering.{offer_refused, offer_memory, offer_made, pdus_count}
use Rattle.rina_conn.proofs.sending.Sending.offer.Goals as goal

pub returns-in_err-admitted : goal.returns-in_err-admitted
returns-in_err-admitted c =
    let p = err_from_is_err_and c.from_residual.result c.from_residual.ensures.1 in
    rw (p.1, p.2) (offer_refused c.args.now c.args.sdu.now c.args.self.now c.in_err-admitted.field-0.0 c.args.self.now.form.least_piece c.in_err-admitted.ensures.admits)

pub returns-in_err-pdus : goal.returns-in_err-pdus
returns-in_err-pdus c =
    let p = err_from_is_err_and c.from_residual-in_err-pdus.result c.from_residual-in_err-pdus.ensures.1 in
    rw (p.1, p.2) (offer_memory c.args.now c.args.sdu.now c.args.self.now c.args.self.now c.args.self.now.form.least_piece refl)

pub note_all-requires-clause-some : goal.note_all-requires-clause-some
note_all-requires-clause-some c =
    let s = c.args.self.now in
    let count = pdus_count (λ n. flag_of c.args.now n s.tx) (carry s.form.peer s.form.cube.id) c.in_ok-admitted.admitted.first (part_in c.args.sdu.now) c.as_slice.result.now c.in_ok-pdus.pdus c.in_ok-pdus.ensures in
    rw (c.as_slice-2.ensures, count, c.as_slice.ensures.value) c.in_ok-admitted.ensures.parts.some

pub note_all-requires-clause-fits : goal.note_all-requires-clause-fits
note_all-requires-clause-fits c =
    let s = c.args.self.now in
    let count = pdus_count (λ n. flag_of c.args.now n s.tx) (carry s.form.peer s.form.cube.id) c.in_ok-admitted.admitted.first (part_in c.args.sdu.now) c.as_slice.result.now c.in_ok-pdus.pdus c.in_ok-pdus.ensures in
    rw (c.as_slice-2.ensures, count, c.as_slice.ensures.value) c.in_ok-admitted.ensures.fits

pub returns-in_err-note_all : goal.returns-in_err-note_all
returns-in_err-note_all c =
    let s = c.args.self.now in
    let p = err_from_is_err_and c.from_residual-in_err-note_all.result c.from_residual-in_err-note_all.ensures.1 in
    let same = ap (λ (k : Kept). record s { tx = k }) c.in_err-note_all.ensures.err in
    rw (p.1, p.2) (offer_memory c.args.now c.args.sdu.now s (record s { tx = c.note_all.new.self }) s.form.least_piece same)

pub returns : goal.returns
returns c =
    let s = c.args.self.now in
    let a = c.in_ok-admitted.admitted in
    let pdus = rw c.as_slice.ensures.value at c.in_ok-pdus.ensures in
    let notes = rw c.as_slice-2.ensures at c.in_ok-note_all.ensures.ok in
    offer_made c.args.now c.args.sdu.now s a (record { num = record { cep = s.form.peer.scep; seq = c.from.result }; pdus = c.in_ok-pdus.pdus }) c.note_all.new.self s.form.least_piece c.in_ok-admitted.ensures.admits c.in_ok-admitted.ensures.parts.are pdus (rw c.from.ensures refl) notes
