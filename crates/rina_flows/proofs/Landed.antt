-- A piece comes to the flows of a DIF.
use Rattle.std.proofs.Common.{◌≡◌, ℕ, ◌+◌, ◌-◌, ◌^◌, ◌<◌, ◌≤◌, List, [], ◌++◌, length, length-append, ltb, map, min, slice_get, slice_set, Option, Some, Result, Ok, Err, sym, ◌∙◌, ap, subst, arith}
use Rattle.rina_account.specs.declared.ledger.Off.{Off}
use Rattle.rina_base.specs.declared.cause.Cause.{Cause}
use Rattle.rina_base.specs.declared.memory.Memory.{Memory}
use Rattle.rina_base.specs.declared.number.Key.{Key}
use Rattle.rina_base.specs.declared.pdu.Pdu.{Pdu}
use Rattle.rina_conn.specs.declared.conn.Conn.{Conn}
use Rattle.rina_conn.specs.declared.sending.Sending.{Sending}
use Rattle.rina_dif_law.specs.Cloud.{Cloud, Everywhere}
use Rattle.rina_dif_law.specs.Ids.{Ids, IsFrom, flipped}
use Rattle.rina_dif_law.specs.Incoming.{lines_for}
use Rattle.rina_data.proofs.Finding.{there}
use Rattle.rina_dtp.specs.declared.verdict.Verdict.{Verdict}
use Rattle.rina_dtp.specs.Joins.{bytes_of}
use Rattle.rina_dtp.specs.Receiving.{Receiving, drops, kept_numbers}
use Rattle.rina_dtp.specs.Stands.{IsAhead, IsRow, joined_by}
use Rattle.rina_iface.specs.declared.ends.End.{End}
use Rattle.rina_iface.specs.declared.state.PortState.TheVariants.{Allocated}
use Rattle.rina_iface.specs.Journal.{At}
use Rattle.rina_iface.proofs.Changed.{slice_set-same}
use Rattle.rina_law.specs.declared.entry.Entry.{Entry}
use Rattle.rina_law.specs.Constants.{Constants}
use Rattle.rina_law.specs.Direction.{Direction, has_room}
use Rattle.rina_law.specs.Pdus.{piece_in}
use Rattle.rina_law.specs.Receiver.{is_present}
use Rattle.rina_flows.specs.Arriving.{IsComing, IsDrained, cause_of, entry_from, with_delivered}
use Rattle.rina_flows.specs.Delivering.{ArrivesIn, IsLanding, Lands, Receives}
use Rattle.rina_flows.specs.Rows.{ArrivesAt}
use Rattle.rina_flows.specs.Tied.{IsAt, IsReceiving, IsTied, conns_of, ids_by, ids_of, inward}
use Rattle.rina_flows.proofs.ArrivesAt.{arrives_at, is_coming, the_flow}
use Rattle.rina_flows.proofs.Coming.{inbound_of, room_is}
use Rattle.rina_flows.proofs.Framed.{ids_at, put_back, same_ids}
use Rattle.rina_flows.proofs.Offered.{flows_of, flows_same}
use Rattle.rina_flows.proofs.Waiting.{counted, few_wait}
use Rattle.rina_flows.proofs.Received.{received}
use Rattle.rina_flows.proofs.Receives.{came_heard}
use Rattle.rina_flows.proofs.Welcome.{verdict_is, welcome}

pub landed : (now : ℕ) (pdu : Pdu) (unpassed : ℕ) (bodies : List (List ℕ)) (got found : List Entry) (lines ready : List Off) (got_room lines_room wider kept : ℕ) (verdict : Verdict) (old seen new : Conn) (got' noted : List Entry) (between lines' : List Off) (cause : Option Cause) → found ≡ got → ready ≡ lines → Receives now pdu unpassed old bodies found got_room ready lines_room verdict new got' between → length got + length bodies ≤ got_room → length lines + (kept + 1) ≤ lines_room → kept ≡ length (kept_numbers seen.rx) → seen ≡ old → cause ≡ cause_of verdict → noted ≡ got' → lines_room ≤ wider → (length between + 1 ≤ wider → lines' ≡ between ++ lines_for pdu cause) → Lands now pdu unpassed bodies got lines cause noted lines' old new
landed now pdu unpassed bodies got found lines ready got_room lines_room wider kept verdict old seen new got' noted between lines' cause a b r fits_got fits_lines count same why noted_is wide own =
    let R : List Entry → List Entry → List Off → Type 0 = λ x y z. Receives now pdu unpassed old bodies x got_room z lines_room verdict new y between in
    let count' : kept ≡ length (kept_numbers old.rx) = count ∙ ap (λ (k : Conn). length (kept_numbers k.rx)) same in
    record {
      verdict = verdict;
      got_room = got_room;
      lines_room = lines_room;
      between = between;
      receives = subst (λ (y : List Entry). R got y lines) (sym noted_is) (subst (λ (z : List Off). R got got' z) b (subst (λ (x : List Entry). R x got' ready) a r));
      fits_got = fits_got;
      fits_lines = omega arith;
      cause_is = why;
      own = λ fits. own (omega arith);
    }

-- the bytes that were told ahead are those of the SDUs that became whole
ahead_now : (c : Constants) (ids : Ids) (line : Direction) (pdu : Pdu) (unpassed : ℕ) (first heard : Conn) (ready : Receiving) (before : List (Key × Cause)) (result : Verdict) (bodies : List (List ℕ)) → IsComing c ids line pdu → ltb unpassed c.cube.window ≡ has_room c line → IsReceiving c line.line.clock ids first line → IsDrained line.line.clock first.rx before ready → drops line.line.clock ready ≡ [] → IsRow line.line.clock pdu unpassed ready result heard.rx → IsAhead line.line.clock pdu unpassed first.rx bodies → bodies ≡ bytes_of heard.rx.join.whole
ahead_now c ids line pdu unpassed first heard ready before result bodies coming room receives drained none row ahead =
    let came = came_heard c ids line pdu unpassed coming room first (record first { rx = ready }) before receives drained none result heard row in
    let told = ahead c line.line.receiver line.inbox.joiner receives.stands receives.forward (welcome c ids line pdu unpassed coming room) in
    told ∙ ap (λ v. bytes_of (joined_by c (is_present c line.line.clock line.line.receiver) line.line.receiver line.inbox.joiner v (piece_in pdu)).whole) (verdict_is c line (piece_in pdu) unpassed room) ∙ ap bytes_of (sym came.whole)

ahead_at : (c : Constants) (ids : Ids) (now : ℕ) (line : Direction) (pdu : Pdu) (unpassed : ℕ) (first heard : Conn) (ready : Receiving) (before : List (Key × Cause)) (result : Verdict) (bodies : List (List ℕ)) → line.line.clock ≡ now → IsComing c ids line pdu → ltb unpassed c.cube.window ≡ has_room c line → IsReceiving c now ids first line → IsDrained now first.rx before ready → drops now ready ≡ [] → IsRow now pdu unpassed ready result heard.rx → IsAhead now pdu unpassed first.rx bodies → bodies ≡ bytes_of heard.rx.join.whole
ahead_at c ids now line pdu unpassed first heard ready before result bodies clock coming room =
    let A : ℕ → Type 0 = λ t. IsReceiving c t ids first line → IsDrained t first.rx before ready → drops t ready ≡ [] → IsRow t pdu unpassed ready result heard.rx → IsAhead t pdu unpassed first.rx bodies → bodies ≡ bytes_of heard.rx.join.whole in
    subst A clock (λ receives drained none row ahead. ahead_now c ids line pdu unpassed first heard ready before result bodies coming room receives drained none row ahead)

-- the end with what was taken out put back
got_back : (at : ℕ) (ends mid ends' : List End) (end : End) (got' : List Entry) → At ends at end → ((e : End) → slice_get ends at ≡ Some e → mid ≡ slice_set ends at (record e { got = [] })) → ((e : End) → slice_get mid at ≡ Some e → ends' ≡ slice_set mid at (record e { got = got' })) → ends' ≡ slice_set ends at (record end { got = got' })
got_back at ends mid ends' end got' is out back = put_back ends mid ends' at end (record end { got = [] }) (record end { got = got' }) is (out end is) (λ e h same. back e h ∙ ap (λ (x : End). slice_set mid at (record x { got = got' })) same)

pub same_at : {X : Type 0} → (o : Option X) (a b : X) → o ≡ Some a → o ≡ Some b → a ≡ b
same_at o a b h g = cc

pub arrives_from : (now at : ℕ) (pdu : Pdu) (ends mid ends' : List End) (conns conns' : List Conn) (ledger ledger' : List Off) (unpassed : ℕ) (bodies : List (List ℕ)) (seen : Conn) (got got' : List Entry) (lines lines' : List Off) (result : Result (Option Cause) Memory) → at < length ends → at < length conns → ((e : End) → slice_get ends at ≡ Some e → unpassed ≡ min (length e.got - e.taken) (2 ^ 32 - 1)) → slice_get conns at ≡ Some seen → IsAhead now pdu unpassed seen.rx bodies → ((e : End) → slice_get ends at ≡ Some e → got ≡ e.got) → ((e : End) → slice_get ends at ≡ Some e → mid ≡ slice_set ends at (record e { got = [] })) → lines ≡ ledger → IsLanding now pdu unpassed at bodies conns got lines result conns' got' lines' → ((e : End) → slice_get mid at ≡ Some e → ends' ≡ slice_set mid at (record e { got = got' })) → ledger' ≡ lines' → ArrivesIn now at pdu (flows_of ends conns) ledger result (flows_of ends' conns') ledger'
arrives_from now at pdu ends mid ends' conns conns' ledger ledger' unpassed bodies seen got got' lines lines' (Err e) lt lt' count here ahead got_is out lines_is landing back put =
    let e = there ends at lt in
    let ends_are : ends' ≡ ends = got_back at ends mid ends' e.0 got' e.1 out back ∙ ap (λ (xs : List Entry). slice_set ends at (record e.0 { got = xs })) (landing.1 ∙ got_is e.0 e.1) ∙ slice_set-same ends at e.0 e.1 in
    (flows_same ends ends' conns conns' ends_are landing.0, put ∙ landing.2 ∙ lines_is)
arrives_from now at pdu ends mid ends' conns conns' ledger ledger' unpassed bodies seen got got' lines lines' (Ok cause) lt lt' count here ahead got_is out lines_is landing back put = λ g ls processes below S C.
    let cloud : ℕ → Pdu → Type 0 = Cloud Everywhere g processes below in
    let e = there ends at lt in
    let end : End = e.0 in
    let ids : Ids = ids_of seen in
    let end_is : C.end ≡ end = same_at (slice_get ends at) C.end end C.taker.is_conn.end e.1 in
    let ids_are : C.its_ids ≡ ids = same_at (slice_get (conns_of conns) at) C.its_ids ids C.taker.is_conn.ids_are (ids_at conns at seen here) in
    let allocated : end.state ≡ Allocated = ap (λ (x : End). x.state) (sym end_is) ∙ C.taker.allocated in
    let names : IsFrom (flipped ids) pdu = subst (λ (i : Ids). IsFrom (flipped i) pdu) ids_are C.taker.names in
    let is_at : IsAt ends conns at end seen = record { end_is = e.1; conn_is = here } in
    let b = landing seen here in
    let new : Conn = b.0 in
    let L = b.1 in
    let inb = inbound_of g now cloud S.held ends (conns_of conns) ls at end S.journal S.own e.1 allocated in
    let from : ℕ = inb.0 in
    let line : Direction = inb.1 in
    let coming = is_coming g now cloud S.held ends conns ls S.config S.journal S.own S.tied at end seen is_at allocated pdu C.death from line names C.piece C.here C.alive inb.2 in
    let receiving = S.tied.receives at from end seen line is_at allocated inb.2 in
    let flow = the_flow g now cloud S.held ends conns ls S.config S.journal S.own S.tied at end seen is_at allocated from line inb.2 in
    let few = few_wait (inward g seen) line seen.waiting receiving.waiting receiving.early in
    let all : unpassed ≡ length end.got - end.taken = (let a = flow.passed in let b = ap (λ (es : List Entry). length es) flow.got in let w = coming.limits.window in counted unpassed (length end.got - end.taken) (2 ^ 32 - 1) (omega arith) (count end e.1)) in
    let room = ap (λ n. ltb n seen.sending.form.cube.window) all in
    let room' = room ∙ room_is g now cloud end ids seen.sending.form.cube line flow in
    let bodies_are : bodies ≡ bytes_of L.receives.heard.rx.join.whole = ahead_at (inward g seen) ids now line pdu unpassed seen L.receives.heard L.receives.ready L.receives.before.taken L.verdict bodies flow.backed.clock coming room' receiving L.receives.before.drained L.receives.before.none L.receives.row ahead in
    let R = received now pdu unpassed seen bodies got L.got_room lines L.lines_room L.verdict new got' L.between L.receives bodies_are in
    let X = arrives_at g now cloud S.held ends conns ls S.config S.journal S.own S.tied at end seen is_at allocated pdu C.death unpassed L.verdict R.offs R.whole new names C.piece C.here C.alive all R.arrival in
    let most : length R.offs ≤ length (kept_numbers seen.rx) = X.count in
    let fits = L.fits_lines in
    let between_is : L.between ≡ lines ++ R.offs = R.lines_are (omega arith) in
    let between_count : length L.between ≡ length lines + length R.offs = ap (λ (xs : List Off). length xs) between_is ∙ length-append lines R.offs in
    let lines_are : lines' ≡ ledger ++ R.offs ++ lines_for pdu cause = L.own (omega arith) ∙ ap (λ (xs : List Off). xs ++ lines_for pdu cause) (between_is ∙ ap (λ (xs : List Off). xs ++ R.offs) lines_is) in
    let whole_count : length bodies ≡ length R.whole = R.count in
    let fits_got = L.fits_got in
    let got_are : got' ≡ end.got ++ map (entry_from ids now) R.whole = R.got_is (omega arith) ∙ ap (λ (xs : List Entry). xs ++ map (entry_from ids now) R.whole) (got_is end e.1) in
    let ends_are : ends' ≡ slice_set ends at (with_delivered ids now R.whole end) = got_back at ends mid ends' end got' e.1 out back ∙ ap (λ (xs : List Entry). slice_set ends at (record end { got = xs })) got_are in
    let A : Option Cause → List End → Type 0 = λ why xs. ArrivesAt g ends (conns_of conns) ls at pdu why R.offs xs X.lines' in
    let T : List End → List Conn → Type 0 = λ xs ks. IsTied g now xs ks X.lines' in
    record {
      lines' = X.lines';
      offs = R.offs;
      arrives = subst (A cause) (sym ends_are) (subst (λ (why : Option Cause). A why (slice_set ends at (with_delivered ids now R.whole end))) (sym L.cause_is) X.arrives);
      ledger_is = put ∙ lines_are;
      tied = subst (T ends') (sym b.2) (subst (λ (xs : List End). T xs (slice_set conns at new)) (sym ends_are) X.tied);
      ids = ap conns_of b.2 ∙ same_ids conns at seen new here (ap (λ (s : Sending). ids_by s.form.peer s.form.cube.id) R.arrival.sending);
    }
