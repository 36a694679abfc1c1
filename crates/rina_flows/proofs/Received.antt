-- A connection that receives a piece: its steps, and what they come to.
use Rattle.std.proofs.Common.{◌≡◌, ℕ, ◌+◌, ◌≤◌, List, [], ◌++◌, length, length-append, append_assoc, map, refl, sym, ◌∙◌, ap, subst, arith}
use Rattle.std.proofs.lemmas.List.{length-map}
use Rattle.rina_account.specs.declared.ledger.Off.{Off}
use Rattle.rina_base.specs.declared.pdu.Pdu.{Pdu}
use Rattle.rina_conn.specs.declared.conn.Conn.{Conn}
use Rattle.rina_conn.specs.declared.sending.Sending.{Sending}
use Rattle.rina_dtp.specs.declared.verdict.Verdict.{Verdict}
use Rattle.rina_dtp.specs.Joins.{bytes_of}
use Rattle.rina_dtp.specs.Receiving.{Receiving, drops}
use Rattle.rina_law.specs.declared.entry.Entry.{Entry}
use Rattle.rina_law.specs.Pieces.{Sdu}
use Rattle.rina_flows.specs.Arriving.{IsArrival, IsDrained, delivered, entry_from, offs_of}
use Rattle.rina_flows.specs.Delivering.{Receives, WritesOff}
use Rattle.rina_flows.specs.Tied.{ids_by, ids_of}
use Rattle.rina_flows.proofs.Given.{offs_of-append, offs_of-length}

-- the room stays where the lines had more of it
pub wide_enough : (now : ℕ) (old : Receiving) (lines : List Off) (room wider : ℕ) (new : Receiving) (lines' : List Off) → room ≤ wider → WritesOff now old lines wider new lines' → WritesOff now old lines room new lines'
wide_enough now old lines room wider new lines' le w = record { taken = w.taken; drained = w.drained; none = w.none; noted = λ fits. w.noted (omega arith) }

-- once the bytes are those of the SDUs that became whole, it is an arrival, and all is noted where there was room
pub record HasReceived (now : ℕ) (pdu : Pdu) (unpassed : ℕ) (old : Conn) (bodies : List (List ℕ)) (got : List Entry) (got_room : ℕ) (lines : List Off) (lines_room : ℕ) (result : Verdict) (new : Conn) (got' : List Entry) (lines' : List Off) : Type 0 where
  pub offs : List Off
  pub whole : List Sdu
  pub count : length bodies ≡ length whole
  pub arrival : IsArrival now pdu unpassed old result offs whole new
  pub got_is : length got + length whole ≤ got_room → got' ≡ got ++ map (entry_from (ids_of old) now) whole
  pub lines_are : length lines + length offs ≤ lines_room → lines' ≡ lines ++ offs

pub received : (now : ℕ) (pdu : Pdu) (unpassed : ℕ) (old : Conn) (bodies : List (List ℕ)) (got : List Entry) (got_room : ℕ) (lines : List Off) (lines_room : ℕ) (result : Verdict) (new : Conn) (got' : List Entry) (lines' : List Off) → (r : Receives now pdu unpassed old bodies got got_room lines lines_room result new got' lines') → bodies ≡ bytes_of r.heard.rx.join.whole → HasReceived now pdu unpassed old bodies got got_room lines lines_room result new got' lines'
received now pdu unpassed old bodies got got_room lines lines_room result new got' lines' r bodies_are =
    let d = r.delivers bodies_are in
    let on : r.passed_on.rx ≡ delivered r.heard.rx = ap (λ (k : Conn). k.rx) d.conn in
    let given : IsDrained now (delivered r.heard.rx) r.after.taken r.last = subst (λ (x : Receiving). IsDrained now x r.after.taken r.last) on r.after.drained in
    let last_is : new.rx ≡ r.last = ap (λ (k : Conn). k.rx) r.new_is in
    let all : offs_of (r.before.taken ++ r.after.taken) ≡ offs_of r.before.taken ++ offs_of r.after.taken = offs_of-append r.before.taken r.after.taken in
    record {
      offs = offs_of (r.before.taken ++ r.after.taken);
      whole = r.heard.rx.join.whole;
      count = ap (λ (xs : List (List ℕ)). length xs) bodies_are ∙ length-map r.heard.rx.join.whole (λ (w : Sdu). w.bytes);
      arrival = record {
        ready = record old { rx = r.ready };
        before = r.before.taken;
        drained = r.before.drained;
        none_before = r.before.none;
        plan_before = refl;
        waiting_before = refl;
        sending_before = refl;
        heard = r.heard;
        row = r.row;
        marks = r.marks;
        hears = r.hears;
        whole_are = refl;
        after = r.after.taken;
        given = subst (λ (x : Receiving). IsDrained now (delivered r.heard.rx) r.after.taken x) (sym last_is) given;
        none_after = subst (λ (x : Receiving). drops now x ≡ []) (sym last_is) r.after.none;
        plan_after = ap (λ (k : Conn). k.plan) r.new_is ∙ ap (λ (k : Conn). k.plan) d.conn;
        waiting_after = ap (λ (k : Conn). k.waiting) r.new_is ∙ ap (λ (k : Conn). k.waiting) d.conn;
        offs_are = refl;
        sending = ap (λ (k : Conn). k.sending) r.new_is ∙ ap (λ (k : Conn). k.sending) d.conn ∙ r.sending;
      };
      got_is = λ fits. d.noted fits ∙ got_by r.heard r.sending;
      lines_are = λ fits.
          let count : length (offs_of (r.before.taken ++ r.after.taken)) ≡ length r.before.taken + length r.after.taken = offs_of-length (r.before.taken ++ r.after.taken) ∙ length-append r.before.taken r.after.taken in
          let first : r.between ≡ lines ++ offs_of r.before.taken = r.before.noted (omega arith) in
          let between : length r.between ≡ length lines + length r.before.taken = ap (λ (xs : List Off). length xs) first ∙ length-append lines (offs_of r.before.taken) ∙ ap (λ n. length lines + n) (offs_of-length r.before.taken) in
          r.after.noted (omega arith) ∙ ap (λ (xs : List Off). xs ++ offs_of r.after.taken) first ∙ append_assoc lines (offs_of r.before.taken) (offs_of r.after.taken) ∙ ap (λ (xs : List Off). lines ++ xs) (sym all);
    }
  where
    got_by : (k : Conn) → k.sending ≡ old.sending → got ++ map (entry_from (ids_of k) now) r.heard.rx.join.whole ≡ got ++ map (entry_from (ids_of old) now) r.heard.rx.join.whole
    got_by k e = ap (λ (s : Sending). got ++ map (entry_from (ids_by s.form.peer s.form.cube.id) now) r.heard.rx.join.whole) e
