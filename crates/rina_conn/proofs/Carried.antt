-- The receiving half of a connection is carried along.
use Rattle.std.proofs.Common.{◌≡◌, true, ltb, List, [], ◌∷◌, length, drop, append_assoc, refl, ◌∙◌, ap, arith}
use Rattle.std.proofs.lemmas.Bool.{lt-ltb}
use Rattle.std.proofs.lemmas.List.{length-append}
use Rattle.rina_dtcp.specs.Plans.{without}
use Rattle.rina_dtp.specs.Joins.{first_number}
use Rattle.rina_dtp.proofs.Lasting.{stands_later, stands_forgotten}
use Rattle.rina_law.specs.Constants.{Constants}
use Rattle.rina_law.specs.Direction.{Direction}
use Rattle.rina_law.specs.Pieces.{Sdu}
use Rattle.rina_conn.specs.Laws.{NewReceives, FetchedReceives, StillReceives, LaterReceives, ForgottenReceives, AcknowledgedReceives, SendingReceives}
use Rattle.rina_conn.specs.Standing.{first_numbers, AreWaiting}
use Rattle.rina_conn.specs.Waiting.{Waits, with_whole}

fetched_waiting : (c : Constants) (d : Direction) (whole : List Sdu) (w : Waits) → AreWaiting c d whole w → AreWaiting c d (drop 1 whole) (with_whole (first_number whole) w)
fetched_waiting c d [] w h = h
fetched_waiting c d (s ∷ ss) w h =
    let all = length-append w.firsts (first_numbers (s ∷ ss)) in
    let same = ap length h.firsts in
    let few = h.few in
    let room = h.room in
    let fits : ltb (length w.firsts) w.room ≡ true = lt-ltb (length w.firsts) w.room (omega arith) in
    rw fits (record { room = h.room; earlier = h.earlier; firsts = append_assoc w.firsts (s.first ∷ []) (first_numbers ss) ∙ h.firsts; within = h.within; few = h.few })

pub fetched_receives : FetchedReceives
fetched_receives c d k st = record {
  cube = st.cube;
  max = st.max;
  rx = (let is = st.rx.of in
      record {
        of = record { cube = is.cube; kind = is.kind; window = is.window; rest = is.rest; largest = is.largest; places = is.places };
        not_closed = st.rx.not_closed;
        made = st.rx.made;
        last_in = st.rx.last_in;
        known = st.rx.known;
        joiner = st.rx.joiner;
        reach = st.rx.reach;
      });
  last = st.last;
  plan = st.plan;
  waiting = fetched_waiting c d k.rx.join.whole k.waiting st.waiting;
}

pub new_receives : NewReceives
new_receives c peer k new =
    let whole = (new.receives.fetched 0).whole in
    record {
      cube = new.cube_is;
      max = (new.sends.stands (record { cube = k.sending.form.cube; piece = k.sending.form.piece; max = c.max; cep = k.sending.form.peer.scep }) (record { cube = refl; piece = refl; cep = refl; max_is = refl })).max;
      rx = new.receives.stands c 0 refl refl;
      last = λ e. refl;
      plan = new.plan_is;
      waiting = rw (whole, new.none_waits) (record { room = refl; earlier = refl; firsts = refl; within = omega arith; few = (let one = (new.receives.stands c 0 refl refl).of.cube.least_window in omega arith) });
    }

pub still_receives : StillReceives
still_receives c d old new still st =
    let sending = still.sending in
    let plan = still.plan in
    let waiting = still.waiting in
    let whole = still.whole in
    record {
      cube = rw sending st.cube;
      max = rw sending st.max;
      rx = still.receiver c d.line.receiver d.inbox.joiner st.rx;
      last = st.last;
      plan = rw plan st.plan;
      waiting = rw (waiting, whole) st.waiting;
    }

pub later_receives : LaterReceives
later_receives c d later k st h = record {
  cube = st.cube;
  max = st.max;
  rx = stands_later c d.line.clock later d.line.receiver d.inbox.joiner k.rx st.rx h;
  last = st.last;
  plan = st.plan;
  waiting = record { room = st.waiting.room; earlier = st.waiting.earlier; firsts = st.waiting.firsts; within = st.waiting.within; few = st.waiting.few };
}

pub forgotten_receives : ForgottenReceives
forgotten_receives c d k st absent = record {
  cube = st.cube;
  max = st.max;
  rx = stands_forgotten c d.line.clock d.line.receiver d.inbox.joiner k.rx st.rx absent;
  last = st.last;
  plan = st.plan;
  waiting = record { room = st.waiting.room; earlier = st.waiting.earlier; firsts = st.waiting.firsts; within = st.waiting.within; few = st.waiting.few };
}

pub acknowledged_receives : AcknowledgedReceives
acknowledged_receives c d k st = record {
  cube = st.cube;
  max = st.max;
  rx = st.rx;
  last = st.last;
  plan = ap without st.plan;
  waiting = record { room = st.waiting.room; earlier = st.waiting.earlier; firsts = st.waiting.firsts; within = st.waiting.within; few = st.waiting.few };
}

pub sending_receives : SendingReceives
sending_receives c d k sending form max st = record {
  cube = rw form st.cube;
  max = max ∙ st.max;
  rx = st.rx;
  last = st.last;
  plan = st.plan;
  waiting = st.waiting;
}
