-- The receiving half of a connection follows the machine when a piece comes.
use Rattle.std.proofs.Common.{◌≡◌, ℕ, zero, suc, ◌+◌, ◌-◌, ◌<◌, ◌≤◌, max, Bool, true, false, cond, not, ◌&&◌, ltb, List, [], ◌∷◌, ◌++◌, length, map, drop, append-nil, refl, sym, ◌∙◌, ap, subst, arith}
use Rattle.std.proofs.lemmas.Bool.{and_parts, false≢true, eqb-true, ltb-true}
use Rattle.std.proofs.lemmas.List.{map-append, length-map, length-drop, length-append, drop-append-le, drop_all}
use Rattle.rina_base.specs.declared.pdu.Pdu.{Pdu}
use Rattle.rina_cube.specs.declared.Kind.{Kind}
use Rattle.rina_cube.specs.declared.Kind.TheVariants as kinds
use Rattle.rina_dtp.specs.declared.accepted.Accepted as kept
use Rattle.rina_dtp.specs.declared.accepted.Accepted.TheVariants as accepted
use Rattle.rina_dtp.specs.declared.verdict.Verdict as verdicts
use Rattle.rina_dtp.specs.Accepted.{kind_of}
use Rattle.rina_dtp.specs.Lost.{told, told_accepted}
use Rattle.rina_dtp.specs.Observed.{TellsPresence}
use Rattle.rina_dtp.specs.Stands.{HasPlacesFor, Knows, IsFetched, IsWelcome, IsRow, verdict_of}
use Rattle.rina_law.specs.declared.entry.Entry.{Entry}
use Rattle.rina_law.specs.Constants.{Constants}
use Rattle.rina_law.specs.Direction.{Direction, has_room, entry_for, after_arrival}
use Rattle.rina_law.specs.Line.{arrival_verdict}
use Rattle.rina_law.specs.Lists.{has, highest}
use Rattle.rina_law.specs.Pdus.{piece_in}
use Rattle.rina_law.specs.Pieces.{Part, Joiner, empty_joiner, with_part, Sdu, Joined, finished, joined_with}
use Rattle.rina_law.specs.Receiver.{Piece, Receiver, Verdict, Accepted, Held, Duplicate, Behind, NoState, NoRoom, is_present, next_of, numbers, part_in, with_room, absent_verdict, verdict, receiver_after, joined_held, joined_after}
use Rattle.rina_conn.specs.declared.conn.Conn.{Conn}
use Rattle.rina_conn.specs.declared.sending.Sending.{Sending}
use Rattle.rina_conn.specs.Conns.{HasNoLast, Marks, is_accepted, waits_after}
use Rattle.rina_conn.specs.Standing.{open_numbers, first_numbers, AreWaiting, IsReceiver, Arrives}
use Rattle.rina_conn.specs.Waiting.{Waits, begun}

-- A receiver that never had state had no last piece

made_stays : (kind : Kind) (now : ℕ) (p : Piece) (v : Verdict) (m : Receiver) → m.made ≡ true → HasNoLast (receiver_after v kind true now p m)
made_stays kind now p Accepted m h e = absurd (false≢true (sym e))
made_stays kind now p Held m h e = cc
made_stays kind now p Duplicate m h e = cc
made_stays kind now p Behind m h e = cc
made_stays kind now p NoState m h e = cc
made_stays kind now p NoRoom m h e = cc

absent_stays : (kind : Kind) (drf room : Bool) (now : ℕ) (p : Piece) (m : Receiver) → HasNoLast m → HasNoLast (receiver_after (with_room room (absent_verdict kind drf)) kind false now p m)
absent_stays kinds.Datagram drf true now p m h e = absurd (false≢true (sym e))
absent_stays kinds.Datagram drf false now p m h e = h e
absent_stays kinds.Loose drf true now p m h e = absurd (false≢true (sym e))
absent_stays kinds.Loose drf false now p m h e = h e
absent_stays kinds.Reliable true true now p m h e = absurd (false≢true (sym e))
absent_stays kinds.Reliable true false now p m h e = h e
absent_stays kinds.Reliable false true now p m h e = h e
absent_stays kinds.Reliable false false now p m h e = h e

no_last_after : (c : Constants) (now : ℕ) (b room : Bool) (p : Piece) (m : Receiver) → is_present c now m ≡ b → HasNoLast m → HasNoLast (receiver_after (verdict c.cube.kind b m p room) c.cube.kind b now p m)
no_last_after c now true room p m e h = made_stays c.cube.kind now p _ m (and_parts m.made _ e).0
no_last_after c now false room p m e h = absent_stays c.cube.kind p.drf room now p m h

-- How many SDUs one piece makes whole at most

finished_few : (b : Bool) (j : Joiner) (whole : List Sdu) → length (finished b j whole).whole ≤ length whole + 1
finished_few true j whole = (let e = length-append whole (record { first = j.from; pieces = j.count; bytes = j.bytes } ∷ []) in omega arith)
finished_few false j whole = omega arith

with_few : (n : ℕ) (part : Part) (j : Joined) → length (joined_with n part j).whole ≤ length j.whole + 1
with_few n part j = finished_few (part.ends && ltb 0 (with_part n part j.joiner).count) (with_part n part j.joiner) j.whole

held_few : (limit steps n : ℕ) (held : List Piece) (j : Joined) → ((k : ℕ) → has k (numbers held) ≡ true → k < limit) → length (joined_held steps n held j).whole ≤ length j.whole + (limit - n)
held_few limit zero n held j h = omega arith
held_few limit (suc steps) n held j h = go (has n (numbers held)) (h n) (held_few limit steps (n + 1) held (joined_with n (part_in n held) j) h) (with_few n (part_in n held) j)
  where
    go : (b : Bool) → (b ≡ true → n < limit) → length (joined_held steps (n + 1) held (joined_with n (part_in n held) j)).whole ≤ length (joined_with n (part_in n held) j).whole + (limit - (n + 1)) → length (joined_with n (part_in n held) j).whole ≤ length j.whole + 1 →
        length (cond b (joined_held steps (n + 1) held (joined_with n (part_in n held) j)) j).whole ≤ length j.whole + (limit - n)
    go true lt rest one = (let below = lt refl in omega arith)
    go false lt rest one = omega arith

held_within : (c : Constants) (a : kept.Accepted) (m : Receiver) → c.cube.kind ≡ kinds.Reliable → c.cube.kind ≡ kind_of a → HasPlacesFor c a → Knows a m → (k : ℕ) → has k (numbers m.held) ≡ true → k < next_of m + c.cube.window
held_within c (accepted.Datagram r) m rel kind places knows k h = cc
held_within c (accepted.Loose x) m rel kind places knows k h = cc
held_within c (accepted.Reliable s) m rel kind places knows k h =
    let within = knows.1.within k (sym (knows.1.same k) ∙ h) in
    let upper = within.1 in
    let next = knows.0 in
    let count = places.0 in
    omega arith

-- a number that is accepted by a reliable state is the next one
is_next_by : (room a b : Bool) → with_room room (cond a Duplicate (cond b Accepted Held)) ≡ Accepted → b ≡ true
is_next_by true true b e = cc
is_next_by true false true e = refl
is_next_by true false false e = cc
is_next_by false true b e = cc
is_next_by false false true e = cc
is_next_by false false false e = cc

few_with : (limit : ℕ) (kind : Kind) (b room : Bool) (p : Piece) (m : Receiver) (j : Joiner) → 1 ≤ limit → (b ≡ true → kind ≡ kinds.Reliable → (k : ℕ) → has k (numbers m.held) ≡ true → k < next_of m + limit) → verdict kind b m p room ≡ Accepted → length (joined_after Accepted kind b p m.held j).whole ≤ limit
few_with limit kind false room p m j one within e = (let few = with_few p.number p.part (record { joiner = empty_joiner; whole = [] }) in omega arith)
few_with limit kinds.Datagram true room p m j one within e = (let few = with_few p.number p.part (record { joiner = j; whole = [] }) in omega arith)
few_with limit kinds.Loose true room p m j one within e = (let few = with_few p.number p.part (record { joiner = j; whole = [] }) in omega arith)
few_with limit kinds.Reliable true room p m j one within e =
    let next : p.number ≡ next_of m = eqb-true p.number (next_of m) (is_next_by room _ _ e) in
    let first = joined_with p.number p.part (record { joiner = j; whole = [] }) in
    let few = with_few p.number p.part (record { joiner = j; whole = [] }) in
    let held = held_few (next_of m + limit) (highest (numbers m.held)) (p.number + 1) m.held first (within refl refl) in
    omega arith

accepted_few : (c : Constants) (d : Direction) (b room : Bool) (p : Piece) (v : Verdict) → 1 ≤ c.cube.window → (b ≡ true → c.cube.kind ≡ kinds.Reliable → (k : ℕ) → has k (numbers d.line.receiver.held) ≡ true → k < next_of d.line.receiver + c.cube.window) → v ≡ verdict c.cube.kind b d.line.receiver p room → v ≡ Accepted → length (joined_after v c.cube.kind b p d.line.receiver.held d.inbox.joiner).whole ≤ c.cube.window
accepted_few c d b room p v one within is e =
    let F : Verdict → Type 0 = λ x. length (joined_after x c.cube.kind b p d.line.receiver.held d.inbox.joiner).whole ≤ c.cube.window in
    subst F (sym e) (few_with c.cube.window c.cube.kind b room p d.line.receiver d.inbox.joiner one within (sym is ∙ e))

room_by : (room : Bool) (v : Verdict) → with_room room v ≡ Accepted → room ≡ true
room_by true v e = refl
room_by false Accepted e = cc
room_by false Held e = cc
room_by false Duplicate e = cc
room_by false Behind e = cc
room_by false NoState e = cc
room_by false NoRoom e = cc

-- The SDUs that wait

seqs : List Entry → List ℕ
seqs es = map (λ (e : Entry). e.num.seq) es

seqs_whole : (c : Constants) (now : ℕ) (whole : List Sdu) → seqs (map (entry_for c now) whole) ≡ first_numbers whole
unfolding seqs
seqs_whole c now [] = refl
seqs_whole c now (s ∷ ss) = ap (λ ns. s.first ∷ ns) (seqs_whole c now ss)

seqs_more : (k : ℕ) (got new : List Entry) → k ≤ length got → seqs (drop k (got ++ new)) ≡ seqs (drop k got) ++ seqs new
unfolding seqs
seqs_more k got new h = ap (map (λ (e : Entry). e.num.seq)) (drop-append-le k got new h) ∙ map-append (λ (e : Entry). e.num.seq) (drop k got) new

pub open_count : (d : Direction) → length (open_numbers d) ≡ length d.inbox.got - max d.passed d.state_from
open_count d = length-map (drop (max d.passed d.state_from) d.inbox.got) (λ (e : Entry). e.num.seq) ∙ length-drop (max d.passed d.state_from) d.inbox.got

-- nothing was accepted
same_waiting : (c : Constants) (d e : Direction) (w : Waits) → AreWaiting c d [] w → e.inbox.got ≡ d.inbox.got ++ [] → e.passed ≡ d.passed → e.state_from ≡ d.state_from → AreWaiting c e [] w
same_waiting c d e w h got passed from =
    let same : e.inbox.got ≡ d.inbox.got = got ∙ append-nil d.inbox.got in
    let numbers : open_numbers e ≡ open_numbers d = rw (same, passed, from) refl in
    record {
      room = h.room;
      earlier = rw (passed, from) h.earlier;
      firsts = h.firsts ∙ sym numbers;
      within = rw (same, passed, from) h.within;
      few = rw numbers h.few;
    }

-- more of a state that stands
more_waiting : (c : Constants) (d e : Direction) (now : ℕ) (whole : List Sdu) (w : Waits) → AreWaiting c d [] w → length d.inbox.got - d.passed < c.cube.window → length whole ≤ c.cube.window → e.inbox.got ≡ d.inbox.got ++ map (entry_for c now) whole → e.passed ≡ d.passed → e.state_from ≡ d.state_from → AreWaiting c e whole w
unfolding seqs
more_waiting c d e now whole w h room few got passed from =
    let k = max d.passed d.state_from in
    let all : open_numbers e ≡ open_numbers d ++ first_numbers whole = rw (got, passed, from) (seqs_more k d.inbox.got (map (entry_for c now) whole) h.within ∙ ap (λ ns. open_numbers d ++ ns) (seqs_whole c now whole)) in
    let old = open_count d in
    let more = length-append (open_numbers d) (first_numbers whole) in
    let firsts_count = length-map whole (λ (s : Sdu). s.first) in
    let got_count = length-append d.inbox.got (map (entry_for c now) whole) in
    let within = h.within in
    let noted : w.firsts ≡ open_numbers d = sym (append-nil w.firsts) ∙ h.firsts in
    let got_is = ap length got in
    let all_count = ap length all in
    record {
      room = h.room;
      earlier = rw (passed, from) h.earlier;
      firsts = ap (λ ns. ns ++ first_numbers whole) noted ∙ sym all;
      within = rw (passed, from) (omega arith);
      few = omega arith;
    }

-- the first of a state that begins
new_waiting : (c : Constants) (d e : Direction) (now : ℕ) (whole : List Sdu) (w : Waits) → AreWaiting c d [] w → 1 ≤ c.cube.window → length whole ≤ c.cube.window → e.inbox.got ≡ d.inbox.got ++ map (entry_for c now) whole → e.passed ≡ d.passed → e.state_from ≡ length d.inbox.got →
    AreWaiting c e whole (begun (length d.inbox.got - d.passed) w)
unfolding seqs
new_waiting c d e now whole w h one few got passed from =
    let within = h.within in
    let k : max d.passed (length d.inbox.got) ≡ length d.inbox.got = omega arith in
    let none = drop_all (length d.inbox.got) d.inbox.got (omega arith) in
    let all : open_numbers e ≡ first_numbers whole = rw (got, passed, from, k) (seqs_more (length d.inbox.got) d.inbox.got (map (entry_for c now) whole) (omega arith) ∙ rw none (seqs_whole c now whole)) in
    let firsts_count = length-map whole (λ (s : Sdu). s.first) in
    let all_count = ap length all in
    let got_count = length-append d.inbox.got (map (entry_for c now) whole) in
    let got_is = ap length got in
    record {
      room = h.room;
      earlier = rw (passed, from) refl;
      firsts = sym all;
      within = rw (passed, from) (omega arith);
      few = omega arith;
    }

-- of a verdict, whether the piece is accepted
takes : Verdict → Bool
takes Accepted = true
takes Held = false
takes Duplicate = false
takes Behind = false
takes NoState = false
takes NoRoom = false

accepted_by : (b : Bool) (missing whole : ℕ) → is_accepted (told_accepted b missing whole) ≡ true
accepted_by true missing whole = refl
accepted_by false missing whole = refl

accepted_told : (v : Verdict) (window : ℕ) (pdu : Pdu) (m : Receiver) (j : Joiner) (whole : List Sdu) → is_accepted (told v window pdu m j whole) ≡ takes v
unfolding takes
accepted_told Accepted window pdu m j whole = accepted_by _ _ _
accepted_told Held window pdu m j whole = refl
accepted_told Duplicate window pdu m j whole = refl
accepted_told Behind window pdu m j whole = refl
accepted_told NoState window pdu m j whole = refl
accepted_told NoRoom window pdu m j whole = refl

-- the noted ones after a piece, by whether state stood and whether it was accepted
waits_by : Bool → Bool → ℕ → Waits → Waits
waits_by b takes unpassed w = cond (not b && takes) (begun unpassed w) w

waits_same : (b : Bool) (unpassed : ℕ) (w : Waits) → waits_by b false unpassed w ≡ w
unfolding waits_by
waits_same true unpassed w = refl
waits_same false unpassed w = refl

waiting_after : (c : Constants) (d : Direction) (v : Verdict) (b : Bool) (p : Piece) (w : Waits) → AreWaiting c d [] w → 1 ≤ c.cube.window → (v ≡ Accepted → length d.inbox.got - d.passed < c.cube.window) → (v ≡ Accepted → length (joined_after v c.cube.kind b p d.line.receiver.held d.inbox.joiner).whole ≤ c.cube.window) →
    AreWaiting c (after_arrival v b c p d) (joined_after v c.cube.kind b p d.line.receiver.held d.inbox.joiner).whole (waits_by b (takes v) (length d.inbox.got - d.passed) w)
unfolding takes waits_by
waiting_after c d Accepted true p w h one room few = more_waiting c d _ d.line.clock _ w h (room refl) (few refl) refl refl refl
waiting_after c d Accepted false p w h one room few = new_waiting c d _ d.line.clock _ w h one (few refl) refl refl refl
waiting_after c d Held b p w h one room few = rw (waits_same b (length d.inbox.got - d.passed) w) (same_waiting c d _ w h refl refl refl)
waiting_after c d Duplicate b p w h one room few = rw (waits_same b (length d.inbox.got - d.passed) w) (same_waiting c d _ w h refl refl refl)
waiting_after c d Behind b p w h one room few = rw (waits_same b (length d.inbox.got - d.passed) w) (same_waiting c d _ w h refl refl refl)
waiting_after c d NoState b p w h one room few = rw (waits_same b (length d.inbox.got - d.passed) w) (same_waiting c d _ w h refl refl refl)
waiting_after c d NoRoom b p w h one room few = rw (waits_same b (length d.inbox.got - d.passed) w) (same_waiting c d _ w h refl refl refl)

-- The whole arrival

arrives_at : (c : Constants) (d : Direction) (pdu : Pdu) (present : Bool) (old : Conn) (result : verdicts.Verdict) (new : Conn) → TellsPresence d.line.clock old.rx present → IsRow d.line.clock pdu (length d.inbox.got - d.passed) old.rx result new.rx → Marks d.line.clock pdu (length d.inbox.got - d.passed) old result new →
    new.sending ≡ old.sending → new.waiting ≡ waits_after present result (length d.inbox.got - d.passed) old.waiting → IsReceiver c d old → IsFetched d.line.clock old.rx → IsWelcome c (is_present c d.line.clock d.line.receiver) d.line.receiver d.inbox.joiner (verdict_of c d.line.clock (length d.inbox.got - d.passed) d.line.receiver (piece_in pdu)) (piece_in pdu) →
    IsReceiver c (after_arrival (arrival_verdict c d.line (piece_in pdu) (has_room c d)) (is_present c d.line.clock d.line.receiver) c (piece_in pdu) d) new
unfolding waits_by
arrives_at c d pdu present old result new tells row marks sending waits st fetched welcome =
    let now = d.line.clock in
    let m = d.line.receiver in
    let j = d.inbox.joiner in
    let p = piece_in pdu in
    let v = arrival_verdict c d.line p (has_room c d) in
    let came = row c m j st.rx fetched welcome in
    let stood : present ≡ is_present c now m = tells c m j st.rx in
    let accepted : is_accepted result ≡ takes v = ap is_accepted came.told_is ∙ accepted_told v _ pdu m _ _ in
    let noted : new.waiting ≡ waits_by (is_present c now m) (takes v) (length d.inbox.got - d.passed) old.waiting = waits ∙ rw (stood, accepted) refl in
    let W : List Sdu → Type 0 = λ whole. AreWaiting c d whole old.waiting in
    let before : AreWaiting c d [] old.waiting = subst W fetched.whole st.waiting in
    let within = (λ (e : is_present c now m ≡ true) (rel : c.cube.kind ≡ kinds.Reliable). held_within c old.rx.accepted m rel st.rx.of.kind st.rx.of.places (st.rx.known e)) in
    let after = waiting_after c d v (is_present c now m) p old.waiting before st.rx.of.cube.least_window (λ e. ltb-true _ _ (room_by (has_room c d) _ e)) (λ e. accepted_few c d (is_present c now m) (has_room c d) p v st.rx.of.cube.least_window within refl e) in
    record {
      cube = ap (λ (s : Sending). s.form.cube) sending ∙ st.cube;
      max = ap (λ (s : Sending). s.numbers.max) sending ∙ st.max;
      rx = came.stands;
      last = no_last_after c now (is_present c now m) (has_room c d) p m refl st.last;
      plan = marks c m j d.mark st.rx fetched welcome st.last st.plan;
      waiting = (let A : List Sdu → Waits → Type 0 = λ whole w. AreWaiting c (after_arrival v (is_present c now m) c p d) whole w in let B : List Sdu → Type 0 = λ whole. A whole new.waiting in subst B (sym came.whole) (subst (A _) (sym noted) after));
    }

pub arrives_row : (now unpassed : ℕ) (pdu : Pdu) (present : Bool) (old : Conn) (result : verdicts.Verdict) (new : Conn) → TellsPresence now old.rx present → IsRow now pdu unpassed old.rx result new.rx → Marks now pdu unpassed old result new → new.sending ≡ old.sending → new.waiting ≡ waits_after present result unpassed old.waiting → Arrives now pdu unpassed old new
arrives_row now unpassed pdu present old result new tells row marks sending waits c d clock count st fetched welcome =
    let P : ℕ → ℕ → Type 0 = λ n u. TellsPresence n old.rx present → IsRow n pdu u old.rx result new.rx → Marks n pdu u old result new → new.waiting ≡ waits_after present result u old.waiting → IsFetched n old.rx → IsWelcome c (is_present c n d.line.receiver) d.line.receiver d.inbox.joiner (verdict_of c n u d.line.receiver (piece_in pdu)) (piece_in pdu) → IsReceiver c (after_arrival (arrival_verdict c d.line (piece_in pdu) (has_room c d)) (is_present c d.line.clock d.line.receiver) c (piece_in pdu) d) new in
    let Q : ℕ → Type 0 = λ n. P n unpassed in
    let at : P d.line.clock (length d.inbox.got - d.passed) = λ t r k w f x. arrives_at c d pdu present old result new t r k sending w st f x in
    subst Q clock (subst (P d.line.clock) (sym count) at) tells row marks waits fetched welcome
