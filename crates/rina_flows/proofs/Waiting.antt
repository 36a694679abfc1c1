-- The SDUs that wait to be passed are those that are noted.
use Rattle.std.proofs.Common.{◌≡◌, ℕ, ◌-◌, ◌*◌, ◌<◌, ◌≤◌, Bool, true, false, ltb, List, [], ◌∷◌, length, append_assoc, min, Some, refl, sym, ◌∙◌, ap, arith}
use Rattle.std.proofs.lemmas.Bool.{lt-ltb, ltb-true}
use Rattle.std.proofs.lemmas.List.{length-append}
use Rattle.rina_conn.specs.Standing.{AreWaiting, first_numbers, open_numbers}
use Rattle.rina_conn.specs.Waiting.{Waits, with_whole}
use Rattle.rina_law.specs.Constants.{Constants}
use Rattle.rina_law.specs.Direction.{Direction, after_arrival, has_room, state_from_after}
use Rattle.rina_law.specs.Line.{arrival_verdict}
use Rattle.rina_law.specs.Pieces.{Sdu}
use Rattle.rina_law.specs.Receiver.{Accepted, Behind, Duplicate, Held, NoRoom, NoState, Piece, Verdict, is_present, verdict_by_state, with_room}
use Rattle.rina_conn.proofs.Arriving.{open_count}
use Rattle.rina_flows.specs.Arriving.{noted}

-- one that is fetched is noted
note_one : (c : Constants) (d : Direction) (s : Sdu) (ss : List Sdu) (w : Waits) → AreWaiting c d (s ∷ ss) w → AreWaiting c d ss (with_whole (Some s.first) w)
note_one c d s ss w h =
    let all = length-append w.firsts (first_numbers (s ∷ ss)) in
    let same = ap (λ (ns : List ℕ). length ns) h.firsts in
    let few = h.few in
    let room = h.room in
    let fits : ltb (length w.firsts) w.room ≡ true = lt-ltb (length w.firsts) w.room (omega arith) in
    rw fits (record { room = h.room; earlier = h.earlier; firsts = append_assoc w.firsts (s.first ∷ []) (first_numbers ss) ∙ h.firsts; within = h.within; few = h.few })

-- once all are fetched, all that wait are noted
pub noted_waiting : (c : Constants) (d : Direction) (whole : List Sdu) (w : Waits) → AreWaiting c d whole w → AreWaiting c d [] (noted whole w)
noted_waiting c d [] w h = h
noted_waiting c d (s ∷ ss) w h = noted_waiting c d ss (with_whole (Some s.first) w) (note_one c d s ss w h)

-- a direction that stays in what it got and passed
pub waiting_same : (c : Constants) (d d' : Direction) (whole : List Sdu) (w : Waits) → d'.inbox.got ≡ d.inbox.got → d'.passed ≡ d.passed → d'.state_from ≡ d.state_from → AreWaiting c d whole w → AreWaiting c d' whole w
waiting_same c d d' whole w got passed from h =
    let same : open_numbers d' ≡ open_numbers d = rw (got, passed, from) refl in
    record {
      room = h.room;
      earlier = rw (passed, from) h.earlier;
      firsts = h.firsts ∙ sym same;
      within = rw (got, passed, from) h.within;
      few = rw same h.few;
    }

-- with room for a piece, fewer SDUs than the window wait
room_by : (room : Bool) (v : Verdict) → with_room room v ≡ Accepted → room ≡ true
room_by true v e = refl
room_by false Accepted e = cc
room_by false Held e = cc
room_by false Duplicate e = cc
room_by false Behind e = cc
room_by false NoState e = cc
room_by false NoRoom e = cc

-- a state begins only while fewer SDUs than the window wait
early_by : (v : Verdict) (b : Bool) (got from passed window : ℕ) → (v ≡ Accepted → got - passed < window) → from - passed < window → state_from_after v b got from - passed < window
early_by Accepted false got from passed window room early = room refl
early_by Accepted true got from passed window room early = early
early_by Held b got from passed window room early = early
early_by Duplicate b got from passed window room early = early
early_by Behind b got from passed window room early = early
early_by NoState b got from passed window room early = early
early_by NoRoom b got from passed window room early = early

pub early_after : (c : Constants) (d : Direction) (p : Piece) → d.state_from - d.passed < c.cube.window → (after_arrival (arrival_verdict c d.line p (has_room c d)) (is_present c d.line.clock d.line.receiver) c p d).state_from - d.passed < c.cube.window
early_after c d p early =
    early_by (arrival_verdict c d.line p (has_room c d)) (is_present c d.line.clock d.line.receiver) (length d.inbox.got) d.state_from d.passed c.cube.window
    (λ e. ltb-true (length d.inbox.got - d.passed) c.cube.window (room_by (has_room c d) (verdict_by_state c.cube.kind (is_present c d.line.clock d.line.receiver) d.line.receiver p) e)) early

-- so few SDUs wait that their count fits
pub few_wait : (c : Constants) (d : Direction) (w : Waits) → AreWaiting c d [] w → d.state_from - d.passed < c.cube.window → length d.inbox.got - d.passed < 3 * c.cube.window
few_wait c d w h early =
    let few = h.few in
    let count = open_count d in
    omega arith

pub counted : (n waiting most : ℕ) → waiting ≤ most → n ≡ min waiting most → n ≡ waiting
counted n waiting most le is = omega arith
