-- One direction of a connection: a line with its SDUs, as they are cut, joined and delivered, and with its two
-- journals.
use Rattle.std.specs.Prelude.{◌≡◌, ℕ, zero, suc, ◌+◌, ◌-◌, ◌<◌, ◌≤◌, max, min, Bool, true, false, ◌&&◌, nat_lt, nat_le, if◌then◌else◌, List, [], ◌∷◌, ◌++◌, length, map, get_or, Option, Some, None}
use Rattle.rina_cube.specs.Cubes.{is_reliable}
use Rattle.rina_law.specs.declared.entry.Entry.{Entry}
use Rattle.rina_law.specs.Bounds.{Bounds, bounds_of}
use Rattle.rina_law.specs.Constants.{Constants}
use Rattle.rina_law.specs.Line.{InFlight, Line, IsCovered, opening, offer_by, again, told, arrival_verdict_by, arrive_by, acknowledge, forget}
use Rattle.rina_law.specs.Lists.{In}
use Rattle.rina_law.specs.Pieces.{Part, IsCut, join, Joiner, empty_joiner, Sdu, Joined}
use Rattle.rina_law.specs.Receiver.{Piece, is_present_by, next_of, Verdict, Accepted, joined_after, mark_after_by, mark_passed_by}
use Rattle.rina_law.specs.Sender.{Member, Ack, member, is_absent_by, started, Refusal, refusal_by, again_due_by}

-- Of a run: the number with which the SDU of a number begins, and the place of that SDU in `sent`, where the run's
-- first has the place `base`

abbrev pub start_of : List Member → ℕ → ℕ
start_of run zero = 0
start_of run (suc n) = if (member run (suc n)).part.begins then suc n else start_of run n

abbrev pub place_of : List Member → ℕ → ℕ → ℕ
place_of run base zero = base
place_of run base (suc n) = if (member run (suc n)).part.begins then suc (place_of run base n) else place_of run base n

-- An entry by its place

abbrev pub no_entry : Entry
no_entry = record { tick = 0; num = record { cep = 0; seq = 0 }; bytes = [] }

abbrev pub entry : List Entry → ℕ → Entry
entry es i = get_or es i no_entry

-- What was received: the joiner, and the journal of what was delivered. `places` has for each entry the place in
-- `sent` from which it came; no row reads it

pub record Inbox : Type 0 where
  pub joiner : Joiner
  pub got : List Entry
  pub places : List ℕ

-- an SDU becomes an entry of this tick, with the sender's CEP-id
abbrev pub entry_for : Constants → ℕ → Sdu → Entry
entry_for c now sdu = record { tick = now; num = record { cep = c.cep; seq = sdu.first }; bytes = sdu.bytes }

-- what was joined is delivered
abbrev pub delivered : Constants → ℕ → List Member → ℕ → Joined → Inbox → Inbox
delivered c now run base j inbox = record {
  joiner = j.joiner;
  got = inbox.got ++ map (entry_for c now) j.whole;
  places = inbox.places ++ map (λ sdu. place_of run base sdu.first) j.whole;
}

-- `sent` is the journal of what was accepted for sending, and so many of the entries got were passed.
-- `base` is how many entries `sent` had when the present run began, and `since` the tick of that; no row reads them.
-- `state_from` is how many entries had been got when the receiver's state was made.
-- An acknowledgement is due at `mark`
pub record Direction : Type 0 where
  pub line : Line
  pub inbox : Inbox
  pub sent : List Entry
  pub passed : ℕ
  pub base : ℕ
  pub since : ℕ
  pub state_from : ℕ
  pub mark : Option ℕ

abbrev pub start : Constants → Direction
start c = record {
  line = opening c;
  inbox = record { joiner = empty_joiner; got = []; places = [] };
  sent = [];
  passed = 0;
  base = 0;
  since = 0;
  state_from = 0;
  mark = None;
}

-- What may happen

pub data Row : Type 0 where
  -- time goes on
  Time : (ticks : ℕ) → Row
  -- an SDU that is cut into these parts is offered
  Offer : (parts : List Part) → Row
  -- what is due is sent again
  Again : Row
  -- a piece that is in flight arrives
  Arrive : (p : InFlight Piece) → Row
  -- an acknowledgement that is due is made
  Acknowledge : Row
  -- an acknowledgement that is in flight arrives
  Control : (k : InFlight Ack) → Row
  -- losses, repeats and hops: what is in flight now was in flight before, with a death at least as great
  Cloud : (pieces : List (InFlight Piece)) (acks : List (InFlight Ack)) → Row
  -- the first SDU that waits is passed to the application
  Pass : Row
  -- an absent state gives up what it still holds
  Forget : Row

-- An SDU that is offered

abbrev pub offer_refusal_by : Bounds → Constants → Direction → List Part → Option Refusal
offer_refusal_by b c d parts = refusal_by b c (started (is_absent_by b c d.line.clock d.line.sender) c d.line.sender) parts

abbrev pub sent_entry : Constants → Bool → Direction → List Part → Entry
sent_entry c begins d parts = record {
  tick = d.line.clock;
  num = record { cep = c.cep; seq = length (started begins c d.line.sender).run };
  bytes = join parts;
}

abbrev pub accepted_offer_by : Bounds → Constants → Bool → List Part → Direction → Direction
accepted_offer_by b c begins parts d = record d {
  line = offer_by b c parts d.line;
  sent = d.sent ++ sent_entry c begins d parts ∷ [];
  base = if begins then length d.sent else d.base;
  since = if begins then d.line.clock else d.since;
}

-- an offer that is refused changes nothing
abbrev pub after_offer_by : Option Refusal → Bounds → Constants → List Part → Direction → Direction
after_offer_by (Some refused) b c parts d = d
after_offer_by None b c parts d = accepted_offer_by b c (is_absent_by b c d.line.clock d.line.sender) parts d

abbrev pub after_again : Option ℕ → Constants → Direction → Direction
after_again (Some n) c d = record d { line = again c n d.line }
after_again None c d = d

-- A piece that arrives

-- there is room while fewer than `window` entries wait to be passed
abbrev pub has_room : Constants → Direction → Bool
has_room c d = nat_lt (length d.inbox.got - d.passed) c.cube.window

abbrev pub state_from_after : Verdict → Bool → ℕ → ℕ → ℕ
state_from_after Accepted false got earlier = got
state_from_after v present got earlier = earlier

abbrev pub after_arrival_by : Verdict → Bool → Bounds → Constants → Piece → Direction → Direction
after_arrival_by v present b c p d = record d {
  line = arrive_by b c p (has_room c d) d.line;
  inbox = delivered c d.line.clock d.line.sender.run d.base (joined_after v c.cube.kind present p d.line.receiver.held d.inbox.joiner) d.inbox;
  state_from = state_from_after v present (length d.inbox.got) d.state_from;
  mark = mark_after_by v b c d.line.clock d.line.receiver d.mark;
}

-- An acknowledgement that is due

-- the first number that the application has still to take: of the first entry of this state that was not passed,
-- else of what the joiner holds, else the next one
abbrev pub first_open : Direction → ℕ
first_open d =
    if nat_lt (max d.passed d.state_from) (length d.inbox.got) then (entry d.inbox.got (max d.passed d.state_from)).num.seq
    else (if nat_lt 0 d.inbox.joiner.count then d.inbox.joiner.from else next_of d.line.receiver)

-- numbers up to this one may be sent: a window from the first open number on
abbrev pub right_of : Constants → Direction → ℕ
right_of c d = min (first_open d + c.cube.window - 1) c.max

abbrev pub has_come : Option ℕ → ℕ → Bool
has_come None now = false
has_come (Some at) now = nat_le at now

-- its mark has come, state stands, and the bound of acknowledgements has not gone by since the last piece that counted
abbrev pub is_ack_due_by : Bounds → Constants → Direction → Bool
is_ack_due_by b c d =
    is_reliable c.cube.kind && (has_come d.mark d.line.clock && (is_present_by b d.line.clock d.line.receiver && nat_le d.line.clock (d.line.receiver.last_in + b.acks)))

abbrev pub after_ack : Bool → Constants → Direction → Direction
after_ack true c d = record d { line = acknowledge c (right_of c d) d.line; mark = None }
after_ack false c d = d

-- What each row makes of a direction

abbrev pub happens_by : Bounds → Constants → Direction → Row → Direction
happens_by b c d (Time ticks) = record d { line = record d.line { clock = d.line.clock + ticks } }
happens_by b c d (Offer parts) = after_offer_by (offer_refusal_by b c d parts) b c parts d
happens_by b c d Again = after_again (again_due_by b c d.line.clock d.line.sender) c d
happens_by b c d (Arrive p) = after_arrival_by (arrival_verdict_by b c d.line p.pdu (has_room c d)) (is_present_by b d.line.clock d.line.receiver) b c p.pdu d
happens_by b c d Acknowledge = after_ack (is_ack_due_by b c d) c d
happens_by b c d (Control k) = record d { line = told k.pdu d.line }
happens_by b c d (Cloud pieces acks) = record d { line = record d.line { pieces = pieces; acks = acks } }
happens_by b c d Pass = record d { passed = d.passed + 1; mark = mark_passed_by b c d.line.clock d.line.receiver d.mark }
happens_by b c d Forget = record d { line = forget d.line; inbox = record d.inbox { joiner = empty_joiner } }

-- where it may come: only what is in flight and not dead arrives
abbrev pub MayBy : Bounds → Constants → Direction → Row → Type 0
MayBy b c d (Offer parts) = IsCut c.piece true parts
MayBy b c d (Arrive p) = In p d.line.pieces × (d.line.clock ≤ p.death)
MayBy b c d (Control k) = In k d.line.acks × (d.line.clock ≤ k.death)
MayBy b c d (Cloud pieces acks) = IsCovered d.line.pieces pieces × IsCovered d.line.acks acks
MayBy b c d Pass = d.passed < length d.inbox.got
MayBy b c d Forget = is_present_by b d.line.clock d.line.receiver ≡ false
MayBy b c d _ = Unit {0}

-- rows that come one after the other, and what they make of a direction

abbrev pub IsRunBy : Bounds → Constants → Direction → List Row → Type 0
IsRunBy b c d [] = Unit {0}
IsRunBy b c d (row ∷ rows) = MayBy b c d row × IsRunBy b c (happens_by b c d row) rows

abbrev pub after_by : Bounds → Constants → Direction → List Row → Direction
after_by b c d [] = d
after_by b c d (row ∷ rows) = after_by b c (happens_by b c d row) rows

-- By delta-t

abbrev pub offer_refusal : Constants → Direction → List Part → Option Refusal
offer_refusal c d parts = offer_refusal_by (bounds_of c) c d parts

abbrev pub accepted_offer : Constants → Bool → List Part → Direction → Direction
accepted_offer c begins parts d = accepted_offer_by (bounds_of c) c begins parts d

abbrev pub after_offer : Option Refusal → Constants → List Part → Direction → Direction
after_offer refused c parts d = after_offer_by refused (bounds_of c) c parts d

abbrev pub after_arrival : Verdict → Bool → Constants → Piece → Direction → Direction
after_arrival v present c p d = after_arrival_by v present (bounds_of c) c p d

abbrev pub is_ack_due : Constants → Direction → Bool
is_ack_due c d = is_ack_due_by (bounds_of c) c d

abbrev pub happens : Constants → Direction → Row → Direction
happens c d row = happens_by (bounds_of c) c d row

abbrev pub May : Constants → Direction → Row → Type 0
May c d row = MayBy (bounds_of c) c d row

abbrev pub IsRun : Constants → Direction → List Row → Type 0
IsRun c d rows = IsRunBy (bounds_of c) c d rows

abbrev pub after : Constants → Direction → List Row → Direction
after c d rows = after_by (bounds_of c) c d rows
