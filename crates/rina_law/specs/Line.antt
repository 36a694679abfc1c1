-- A line: a sender, a receiver, and what is in flight between them, without SDUs.
use Rattle.std.specs.Prelude.{◌≡◌, ℕ, ◌+◌, ◌-◌, ◌<◌, ◌≤◌, Bool, true, false, List, [], ◌∷◌, length}
use Rattle.rina_cube.specs.declared.Kind.{Kind}
use Rattle.rina_cube.specs.declared.Kind.TheVariants.{Reliable}
use Rattle.rina_law.specs.Bounds.{Bounds, bounds_of}
use Rattle.rina_law.specs.Constants.{Constants, delta}
use Rattle.rina_law.specs.Lists.{In}
use Rattle.rina_law.specs.Pieces.{Part}
use Rattle.rina_law.specs.Receiver.{Piece, Receiver, no_state, is_present, is_present_by, next_of, numbers, Verdict, Accepted, verdict, with_accepted, receiver_after}
use Rattle.rina_law.specs.Sender.{Sender, Ack, member, is_absent_by, fresh, piece_for, sender_with, sender_again, piece_again, sender_told}

-- a PDU in flight, and the last tick at which it is anywhere
pub record InFlight (P : Type 0) : Type 0 where
  pub pdu : P
  pub death : ℕ

-- `done` has the numbers that were accepted in the sender's present run, by whatever receiver state, the newest
-- first; no row reads it
pub record Line : Type 0 where
  pub clock : ℕ
  pub sender : Sender
  pub receiver : Receiver
  pub done : List ℕ
  pub pieces : List (InFlight Piece)
  pub acks : List (InFlight Ack)

abbrev pub opening : Constants → Line
opening c = record {
  clock = 0;
  sender = record { run = []; acked = 0; right = c.cube.window - 1; last_out = 0 };
  receiver = no_state;
  done = [];
  pieces = [];
  acks = [];
}

-- each PDU in flight now was in flight before, with a death at least as great: what losses, repeats, hops and
-- relaying do
abbrev pub IsCovered : {P : Type 0} → List (InFlight P) → List (InFlight P) → Type 0
IsCovered before after = (p : InFlight _) → In p after → (q : InFlight _) × In q before × (p.pdu ≡ q.pdu) × (p.death ≤ q.death)

-- Sending

-- one piece is made for the first time, and lives for `mpl` ticks
abbrev pub put : Constants → Part → Line → Line
put c part line = record line {
  sender = sender_with c line.clock part line.sender;
  pieces = record { pdu = piece_for c part line.sender; death = line.clock + c.cube.mpl } ∷ line.pieces;
}

abbrev pub put_all : Constants → List Part → Line → Line
put_all c [] line = line
put_all c (part ∷ parts) line = put_all c parts (put c part line)

-- a new run, of which nothing was accepted yet
abbrev pub begun : Bool → Constants → Line → Line
begun true c line = record line { sender = fresh c line.sender; done = [] }
begun false c line = line

-- the parts of an SDU that was not refused
abbrev pub offer_by : Bounds → Constants → List Part → Line → Line
offer_by b c parts line = put_all c parts (begun (is_absent_by b c line.clock line.sender) c line)

abbrev pub offer : Constants → List Part → Line → Line
offer c parts line = offer_by (bounds_of c) c parts line

abbrev pub again : Constants → ℕ → Line → Line
again c n line = record line {
  sender = sender_again n line.clock line.sender;
  pieces = record { pdu = piece_again n line.sender; death = line.clock + c.cube.mpl } ∷ line.pieces;
}

abbrev pub told : Ack → Line → Line
told k line = record line { sender = sender_told k line.sender }

-- Receiving

abbrev pub done_after : Verdict → Kind → Bool → ℕ → Receiver → List ℕ → List ℕ
done_after Accepted kind true n rx done = with_accepted kind (numbers rx.held) n done
done_after Accepted kind false n rx done = n ∷ done
done_after v kind present n rx done = done

abbrev pub arrival_verdict_by : Bounds → Constants → Line → Piece → Bool → Verdict
arrival_verdict_by b c line p room = verdict c.cube.kind (is_present_by b line.clock line.receiver) line.receiver p room

abbrev pub arrive_by : Bounds → Constants → Piece → Bool → Line → Line
arrive_by b c p room line = record line {
  receiver = receiver_after (arrival_verdict_by b c line p room) c.cube.kind (is_present_by b line.clock line.receiver) line.clock p line.receiver;
  done = done_after (arrival_verdict_by b c line p room) c.cube.kind (is_present_by b line.clock line.receiver) p.number line.receiver line.done;
}

abbrev pub arrival_verdict : Constants → Line → Piece → Bool → Verdict
arrival_verdict c line p room = arrival_verdict_by (bounds_of c) c line p room

abbrev pub arrive : Constants → Piece → Bool → Line → Line
arrive c p room line = arrive_by (bounds_of c) c p room line

-- an acknowledgement is made, with this right edge
abbrev pub acknowledge : Constants → ℕ → Line → Line
acknowledge c right line = record line {
  acks = record { pdu = record { ack = next_of line.receiver - 1; right = right }; death = line.clock + c.cube.mpl } ∷ line.acks;
}

-- what an absent state still holds is given up
abbrev pub forget : Line → Line
forget line = record line { receiver = record line.receiver { held = [] } }

-- Where rows may come, in the terms of numbers

-- a reliable sender has room for so many pieces more
abbrev pub HasRoom : Constants → Sender → ℕ → Type 0
HasRoom c tx count = c.cube.kind ≡ Reliable → length tx.run + count ≤ tx.right + 1

-- the number is one that may be sent again
pub record MayResend (c : Constants) (line : Line) (n : ℕ) : Type 0 where
  pub reliable : c.cube.kind ≡ Reliable
  pub within : n < length line.sender.run
  pub young : line.clock ≤ (member line.sender.run n).first + c.cube.r

-- an acknowledgement with this right edge may be made
pub record MayAcknowledge (c : Constants) (line : Line) (right : ℕ) : Type 0 where
  pub reliable : c.cube.kind ≡ Reliable
  pub present : is_present c line.clock line.receiver ≡ true
  pub young : line.clock ≤ line.receiver.last_in + delta c
  pub edge : right + 1 ≤ next_of line.receiver + c.cube.window
  pub fits : right ≤ c.max
