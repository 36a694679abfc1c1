-- What a sender keeps of the machine's sender.
use Rattle.std.specs.Prelude.{◌≡◌, ℕ, ◌+◌, ◌-◌, ◌*◌, max, Bool, true, false, ◌&&◌, ◌||◌, ◌==◌, nat_le, if◌then◌else◌, List, [], ◌∷◌, ◌++◌, drop, length, position, slice_get, Option, Some, None}
use Rattle.rina_base.specs.declared.number.Num.{Num}
use Rattle.rina_base.specs.declared.pdu.Pdu.{Pdu}
use Rattle.rina_cube.specs.declared.Cube.{Cube}
use Rattle.rina_cube.specs.Cubes.{delta_of, is_reliable}
use Rattle.rina_dtcp.specs.declared.sent.Sent.{Sent}
use Rattle.rina_dtcp.specs.declared.sent.GaveUp.{GaveUp}
use Rattle.rina_dtcp.specs.Sents.{is_late, touched}

-- how many numbers of the run were sent and how many of them are acknowledged, the greatest that may be sent, the
-- tick at which a piece was last made, and the pieces that are not acknowledged
pub record Kept : Type 0 where
  pub cube : Cube
  pub count : ℕ
  pub acked : ℕ
  pub right : ℕ
  pub last_out : ℕ
  pub unacked : List Sent

-- the sender has no state
abbrev pub is_gone : ℕ → Kept → Bool
is_gone now k = (k.count == 0) || ((length k.unacked == 0) && nat_le (k.last_out + 3 * delta_of k.cube) now)

-- a number is one that is to be acknowledged
abbrev pub keeps : Bool → ℕ → Kept → Bool
keeps gone seq k = is_reliable k.cube.kind && (gone || nat_le k.acked seq)

-- how many numbers may still be sent first
abbrev pub left_in : Bool → Kept → ℕ
left_in true k = k.cube.window - 1 + 1
left_in false k = k.right + 1 - k.count

-- with a piece that was made for the first time
abbrev pub with_sent : ℕ → Pdu → Kept → Kept
with_sent now pdu k = record k { unacked = k.unacked ++ record { first = now; last = now; pdu = pdu } ∷ [] }

-- with one number more sent, in a run that begins or in the present one
abbrev pub counted : Bool → ℕ → ℕ → Kept → Kept
counted begins now seq k = record {
  cube = k.cube;
  count = seq + 1;
  acked = if begins then 0 else k.acked;
  right = if begins then k.cube.window - 1 else k.right;
  last_out = now;
  unacked = k.unacked;
}

abbrev pub noted : ℕ → ℕ → Pdu → Kept → Kept
noted now seq pdu k = counted (is_gone now k) now seq (if keeps (is_gone now k) seq k then with_sent now pdu k else k)

-- the first number that is to be acknowledged
abbrev pub least_from : Bool → Kept → ℕ
least_from begins k = if begins then 0 else k.acked

-- the data run flag of the next piece, where it has this number
abbrev pub flag_of : ℕ → ℕ → Kept → Bool
flag_of now seq k = if is_reliable k.cube.kind then nat_le seq (least_from (is_gone now k) k) else seq == 0

-- PDUs that are sent now, one after the other from a number on: those of which the number is to be acknowledged
abbrev pub sents_from : ℕ → ℕ → ℕ → List Pdu → List Sent
sents_from least now seq [] = []
sents_from least now seq (pdu ∷ pdus) =
    if nat_le least seq then record { first = now; last = now; pdu = pdu } ∷ sents_from least now (seq + 1) pdus else sents_from least now (seq + 1) pdus

abbrev pub with_all : Bool → ℕ → ℕ → List Pdu → Kept → Kept
with_all begins now seq pdus k = if is_reliable k.cube.kind then record k { unacked = k.unacked ++ sents_from (least_from begins k) now seq pdus } else k

abbrev pub counted_all : Bool → ℕ → ℕ → List Pdu → Kept → Kept
counted_all begins now seq pdus k = counted begins now (seq + (length pdus - 1)) (with_all begins now seq pdus k)

-- after an acknowledgement of all numbers up to `ack`, and after its right edge
abbrev pub settled : ℕ → Kept → Kept
settled ack k = record k { acked = max k.acked (ack + 1); unacked = drop (ack + 1 - k.acked) k.unacked }

abbrev pub raised : ℕ → Kept → Kept
raised right k = record k { right = max k.right right }

-- after the piece at a place was made again
abbrev pub resent_at : Option ℕ → ℕ → Kept → Kept
resent_at None now k = k
resent_at (Some i) now k = record k { last_out = now; unacked = touched i now k.unacked }

-- the PDU of the piece at a place
abbrev pub IsPduAt : List Sent → ℕ → Pdu → Type 0
IsPduAt sents at pdu = (s : Sent) × (slice_get sents at ≡ Some s) × (pdu ≡ s.pdu)

-- the number of the piece that a PDU carries, under the sender's CEP-id
abbrev pub num_in : Pdu → Num
num_in pdu = record { cep = pdu.scep; seq = pdu.seq }

-- what is told of a piece that is given up
abbrev pub late_of : ℕ → Option Sent → Option GaveUp
late_of now (Some s) = Some (record { num = num_in s.pdu; first = s.first; now = now })
late_of now None = None

abbrev pub sent_at : List Sent → Option ℕ → Option Sent
sent_at sents (Some at) = slice_get sents at
sent_at sents None = None

-- the first piece that is too late
abbrev pub late_in : ℕ → Kept → Option GaveUp
late_in now k = late_of now (sent_at k.unacked (position (is_late k.cube now) k.unacked))
