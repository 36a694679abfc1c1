-- Bounds of which one is not that of delta-t, and for each a list of rows that breaks the promise of a reliable cube.
use Rattle.std.specs.Prelude.{ℕ, true, false, List, [], ◌∷◌}
use Rattle.rina_cube.specs.declared.Kind.TheVariants.{Reliable}
use Rattle.rina_law.specs.declared.entry.Entry.{Entry}
use Rattle.rina_law.specs.Bounds.{Bounds, bounds_of}
use Rattle.rina_law.specs.Constants.{Constants}
use Rattle.rina_law.specs.Direction.{Row, Time, Offer, Again, Arrive, Acknowledge, Control, Pass}
use Rattle.rina_law.specs.Line.{InFlight}
use Rattle.rina_law.specs.Pieces.{Part}
use Rattle.rina_law.specs.Receiver.{Piece}
use Rattle.rina_law.specs.Sender.{Ack}
use Rattle.rina_law.specs.Suffices.{Breaks, RestBreaks, FlagBreaks}

-- Bounds of delta-t but for one

abbrev pub state_stands : (Constants → ℕ) → Constants → Bounds
state_stands ticks c = record (bounds_of c) { stands = ticks c }

abbrev pub begins_after : (Constants → ℕ) → Constants → Bounds
begins_after ticks c = record (bounds_of c) { begins = ticks c }

abbrev pub sent_again_for : (Constants → ℕ) → Constants → Bounds
sent_again_for ticks c = record (bounds_of c) { again = ticks c }

abbrev pub acknowledged_for : (Constants → ℕ) → Constants → Bounds
acknowledged_for ticks c = record (bounds_of c) { acks = ticks c }

-- What the lists are made of: an SDU of one byte, which is one piece, that piece in flight with the data run flag
-- and without it, its entry in a journal, and an acknowledgement in flight

abbrev pub sdu : ℕ → List Part
sdu byte = record { begins = true; ends = true; body = byte ∷ [] } ∷ []

abbrev pub piece : ℕ → ℕ → ℕ → InFlight Piece
piece number byte death = record { pdu = record { number = number; drf = true; part = record { begins = true; ends = true; body = byte ∷ [] } }; death = death }

abbrev pub unflagged : ℕ → ℕ → ℕ → InFlight Piece
unflagged number byte death = record { pdu = record { number = number; drf = false; part = record { begins = true; ends = true; body = byte ∷ [] } }; death = death }

abbrev pub entry_of : ℕ → ℕ → ℕ → Entry
entry_of tick number byte = record { tick = tick; num = record { cep = 9; seq = number }; bytes = byte ∷ [] }

abbrev pub acked : ℕ → ℕ → ℕ → InFlight Ack
acked number right death = record { pdu = record { ack = number; right = right }; death = death }

-- The cubes: `delta` is 50 on the first two and 51 on the third

abbrev pub constants_with : ℕ → ℕ → ℕ → ℕ → Constants
constants_with mpl r a retry = record {
  cube = record { id = 1; kind = Reliable; mpl = mpl; r = r; a = a; retry = retry; window = 4; largest = 1 };
  piece = 1;
  max = 255;
  cep = 9;
}

abbrev pub patient : Constants
patient = constants_with 10 40 0 20

abbrev pub hasty : Constants
hasty = constants_with 40 10 0 10

abbrev pub slow : Constants
slow = constants_with 40 10 1 5

-- Receiver state that ends too early: the last copy of a number is taken for the beginning of a run

abbrev pub twice_rows : List Row
twice_rows = Offer (sdu 65) ∷ Arrive (piece 0 65 10) ∷ Acknowledge ∷ Time 40 ∷ Again ∷ Time 10 ∷ Arrive (piece 0 65 50) ∷ []

abbrev pub twice_sent : List Entry
twice_sent = entry_of 0 0 65 ∷ []

abbrev pub twice_got : List Entry
twice_got = entry_of 0 0 65 ∷ entry_of 50 0 65 ∷ []

-- where state stands for so many ticks, as `mpl`, or `r + mpl`
abbrev pub EarlyEndBreaks : (Constants → ℕ) → Type 0
EarlyEndBreaks ticks = Breaks (state_stands ticks) patient twice_rows twice_sent twice_got

-- A sender that begins again too early: its first piece is taken for a copy of the last run, and counts as acknowledged

abbrev pub skipped_rows : List Row
skipped_rows =
    Offer (sdu 65) ∷ Time 10 ∷ Arrive (piece 0 65 10) ∷ Acknowledge ∷ Control (acked 0 3 20) ∷
    Time 99 ∷ Offer (sdu 66) ∷ Arrive (piece 0 66 119) ∷ Acknowledge ∷ Control (acked 0 3 119) ∷
    Offer (sdu 67) ∷ Arrive (piece 1 67 119) ∷ []

abbrev pub skipped_sent : List Entry
skipped_sent = entry_of 0 0 65 ∷ entry_of 109 0 66 ∷ entry_of 109 1 67 ∷ []

abbrev pub skipped_got : List Entry
skipped_got = entry_of 10 0 65 ∷ entry_of 109 1 67 ∷ []

-- where the sender begins again after so many ticks, as `2 * delta`, or one less than `2 * delta + mpl`
abbrev pub EarlyBeginningBreaks : (Constants → ℕ) → Type 0
EarlyBeginningBreaks ticks = Breaks (begins_after ticks) patient skipped_rows skipped_sent skipped_got

-- A number that is sent again too late: it comes after the promise

abbrev pub late_rows : List Row
late_rows = Offer (sdu 65) ∷ Time 11 ∷ Again ∷ Time 40 ∷ Arrive (piece 0 65 51) ∷ []

abbrev pub late_sent : List Entry
late_sent = entry_of 0 0 65 ∷ []

abbrev pub late_got : List Entry
late_got = entry_of 51 0 65 ∷ []

-- where a number is sent again for so many ticks, as `r + mpl`, or `r + 1`
abbrev pub LateResendingBreaks : (Constants → ℕ) → Type 0
LateResendingBreaks ticks = Breaks (sent_again_for ticks) hasty late_rows late_sent late_got

-- An acknowledgement that is made too late: it is taken for one of the next run

abbrev pub mistaken_rows : List Row
mistaken_rows =
    Offer (sdu 65) ∷ Time 40 ∷ Arrive (piece 0 65 40) ∷ Time 1 ∷ Acknowledge ∷ Time 1 ∷ Control (acked 0 3 81) ∷
    Time 70 ∷ Pass ∷ Time 1 ∷ Acknowledge ∷
    Time 40 ∷ Offer (sdu 66) ∷ Control (acked 0 4 153) ∷ Offer (sdu 67) ∷ Arrive (piece 1 67 193) ∷ []

abbrev pub mistaken_sent : List Entry
mistaken_sent = entry_of 0 0 65 ∷ entry_of 153 0 66 ∷ entry_of 153 1 67 ∷ []

abbrev pub mistaken_got : List Entry
mistaken_got = entry_of 40 0 65 ∷ entry_of 153 1 67 ∷ []

-- where acknowledgements are made for so many ticks, as `2 * delta`, or `mpl + 3 * (r + a)`
abbrev pub LateAckBreaks : (Constants → ℕ) → Type 0
LateAckBreaks ticks = Breaks (acknowledged_for ticks) slow mistaken_rows mistaken_sent mistaken_got

-- Ids that are used again too early: an acknowledgement of the old connection is taken for one of the new one

abbrev pub old_rows : List Row
old_rows = Offer (sdu 65) ∷ Time 40 ∷ Arrive (piece 0 65 40) ∷ Time 51 ∷ Acknowledge ∷ Time 40 ∷ []

abbrev pub new_rows : List Row
new_rows = Offer (sdu 66) ∷ Control (acked 0 3 131) ∷ Offer (sdu 67) ∷ Arrive (piece 1 67 171) ∷ []

abbrev pub new_sent : List Entry
new_sent = entry_of 131 0 66 ∷ entry_of 131 1 67 ∷ []

abbrev pub new_got : List Entry
new_got = entry_of 131 1 67 ∷ []

-- where ids rest for so many ticks, as `2 * delta`, or `2 * mpl + delta`
abbrev pub ShortRestBreaks : (Constants → ℕ) → Type 0
ShortRestBreaks rest = RestBreaks rest slow old_rows new_rows new_sent new_got

-- A data run flag on a piece below which not all is acknowledged: what is below it is never got

abbrev pub flag_rows : List Row
flag_rows = Offer (sdu 65) ∷ Offer (sdu 66) ∷ Time 1 ∷ []

abbrev pub flag_sent : List Entry
flag_sent = entry_of 0 0 65 ∷ entry_of 0 1 66 ∷ []

abbrev pub flag_got : List Entry
flag_got = entry_of 1 1 66 ∷ []

abbrev pub FalseFlagBreaks : Type 0
FalseFlagBreaks = FlagBreaks patient flag_rows (unflagged 1 66 10) (piece 1 66 10) flag_sent flag_got
