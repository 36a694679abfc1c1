-- What each call makes of the ends, and of the directions behind them.
use Rattle.std.specs.Prelude.{◌≡◌, ℕ, ◌<◌, List, ◌++◌, length, map, slice_get, slice_set, Option, Some, None}
use Rattle.rina_account.specs.declared.ledger.Off.{Off}
use Rattle.rina_base.specs.declared.cause.Cause.{Cause}
use Rattle.rina_base.specs.declared.number.Num.{Num}
use Rattle.rina_base.specs.declared.pdu.Pdu.{Pdu}
use Rattle.rina_cube.specs.declared.Cube.{Cube}
use Rattle.rina_data.specs.Configs.{Config, cube_by}
use Rattle.rina_dif_law.specs.Dif.{constants}
use Rattle.rina_dif_law.specs.Ids.{Ids, IsFrom, flipped, pdu_of_piece}
use Rattle.rina_dif_law.specs.Counting.{InOrder}
use Rattle.rina_dif_law.specs.Incoming.{AllSettled, IsDropped, arrived, cause_for, lines_for}
use Rattle.rina_dif_law.specs.Sending.{offered, offered_entry, offered_pieces}
use Rattle.rina_dif_law.specs.Standing.{IsConn}
use Rattle.rina_iface.specs.declared.ends.End.{End}
use Rattle.rina_iface.specs.declared.state.PortState.TheVariants.{Allocated}
use Rattle.rina_iface.specs.Ends.{with_passed, with_sent}
use Rattle.rina_law.specs.Constants.{Constants}
use Rattle.rina_law.specs.Direction.{Direction, Pass, happens, offer_refusal}
use Rattle.rina_law.specs.Line.{told}
use Rattle.rina_law.specs.Lists.{In}
use Rattle.rina_law.specs.Pdus.{ack_in, piece_in}
use Rattle.rina_law.specs.Pieces.{Part}
use Rattle.rina_flows.specs.Tied.{IsInboundAt}

-- the end at this place, its ids, and its cube
pub record IsPlace (g : Config) (ends : List End) (ids : List Ids) (at : ℕ) (end : End) (its_ids : Ids) (cube : Cube) : Type 0 where
  pub is_conn : IsConn ends ids at end its_ids
  pub is_cube : cube_by its_ids.qos g.cubes ≡ Some cube

-- Sending

-- the entry of an SDU that was cut into these parts is noted at its end, and its pieces are made
abbrev pub IsOfferedBy : Constants → Ids → ℕ → End → Direction → List Part → Num → List Pdu → List End → List Direction → List End → List Direction → Type 0
IsOfferedBy c ids at end line parts num pdus ends lines ends' lines' =
    (offer_refusal c line parts ≡ None) × (num ≡ (offered_entry c parts line).num) × (pdus ≡ map (pdu_of_piece ids) (offered_pieces c parts line)) ×
    (ends' ≡ slice_set ends at (with_sent end (offered_entry c parts line))) × (lines' ≡ slice_set lines at (offered c parts line))

-- the sender at a place accepts the SDU
pub record OffersAt (g : Config) (ends : List End) (ids : List Ids) (lines : List Direction) (at : ℕ) (parts : List Part) (num : Num) (pdus : List Pdu) (ends' : List End) (lines' : List Direction) : Type 0 where
  pub end : End
  pub its_ids : Ids
  pub cube : Cube
  pub place : IsPlace g ends ids at end its_ids cube
  pub line : Direction
  pub is_line : slice_get lines at ≡ Some line
  pub offered : IsOfferedBy (constants g cube its_ids) its_ids at end line parts num pdus ends lines ends' lines'

-- Passing

-- the oldest SDU of the end at a place is passed
pub record PassedAt (g : Config) (ends : List End) (ids : List Ids) (lines : List Direction) (at : ℕ) (ends' : List End) (lines' : List Direction) : Type 0 where
  pub end : End
  pub its_ids : Ids
  pub cube : Cube
  pub place : IsPlace g ends ids at end its_ids cube
  pub waits : end.taken < length end.got
  pub from : ℕ
  pub line : Direction
  pub inbound : IsInboundAt ends lines end from line
  pub lines_are : lines' ≡ slice_set lines from (happens (constants g cube (flipped its_ids)) line Pass)
  pub ends_are : ends' ≡ slice_set ends at (with_passed end)

-- Receiving

-- the connection of the allocated end at this place takes the PDU
pub record TakesAt (ends : List End) (ids : List Ids) (pdu : Pdu) (at : ℕ) (end : End) (its_ids : Ids) : Type 0 where
  pub is_conn : IsConn ends ids at end its_ids
  pub allocated : end.state ≡ Allocated
  pub names : IsFrom (flipped its_ids) pdu

-- how a piece is taken: the cause for which it is written off, where it is; the lines of pieces that were held and are
-- given up, in the order of their numbers; the SDUs that are whole are delivered; and each piece is written off, held or
-- delivered once
abbrev pub IsArrivedBy : Constants → Ids → ℕ → End → ℕ → Direction → Pdu → Option Cause → List Off → List End → List Direction → List End → List Direction → Type 0
IsArrivedBy c ids at end from line pdu cause offs ends lines ends' lines' =
    (cause ≡ cause_for c (piece_in pdu) line) × ((off : Off) → In off offs → IsDropped c (piece_in pdu) line ids off) ×
    (ends' ≡ slice_set ends at (record end { got = (arrived c (piece_in pdu) line).inbox.got })) × (lines' ≡ slice_set lines from (arrived c (piece_in pdu) line)) ×
    AllSettled c (piece_in pdu) line (offs ++ lines_for pdu cause) × InOrder offs

-- a piece comes to the connection at a place. `offs` are the lines before its own
pub record ArrivesAt (g : Config) (ends : List End) (ids : List Ids) (lines : List Direction) (at : ℕ) (pdu : Pdu) (cause : Option Cause) (offs : List Off) (ends' : List End) (lines' : List Direction) : Type 0 where
  pub end : End
  pub its_ids : Ids
  pub cube : Cube
  pub place : IsPlace g ends ids at end its_ids cube
  pub from : ℕ
  pub line : Direction
  pub inbound : IsInboundAt ends lines end from line
  pub arrived : IsArrivedBy (constants g cube (flipped its_ids)) its_ids at end from line pdu cause offs ends lines ends' lines'

-- an acknowledgement comes to the connection at a place
pub record ToldAt (lines : List Direction) (at : ℕ) (pdu : Pdu) (lines' : List Direction) : Type 0 where
  pub line : Direction
  pub is_line : slice_get lines at ≡ Some line
  pub lines_are : lines' ≡ slice_set lines at (record line { line = told (ack_in pdu) line.line })
