-- A piece that comes to a connection, and the pieces that it gives up.
use Rattle.std.specs.Prelude.{◌≡◌, ℕ, ◌≤◌, List, [], ◌∷◌, ◌++◌, map, Option, Some, None}
use Rattle.rina_account.specs.declared.ledger.Off.{Off}
use Rattle.rina_base.specs.declared.cause.Cause.{Cause}
use Rattle.rina_base.specs.declared.number.Key.{Key}
use Rattle.rina_base.specs.declared.pdu.Pdu.{Pdu}
use Rattle.rina_base.specs.declared.pdu.PduKind.TheVariants.{Piece as APiece}
use Rattle.rina_conn.specs.declared.conn.Conn.{Conn}
use Rattle.rina_conn.specs.Conns.{Marks}
use Rattle.rina_conn.specs.Standing.{Arrives}
use Rattle.rina_conn.specs.Waiting.{Waits, with_whole}
use Rattle.rina_cube.specs.Cubes.{IsCube}
use Rattle.rina_dif_law.specs.Ids.{Ids, IsFrom, flipped}
use Rattle.rina_dtp.specs.declared.verdict.Verdict.{Verdict}
use Rattle.rina_dtp.specs.declared.verdict.Verdict.TheVariants.{Accept, Hold, Off as WrittenOff}
use Rattle.rina_dtp.specs.Fetching.{KeepsNoMore, StandsAsBefore}
use Rattle.rina_dtp.specs.Receiving.{Receiving, drops}
use Rattle.rina_dtp.specs.Stands.{IsRow}
use Rattle.rina_iface.specs.declared.ends.End.{End}
use Rattle.rina_law.specs.declared.entry.Entry.{Entry}
use Rattle.rina_law.specs.Constants.{Constants}
use Rattle.rina_law.specs.Direction.{Direction}
use Rattle.rina_law.specs.DirectionHolds.{DirectionHolds}
use Rattle.rina_law.specs.Line.{InFlight}
use Rattle.rina_law.specs.Lists.{In}
use Rattle.rina_law.specs.Pdus.{piece_in}
use Rattle.rina_law.specs.Pieces.{Sdu}
use Rattle.rina_law.specs.Receiver.{Piece}

-- the ledger's lines of pieces that are given up
abbrev pub offs_of : List (Key × Cause) → List Off
offs_of [] = []
offs_of (d ∷ ds) = record { key = d.0; cause = d.1 } ∷ offs_of ds

-- why a piece is written off that came, if it is
abbrev pub cause_of : Verdict → Option Cause
cause_of (Accept whole) = None
cause_of Hold = None
cause_of (WrittenOff cause) = Some cause

-- an SDU that is delivered becomes an entry of this tick, with the CEP-id of the far end
abbrev pub entry_from : Ids → ℕ → Sdu → Entry
entry_from ids now sdu = record { tick = now; num = record { cep = ids.dcep; seq = sdu.first }; bytes = sdu.bytes }

-- the end with the SDUs that are delivered to it
abbrev pub with_delivered : Ids → ℕ → List Sdu → End → End
with_delivered ids now whole end = record end { got = end.got ++ map (entry_from ids now) whole }

-- of the pieces that a receiver gave up these were fetched, one after the other; all else is as before
pub record IsDrained (now : ℕ) (old : Receiving) (taken : List (Key × Cause)) (new : Receiving) : Type 0 where
  pub taken_is : drops now old ≡ taken ++ drops now new
  pub stands : StandsAsBefore now old new
  pub kept : KeepsNoMore now old new
  pub whole : new.join.whole ≡ old.join.whole

-- the SDUs that became whole were fetched
abbrev pub delivered : Receiving → Receiving
delivered r = record r { join = record r.join { whole = [] } }

-- these SDUs wait to be passed, behind those that waited
abbrev pub noted : List Sdu → Waits → Waits
noted [] w = w
noted (s ∷ ss) w = noted ss (with_whole (Some s.first) w)

-- a connection receives a piece, while so many SDUs wait to be passed: what is left of a state that is gone is given up
-- first (`before`), the SDUs that became whole are fetched, and then the pieces that the new one makes it give up (`after`)
pub record IsArrival (now : ℕ) (pdu : Pdu) (unpassed : ℕ) (old : Conn) (result : Verdict) (offs : List Off) (whole : List Sdu) (new : Conn) : Type 0 where
  pub ready : Conn
  pub before : List (Key × Cause)
  pub drained : IsDrained now old.rx before ready.rx
  pub none_before : drops now ready.rx ≡ []
  pub plan_before : ready.plan ≡ old.plan
  pub waiting_before : ready.waiting ≡ old.waiting
  pub sending_before : ready.sending ≡ old.sending
  pub heard : Conn
  pub row : IsRow now pdu unpassed ready.rx result heard.rx
  pub marks : Marks now pdu unpassed ready result heard
  pub hears : Arrives now pdu unpassed ready heard
  pub whole_are : whole ≡ heard.rx.join.whole
  pub after : List (Key × Cause)
  pub given : IsDrained now (delivered heard.rx) after new.rx
  pub none_after : drops now new.rx ≡ []
  pub plan_after : new.plan ≡ heard.plan
  pub waiting_after : new.waiting ≡ noted heard.rx.join.whole heard.waiting
  pub offs_are : offs ≡ offs_of (before ++ after)
  pub sending : new.sending ≡ old.sending

-- the PDU is a piece of this direction, to the end with these ids, and a copy of it is in flight that is not dead
pub record IsComing (c : Constants) (ids : Ids) (line : Direction) (pdu : Pdu) : Type 0 where
  pub limits : IsCube c.cube
  pub cep : c.cep ≡ ids.dcep
  pub holds : DirectionHolds c line
  pub copy : InFlight Piece
  pub copy_is : copy.pdu ≡ piece_in pdu
  pub flies : In copy line.line.pieces
  pub alive : line.line.clock ≤ copy.death
  pub kind : pdu.kind ≡ APiece
  pub names : IsFrom (flipped ids) pdu
