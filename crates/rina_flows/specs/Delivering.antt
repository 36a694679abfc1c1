-- What a connection does with a piece that comes: what it gives up is noted behind the lines of a ledger, and what
-- becomes whole behind what its end got, where there is room for all of it.
use Rattle.std.specs.Prelude.{◌≡◌, ◌≢◌, ℕ, ◌+◌, ◌≤◌, Bool, true, false, List, [], ◌∷◌, ◌++◌, length, map, slice_get, Option, Some, None, Result, Ok, Err}
use Rattle.rina_account.specs.declared.ledger.Off.{Off}
use Rattle.rina_base.specs.declared.cause.Cause.{Cause}
use Rattle.rina_base.specs.declared.memory.Memory.{Memory}
use Rattle.rina_base.specs.declared.number.Key.{Key}
use Rattle.rina_base.specs.declared.number.Num.{Num}
use Rattle.rina_base.specs.declared.pdu.Pdu.{Pdu}
use Rattle.rina_base.specs.declared.pdu.PduKind.TheVariants.{Piece as APiece}
use Rattle.rina_conn.specs.declared.conn.Conn.{Conn}
use Rattle.rina_conn.specs.Conns.{Marks}
use Rattle.rina_conn.specs.Standing.{Arrives}
use Rattle.rina_ids.specs.Members.{CepIds}
use Rattle.rina_dif_law.specs.Cloud.{Cloud, Everywhere}
use Rattle.rina_data.specs.Configs.{Config}
use Rattle.rina_data.specs.Process.{Process}
use Rattle.rina_dif_law.specs.Ids.{Ids}
use Rattle.rina_dif_law.specs.Incoming.{lines_for}
use Rattle.rina_dif_law.specs.Standing.{IsConfig, IsJournal, IsOwn}
use Rattle.rina_dtp.specs.declared.verdict.Verdict.{Verdict}
use Rattle.rina_dtp.specs.Joins.{bytes_of}
use Rattle.rina_dtp.specs.Receiving.{Receiving, drops, kept_numbers, present_at}
use Rattle.rina_dtp.specs.Stands.{IsRow}
use Rattle.rina_iface.specs.declared.ends.End.{End}
use Rattle.rina_iface.specs.declared.state.PortState.{PortState}
use Rattle.rina_iface.specs.declared.state.PortState.TheVariants.{Allocated}
use Rattle.rina_iface.specs.Journal.{At}
use Rattle.rina_iface.specs.Later.{Moves}
use Rattle.rina_iface.specs.Seen.{Seen}
use Rattle.rina_law.specs.declared.entry.Entry.{Entry}
use Rattle.rina_law.specs.Direction.{Direction}
use Rattle.rina_law.specs.Pieces.{Sdu}
use Rattle.rina_flows.specs.declared.flows.Flows.{Flows}
use Rattle.rina_flows.specs.Arriving.{IsDrained, cause_of, entry_from, noted, offs_of}
use Rattle.rina_flows.specs.Calls.{AreTied, Becomes, SameIds, Tells}
use Rattle.rina_flows.specs.Ending.{EndsAt, ForgetsAt}
use Rattle.rina_flows.specs.Rows.{ArrivesAt, TakesAt}
use Rattle.rina_flows.specs.Tied.{conns_of, ids_of}

-- so far some of the pieces that a receiver gave up are fetched, and noted where `room` is enough for all
pub record IsWriting (now : ℕ) (old : Receiving) (lines : List Off) (room : ℕ) (new : Receiving) (lines' : List Off) : Type 0 where
  pub taken : List (Key × Cause)
  pub drained : IsDrained now old taken new
  pub noted : length lines + length (drops now old) ≤ room → lines' ≡ lines ++ offs_of taken

-- all that a receiver gave up is fetched, and noted where `room` is enough
pub record WritesOff (now : ℕ) (old : Receiving) (lines : List Off) (room : ℕ) (new : Receiving) (lines' : List Off) : Type 0 where
  pub taken : List (Key × Cause)
  pub drained : IsDrained now old taken new
  pub none : drops now new ≡ []
  pub noted : length lines + length taken ≤ room → lines' ≡ lines ++ offs_of taken

-- the number of the next SDU that is whole
abbrev pub next_num : Ids → List Sdu → Option Num
next_num ids [] = None
next_num ids (w ∷ ws) = Some (record { cep = ids.dcep; seq = w.first })

-- the connection once SDUs that became whole are fetched (`done`), and these are left
abbrev pub with_fetched : List Sdu → List Sdu → Conn → Conn
with_fetched done left k = record k { rx = record k.rx { join = record k.rx.join { whole = left } }; waiting = noted done k.waiting }

-- so far some of the SDUs that are whole are delivered, those with these bytes
pub record IsDelivering (now : ℕ) (old : Conn) (got : List Entry) (room : ℕ) (bodies : List (List ℕ)) (new : Conn) (got' : List Entry) : Type 0 where
  pub done : List Sdu
  pub rest : List Sdu
  pub all : old.rx.join.whole ≡ done ++ rest
  pub bodies_are : bodies ≡ bytes_of done
  pub conn : new ≡ with_fetched done rest old
  pub noted : length got + length old.rx.join.whole ≤ room → got' ≡ got ++ map (entry_from (ids_of old) now) done

-- all are, where `bodies` are their bytes
pub record Delivers (now : ℕ) (old : Conn) (got : List Entry) (room : ℕ) (new : Conn) (got' : List Entry) : Type 0 where
  pub conn : new ≡ with_fetched old.rx.join.whole [] old
  pub noted : length got + length old.rx.join.whole ≤ room → got' ≡ got ++ map (entry_from (ids_of old) now) old.rx.join.whole

-- the whole of it, step by step
pub record Receives (now : ℕ) (pdu : Pdu) (unpassed : ℕ) (old : Conn) (bodies : List (List ℕ)) (got : List Entry) (got_room : ℕ) (lines : List Off) (lines_room : ℕ) (result : Verdict) (new : Conn) (got' : List Entry) (lines' : List Off) : Type 0 where
  pub ready : Receiving
  pub between : List Off
  pub before : WritesOff now old.rx lines lines_room ready between
  pub heard : Conn
  pub row : IsRow now pdu unpassed ready result heard.rx
  pub marks : Marks now pdu unpassed (record old { rx = ready }) result heard
  pub hears : Arrives now pdu unpassed (record old { rx = ready }) heard
  pub sending : heard.sending ≡ old.sending
  pub passed_on : Conn
  pub delivers : bodies ≡ bytes_of heard.rx.join.whole → Delivers now heard got got_room passed_on got'
  pub last : Receiving
  pub after : WritesOff now passed_on.rx between lines_room last lines'
  pub new_is : new ≡ record passed_on { rx = last }

-- so it receives, with room for all that can come of it, and the piece's own line is noted behind the others
pub record Lands (now : ℕ) (pdu : Pdu) (unpassed : ℕ) (bodies : List (List ℕ)) (got : List Entry) (lines : List Off) (cause : Option Cause) (got' : List Entry) (lines' : List Off) (old new : Conn) : Type 0 where
  pub verdict : Verdict
  pub got_room : ℕ
  pub lines_room : ℕ
  pub between : List Off
  pub receives : Receives now pdu unpassed old bodies got got_room lines lines_room verdict new got' between
  pub fits_got : length got + length bodies ≤ got_room
  pub fits_lines : length lines + (length (kept_numbers old.rx) + 1) ≤ lines_room
  pub cause_is : cause ≡ cause_of verdict
  pub own : length between + 1 ≤ lines_room → lines' ≡ between ++ lines_for pdu cause

abbrev pub IsLanding : ℕ → Pdu → ℕ → ℕ → List (List ℕ) → List Conn → List Entry → List Off → Result (Option Cause) Memory → List Conn → List Entry → List Off → Type 0
IsLanding now pdu unpassed at bodies old got lines (Ok cause) new got' lines' = Becomes (Lands now pdu unpassed bodies got lines cause got' lines') at old new
IsLanding now pdu unpassed at bodies old got lines (Err e) new got' lines' = (new ≡ old) × (got' ≡ got) × (lines' ≡ lines)

-- An arrival at the flows

-- how a PDU comes: it is a piece for the connection at a place, and a copy of it is in the cloud and not dead
pub record Comes (now : ℕ) (cloud : ℕ → Pdu → Type 0) (flows : Flows) (at : ℕ) (pdu : Pdu) : Type 0 where
  pub end : End
  pub its_ids : Ids
  pub taker : TakesAt flows.journal.ends (conns_of flows.conns) pdu at end its_ids
  pub piece : pdu.kind ≡ APiece
  pub death : ℕ
  pub here : cloud death pdu
  pub alive : now ≤ death

-- what holds of a DIF that stands, of its flows alone
pub record AreStanding (g : Config) (now : ℕ) (cloud : ℕ → Pdu → Type 0) (flows : Flows) (lines : List Direction) : Type 0 where
  pub config : IsConfig g
  pub journal : IsJournal now flows.journal.ends
  pub held : List CepIds
  pub own : IsOwn g now cloud held flows.journal.ends (conns_of flows.conns) lines
  pub tied : AreTied g now flows lines

-- the piece has arrived, the ledger has the lines of what was given up before its own, and the flows stay tied
pub record HasComeIn (g : Config) (now at : ℕ) (pdu : Pdu) (old : Flows) (ledger : List Off) (lines : List Direction) (cause : Option Cause) (new : Flows) (ledger' : List Off) : Type 0 where
  pub lines' : List Direction
  pub offs : List Off
  pub arrives : ArrivesAt g old.journal.ends (conns_of old.conns) lines at pdu cause offs new.journal.ends lines'
  pub ledger_is : ledger' ≡ ledger ++ offs ++ lines_for pdu cause
  pub tied : AreTied g now new lines'
  pub ids : SameIds old new

abbrev pub ArrivesIn : ℕ → ℕ → Pdu → Flows → List Off → Result (Option Cause) Memory → Flows → List Off → Type 0
ArrivesIn now at pdu old ledger (Ok cause) new ledger' =
    (g : Config) (lines : List Direction) (processes : List Process) (below : Seen) → AreStanding g now (Cloud Everywhere g processes below) old lines → Comes now (Cloud Everywhere g processes below) old at pdu → HasComeIn g now at pdu old ledger lines cause new ledger'
ArrivesIn now at pdu old ledger (Err e) new ledger' = (new ≡ old) × (ledger' ≡ ledger)

-- What is given up without an arrival

-- a connection gives up what it holds, and its lines are noted where there is room
pub record GivesUpAll (now : ℕ) (from : Receiving → Receiving) (lines : List Off) (room : ℕ) (lines' : List Off) (old new : Conn) : Type 0 where
  pub writes : WritesOff now (from old.rx) lines room new.rx lines'
  pub new_is : new ≡ record old { rx = new.rx }

-- its receiver is closed before
abbrev pub closed : Receiving → Receiving
closed r = record r { closed = true }

-- pieces are held of a state that has ended
abbrev pub HoldsGone : ℕ → Conn → Type 0
HoldsGone now k = (present_at now k.rx ≡ false) × (kept_numbers k.rx ≢ [])

-- they are given up, and the flows stay tied
pub record HasGone (g : Config) (now at : ℕ) (old : Flows) (ledger : List Off) (lines : List Direction) (new : Flows) (ledger' : List Off) : Type 0 where
  pub lines' : List Direction
  pub offs : List Off
  pub forgets : ForgetsAt g old.journal.ends (conns_of old.conns) lines at offs lines'
  pub ledger_is : ledger' ≡ ledger ++ offs
  pub same : new.journal ≡ old.journal
  pub tied : AreTied g now new lines'
  pub ids : SameIds old new

-- `forget` answers whether there are any
abbrev pub ForgetsIn : ℕ → ℕ → Flows → List Off → Result Bool Memory → Flows → List Off → Type 0
ForgetsIn now at old ledger (Ok true) new ledger' = Tells (HoldsGone now) at old.conns ×
    ((g : Config) (lines : List Direction) (end : End) → IsJournal now old.journal.ends → AreTied g now old lines → At old.journal.ends at end → end.state ≡ Allocated → HasGone g now at old ledger lines new ledger')
ForgetsIn now at old ledger (Ok false) new ledger' = Tells (λ k. HoldsGone now k → ⊥) at old.conns × (new ≡ old) × (ledger' ≡ ledger)
ForgetsIn now at old ledger (Err e) new ledger' = (new ≡ old) × (ledger' ≡ ledger)

-- an end has ended: what its connection held is given up, and the flows stay tied
pub record HasStopped (g : Config) (now at : ℕ) (state : PortState) (old : Flows) (ledger : List Off) (lines : List Direction) (new : Flows) (ledger' : List Off) : Type 0 where
  pub offs : List Off
  pub stops : EndsAt old.journal.ends (conns_of old.conns) lines at state offs new.journal.ends
  pub ledger_is : ledger' ≡ ledger ++ offs
  pub tied : AreTied g now new lines
  pub ids : SameIds old new

abbrev pub StopsIn : ℕ → ℕ → PortState → Flows → List Off → Result (Unit {0}) Memory → Flows → List Off → Type 0
StopsIn now at state old ledger (Ok u) new ledger' =
    (g : Config) (lines : List Direction) (end : End) → IsJournal now old.journal.ends → AreTied g now old lines → At old.journal.ends at end → end.state ≡ Allocated → Moves end.state state → state ≢ Allocated → HasStopped g now at state old ledger lines new ledger'
StopsIn now at state old ledger (Err e) new ledger' = (new ≡ old) × (ledger' ≡ ledger)

-- so with room for that: its lines are so many more at most
pub record HasStoppedWithin (g : Config) (now at : ℕ) (state : PortState) (old : Flows) (ledger : List Off) (lines : List Direction) (new : Flows) (ledger' : List Off) (held : ℕ) : Type 0 where
  pub stopped : HasStopped g now at state old ledger lines new ledger'
  pub few : length ledger' ≤ length ledger + held

abbrev pub StopsWithin : ℕ → ℕ → PortState → Flows → List Off → ℕ → Flows → List Off → Type 0
StopsWithin now at state old ledger room new ledger' =
    (g : Config) (lines : List Direction) (end : End) (conn : Conn) → IsJournal now old.journal.ends → AreTied g now old lines → At old.journal.ends at end → end.state ≡ Allocated → Moves end.state state → state ≢ Allocated → slice_get old.conns at ≡ Some conn → length ledger + length (kept_numbers conn.rx) ≤ room →
    HasStoppedWithin g now at state old ledger lines new ledger' (length (kept_numbers conn.rx))
