-- What the calls of the flows are in their DIF, and what time does to the tie.
use Rattle.std.specs.Prelude.{◌≡◌, ℕ, ◌+◌, ◌-◌, ◌≤◌, List, ◌++◌, length, map, slice_get, slice_set, Option, Some}
use Rattle.rina_account.specs.declared.ledger.Off.{Off}
use Rattle.rina_base.specs.declared.cause.Cause.{Cause}
use Rattle.rina_base.specs.declared.number.Num.{Num}
use Rattle.rina_base.specs.declared.pdu.Pdu.{Pdu}
use Rattle.rina_base.specs.declared.pdu.PduKind.TheVariants.{Piece as APiece, Ack as AnAck}
use Rattle.rina_conn.specs.declared.conn.Conn.{Conn}
use Rattle.rina_data.specs.Configs.{Config}
use Rattle.rina_ids.specs.Members.{CepIds}
use Rattle.rina_dif_law.specs.Dif.{DifSeen, with_process}
use Rattle.rina_data.specs.Process.{Process, Queue, IsQueue, next_hop, with_offs, with_put}
use Rattle.rina_dif_law.specs.Ending.{GivesBack, IsEnded}
use Rattle.rina_dif_law.specs.Ids.{Ids, IsFrom, flipped}
use Rattle.rina_dif_law.specs.Incoming.{IsArrived, IsTaker, IsTold, lines_for}
use Rattle.rina_dif_law.specs.Lifting.{ticked}
use Rattle.rina_dif_law.specs.Passing.{IsPassed}
use Rattle.rina_dif_law.specs.Sending.{IsOffered, home}
use Rattle.rina_dif_law.specs.Timely.{IsForgotten}
use Rattle.rina_iface.specs.declared.ends.End.{End}
use Rattle.rina_iface.specs.declared.state.PortState.{PortState}
use Rattle.rina_iface.specs.declared.state.PortState.TheVariants.{Allocated}
use Rattle.rina_law.specs.Direction.{Direction}
use Rattle.rina_law.specs.Pieces.{Part}
use Rattle.rina_queue.specs.declared.queue.Queued.{Queued}
use Rattle.rina_flows.specs.Ending.{EndsAt, ForgetsAt}
use Rattle.rina_flows.specs.Rows.{ArrivesAt, OffersAt, PassedAt, TakesAt, ToldAt}
use Rattle.rina_flows.specs.Tied.{IsTied}

-- flows stay tied as time goes on
abbrev pub TimeKeepsTies : Type 0
TimeKeepsTies = (g : Config) (now later : ℕ) (ends : List End) (conns : List Conn) (lines : List Direction) → now ≤ later → IsTied g now ends conns lines → IsTied g later ends conns (map (ticked (later - now)) lines)

-- PDUs that were made now, as they wait
abbrev pub waiting_now : ℕ → ℕ → List Pdu → List Queued
waiting_now mpl now pdus = map (λ pdu. record { pdu = pdu; left = mpl; since = now }) pdus

-- an SDU that is accepted is offered in the DIF once its PDUs stand in the queue of the next hop
abbrev pub OffersAreOffers : Type 0
OffersAreOffers =
    (d : DifSeen) (lines : List Direction) (at : ℕ) (parts : List Part) (num : Num) (pdus : List Pdu) (ends' : List End) (lines' : List Direction) (i : ℕ) (process : Process) (link place : ℕ) (queue : Queue) (d' : DifSeen) → (o : OffersAt d.config d.ends d.conns lines at parts num pdus ends' lines') →
    o.end.state ≡ Allocated → home o.end.port.node d.config.members ≡ Some i → slice_get d.processes i ≡ Some process → next_hop o.its_ids.far process.routes ≡ Some link → IsQueue process o.its_ids.qos link place queue → length queue.items + length pdus ≤ d.config.cap →
    d' ≡ record d { ends = ends'; processes = slice_set d.processes i (with_put process place queue (waiting_now o.cube.mpl d.clock pdus)) } → IsOffered d lines at parts num d' lines'

abbrev pub PassesArePasses : Type 0
PassesArePasses = (d : DifSeen) (lines : List Direction) (at : ℕ) (ends' : List End) (lines' : List Direction) (d' : DifSeen) → PassedAt d.config d.ends d.conns lines at ends' lines' → d' ≡ record d { ends = ends' } → IsPassed d lines at d' lines'

abbrev pub TakersAreTakers : Type 0
TakersAreTakers = (d : DifSeen) (pdu : Pdu) (at : ℕ) (end : End) (ids : Ids) → (TakesAt d.ends d.conns pdu at end ids → IsTaker d pdu at end ids) × (IsTaker d pdu at end ids → TakesAt d.ends d.conns pdu at end ids)

-- a piece that came has arrived in the DIF once the lines are in the ledger of its IPC process
abbrev pub ArrivalsAreArrivals : Type 0
ArrivalsAreArrivals =
    (d : DifSeen) (lines : List Direction) (i : ℕ) (process : Process) (pdu : Pdu) (at : ℕ) (cause : Option Cause) (offs : List Off) (ends' : List End) (lines' : List Direction) (d' : DifSeen) → pdu.kind ≡ APiece → (a : ArrivesAt d.config d.ends d.conns lines at pdu cause offs ends' lines') → a.end.state ≡ Allocated → IsFrom (flipped a.its_ids) pdu →
    d' ≡ record d { ends = ends'; processes = slice_set d.processes i (with_offs process (offs ++ lines_for pdu cause)) } → IsArrived d lines i process pdu cause d' lines'

abbrev pub TellingsAreTold : Type 0
TellingsAreTold = (d : DifSeen) (lines : List Direction) (pdu : Pdu) (at : ℕ) (end : End) (ids : Ids) (lines' : List Direction) → pdu.kind ≡ AnAck → TakesAt d.ends d.conns pdu at end ids → ToldAt lines at pdu lines' → IsTold d lines pdu d lines'

abbrev pub ForgettingIsForgetting : Type 0
ForgettingIsForgetting =
    (d : DifSeen) (lines : List Direction) (at i : ℕ) (process : Process) (offs : List Off) (lines' : List Direction) (d' : DifSeen) → (f : ForgetsAt d.config d.ends d.conns lines at offs lines') → home f.end.port.node d.config.members ≡ Some i → slice_get d.processes i ≡ Some process →
    d' ≡ with_process d i (with_offs process offs) → IsForgotten d lines at d' lines'

abbrev pub EndingsAreEndings : Type 0
EndingsAreEndings =
    (d : DifSeen) (lines : List Direction) (at i : ℕ) (state : PortState) (process : Process) (offs : List Off) (ends' : List End) (held : List CepIds) (d' : DifSeen) → (e : EndsAt d.ends d.conns lines at state offs ends') → home e.end.port.node d.config.members ≡ Some i → slice_get d.processes i ≡ Some process → GivesBack d at e.end held →
    d' ≡ record d { ends = ends'; processes = slice_set d.processes i (with_offs process offs); ids = held } → IsEnded d lines at state d'
