-- What a tower refuses at its top rank by what it alone knows.
use Rattle.std.specs.Prelude.{ℕ, Bool, true, false, List, map, nat_lt, slice_get, Option, Some, None, IfSome, option_and_then, if◌then◌else◌}
use Rattle.rina_base.specs.declared.number.Port.{Port}
use Rattle.rina_conn.specs.declared.conn.Conn.{Conn}
use Rattle.rina_iface.specs.declared.ask.Ask.{Ask}
use Rattle.rina_iface.specs.declared.ends.End.{End}
use Rattle.rina_iface.specs.declared.error.AllocateError.{AllocateError}
use Rattle.rina_iface.specs.declared.error.RegisterError.{RegisterError}
use Rattle.rina_iface.specs.declared.error.SendError.{SendError}
use Rattle.rina_iface.specs.declared.error.SendError.TheVariants.{QueueFull}
use Rattle.rina_iface.specs.declared.error.UnregisterError.{UnregisterError}
use Rattle.rina_iface.specs.Ends.{place_in}
use Rattle.rina_iface.specs.Send.{IsOwnRefusal}
use Rattle.rina_law.specs.Sender.{NumbersSpent, WindowShut}
use Rattle.rina_data.specs.Deciding.{process_of}
use Rattle.rina_data.specs.Configs.{config_of}
use Rattle.rina_data.specs.Process.{Process, next_hop, queue_place}
use Rattle.rina_dif_law.specs.Ids.{Ids}
use Rattle.rina_dif_law.specs.Sending.{by_hop, by_process, by_sender, home, process_at, queue_in, room_in}
use Rattle.rina_dif.specs.declared.dif.Dif.{Dif}
use Rattle.rina_dif.specs.Allocating.{allocate_refusal}
use Rattle.rina_dif.specs.Registering.{register_refusal, unregister_refusal}
use Rattle.rina_dif.specs.Facade.{own_at, own_by, own_refusal, pieces_in, way_refusal}
use Rattle.rina_flows.specs.Tied.{ids_of}
use Rattle.rina_wire.specs.Air.{wire_at}
use Rattle.rina_wire.specs.Allocate.{own_allocate_refusal}
use Rattle.rina_wire.specs.Send.{own_send_refusal, refuses_own as wires_refuse}
use Rattle.rina_tower.specs.declared.tower.Tower.{Tower, Wires, Rank'}

-- over DIFs a name is refused by the member at its node, and so is an ask

abbrev pub own_register : List Dif → ℕ → ℕ → Option RegisterError
own_register difs fac node = option_and_then (λ (d : Dif). register_refusal d node) (slice_get difs fac)

abbrev pub own_unregister : List Dif → ℕ → ℕ → Option UnregisterError
own_unregister difs fac node = option_and_then (λ (d : Dif). unregister_refusal d node) (slice_get difs fac)

abbrev pub own_allocate : List Dif → Ask → Option AllocateError
own_allocate difs ask = option_and_then (λ (d : Dif). allocate_refusal d ask) (slice_get difs ask.fac)

abbrev pub refuses_register : Tower → ℕ → ℕ → List ℕ → Option RegisterError
refuses_register (Wires a) fac node app = None
refuses_register (Rank' p difs below) fac node app = own_register difs fac node

abbrev pub refuses_unregister : Tower → ℕ → ℕ → List ℕ → Option UnregisterError
refuses_unregister (Wires a) fac node app = None
refuses_unregister (Rank' p difs below) fac node app = own_unregister difs fac node

abbrev pub refuses_allocate : Tower → Ask → Option AllocateError
refuses_allocate (Wires a) ask = own_allocate_refusal a ask
refuses_allocate (Rank' p difs below) ask = own_allocate difs ask

-- a send, by the DIF of the port
abbrev pub refuses_send : Tower → Port → ℕ → Option SendError
refuses_send (Wires a) port len = own_send_refusal a port
refuses_send (Rank' p difs below) port len = option_and_then (λ (d : Dif). own_refusal d port len) (slice_get difs port.fac)

-- a wire closes both ends of a flow, a DIF the own one
abbrev pub frees_both : Tower → Bool
frees_both (Wires a) = true
frees_both (Rank' p difs below) = false

-- What a DIF refuses to a send so is nothing that every facility refuses

room_own : (need room : ℕ) → IfSome (if nat_lt room need then Some (QueueFull need room) else None) IsOwnRefusal
room_own need room = elim (nat_lt room need) as (λ b. IfSome (if b then Some (QueueFull need room) else None) IsOwnRefusal) [ true ↦ tt | false ↦ tt ]

hop_own : (cap need : ℕ) (process : Process) (ids : Ids) (link : Option ℕ) → IfSome (by_hop cap need process ids link) IsOwnRefusal
hop_own cap need process ids None = tt
hop_own cap need process ids (Some link) = room_own need (room_in cap (queue_in process.queues (queue_place ids.qos link process.queues)))

way_own : (cap need : ℕ) (ids : Ids) (process : Option Process) → IfSome (by_process cap need ids process) IsOwnRefusal
way_own cap need ids None = tt
way_own cap need ids (Some process) = hop_own cap need process ids (next_hop ids.far process.routes)

-- a sender refuses by its window before the way, and by its numbers after it
sender_own : (shut spent : Bool) (need room until : ℕ) (way : Option SendError) → IfSome way IsOwnRefusal → IfSome (by_sender (if shut then Some (WindowShut need room) else (if spent then Some (NumbersSpent until) else None)) way) IsOwnRefusal
sender_own true spent need room until way own = tt
sender_own false true need room until (Some e) own = own
sender_own false true need room until None own = tt
sender_own false false need room until way own = own

end_own : (d : Dif) (len : ℕ) (end : Option End) (conn : Option Conn) → IfSome (own_by d len end conn) IsOwnRefusal
end_own d len None conn = tt
end_own d len (Some end) None = tt
end_own d len (Some end) (Some conn) = sender_own _ _ _ _ _ (way_refusal d end conn (pieces_in len conn.sending.form.piece)) (way_own d.settings.cap (pieces_in len conn.sending.form.piece) (ids_of conn) (process_at (map process_of d.processes) (home end.port.node (config_of d.settings).members)))

place_own : (d : Dif) (len : ℕ) (at : Option ℕ) → IfSome (own_at d len at) IsOwnRefusal
place_own d len None = tt
place_own d len (Some at) = end_own d len (slice_get d.flows.journal.ends at) (slice_get d.flows.conns at)

dif_own : (dif : Option Dif) (port : Port) (len : ℕ) → IfSome (option_and_then (λ (d : Dif). own_refusal d port len) dif) IsOwnRefusal
dif_own None port len = tt
dif_own (Some d) port len = place_own d len (place_in port d.flows.journal.ends)

pub refuses_own : (t : Tower) (port : Port) (len : ℕ) → IfSome (refuses_send t port len) IsOwnRefusal
refuses_own (Wires a) port len = wires_refuse (wire_at a port.fac)
refuses_own (Rank' p difs below) port len = dif_own (slice_get difs port.fac) port len
