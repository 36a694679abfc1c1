-- The way of a flow through a DIF: hops of its IPC processes, and what these charge.
use Rattle.std.specs.Prelude.{◌≡◌, ◌≢◌, ℕ, ◌+◌, ◌-◌, ◌/◌, ◌^◌, ◌<◌, ◌==◌, nat_le, if◌then◌else◌, length, min, List, [], ◌∷◌, find, position, slice_get, Option, Some, None, option_and_then, option_map}
use Rattle.std.specs.List.{sum_by}
use Rattle.std.specs.Str.{bytes_eq}
use Rattle.rina_base.specs.declared.number.Port.{Port}
use Rattle.rina_iface.specs.declared.ends.End.{End}
use Rattle.rina_iface.specs.Seen.{Seen, end_of, promise_at}
use Rattle.rina_data.specs.declared.link.Link.{Link}
use Rattle.rina_data.specs.declared.process.IpcProcess.{IpcProcess}
use Rattle.rina_data.specs.declared.settings.Member.{Member}
use Rattle.rina_data.specs.Process.{link_by, next_hop}
use Rattle.rina_base.specs.declared.pdu.PduKind.TheVariants.{Piece}
use Rattle.rina_cube.specs.declared.Kind.{Kind}
use Rattle.rina_cube.specs.declared.Kind.TheVariants.{Reliable}
use Rattle.rina_pci.specs.Spelling.{pci_size}
use Rattle.rina_data.specs.declared.settings.Settings.{Settings}
use Rattle.rina_data.specs.Configs.{cube_by}
use Rattle.rina_way.specs.declared.row.Row.{Row}
use Rattle.rina_way.specs.declared.hop.Hop.{Hop}
use Rattle.rina_way.specs.declared.slack.Slack.{Slack}
use Rattle.rina_way.specs.declared.slack.Slack.TheVariants.{Left, Short}

-- the place of the member at a node
abbrev pub home : ℕ → List Member → Option ℕ
home node members = position (λ (m : Member). m.node == node) members

-- the address of the member at a node
abbrev pub address : ℕ → List Member → Option ℕ
address node members = option_map (λ (m : Member). m.addr) (find (λ (m : Member). m.node == node) members)

-- the node of the member of a name
abbrev pub member_named : List ℕ → List Member → Option ℕ
member_named name members = option_map (λ (m : Member). m.node) (find (λ (m : Member). bytes_eq m.name name) members)

-- the IPC process at a node
abbrev pub process_at : List Member → List IpcProcess → ℕ → Option IpcProcess
process_at members processes node = option_and_then (λ i. slice_get processes i) (home node members)

-- the link by which an IPC process sends what is for an address: the live one of the number of its next hop
abbrev pub link_to : ℕ → IpcProcess → Option Link
link_to dst p = option_and_then (λ number. link_by number p.links) (next_hop dst p.routes)

-- the node at the other end of a flow below, whose application there is an IPC process of the DIF
abbrev pub far_node : Seen → List Member → Port → Option ℕ
far_node below members port = option_and_then (λ (e : End). member_named e.peer members) (end_of below port)

abbrev pub hop_between : ℕ → Link → ℕ → ℕ → Hop
hop_between from link to charge = record { from = from; link = link; to = to; charge = charge }

-- the hop over a link; it charges what the flow below promises
abbrev pub hop_over : Seen → List Member → ℕ → Link → Option Hop
hop_over below members from link =
    option_and_then (λ to. option_map (λ charge. hop_between from link to charge) (promise_at below link.port)) (far_node below members link.port)

-- the next hop to an address, of the IPC process at a node
abbrev pub hop_at : Seen → List Member → List IpcProcess → ℕ → ℕ → Option Hop
hop_at below members processes dst from =
    option_and_then (λ (p : IpcProcess). option_and_then (hop_over below members from) (link_to dst p)) (process_at members processes from)

-- the way to an address from a node to another: hop by hop, each the next hop of the IPC process where it stands, up to that node
abbrev pub IsWay : Seen → List Member → List IpcProcess → ℕ → ℕ → List Hop → ℕ → Type 0
IsWay below members processes dst from [] to = from ≡ to
IsWay below members processes dst from (h ∷ hs) to = (hop_at below members processes dst from ≡ Some h) × (from ≢ to) × IsWay below members processes dst h.to hs to

-- what hops charge at least, in ticks
abbrev pub charges : List Hop → ℕ
charges hops = sum_by (λ (h : Hop). h.charge) hops

-- what is left of a lifetime after so many ticks are charged, or how much it is too short
abbrev pub slack_of : ℕ → ℕ → Slack
slack_of mpl charged = if nat_le charged mpl then Left (mpl - charged) else Short (min charged (2 ^ 64 - 1) - mpl)

-- the way from a node to another one: to the address of the member there
abbrev pub IsWayTo : Option ℕ → Seen → List Member → List IpcProcess → ℕ → List Hop → ℕ → Type 0
IsWayTo None below members processes from hops to = ⊥
IsWayTo (Some dst) below members processes from hops to = IsWay below members processes dst from hops to

abbrev pub Leads : Seen → List Member → List IpcProcess → ℕ → List Hop → ℕ → Type 0
Leads below members processes from hops to = IsWayTo (address to members) below members processes from hops to

-- what was found of a way: the way, or that none has at most as many hops as there are members
abbrev pub Finds : Seen → List Member → List IpcProcess → ℕ → Option (List Hop) → ℕ → Type 0
Finds below members processes from None to = (hops : List Hop) → Leads below members processes from hops to → length members < length hops
Finds below members processes from (Some hops) to = Leads below members processes from hops to

-- how many bytes a piece has at most
abbrev pub piece_size : Settings → ℕ
piece_size s = s.pdu - 4 - pci_size Piece s.widths

-- how many pieces of so many bytes at most an SDU has
abbrev pub pieces : ℕ → ℕ → ℕ
pieces size len = if size == 0 then 0 else (len + size - 1) / size

-- a row of the table: the cube of this id, the pieces of its largest SDU, and the way of the flow there and back
pub record IsRow (below : Seen) (s : Settings) (processes : List IpcProcess) (id from to : ℕ) (row : Row) : Type 0 where
  pub cube : cube_by id s.cubes ≡ Some row.cube
  pub pieces : row.pieces ≡ pieces (piece_size s) row.cube.largest
  pub there : Finds below s.members processes from row.there to
  pub back : Finds below s.members processes to row.back from

-- the ticks from the sending of a piece until its acknowledgement is back, at most, where neither waits in a queue: what the way there and the way
-- back charge, and the time for which an acknowledgement may be held back
abbrev pub trip_by : Kind → ℕ → Option (List Hop) → Option (List Hop) → Option ℕ
trip_by Reliable a (Some there) (Some back) = Some (min (charges there + a + charges back) (2 ^ 64 - 1))
trip_by kind a there back = None

abbrev pub trip : Row → Option ℕ
trip row = trip_by row.cube.kind row.cube.a row.there row.back
