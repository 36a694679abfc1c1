-- A DIF as one facility of its rank.
use Rattle.std.specs.Prelude.{◌≡◌, ◌↔◌, ℕ, ◌+◌, ◌-◌, ◌*◌, ◌/◌, ◌==◌, ◌&&◌, ◌||◌, Bool, true, nat_le, nat_lt, List, map, slice_get, Option, Some, None, option_and_then, if◌then◌else◌}
use Rattle.rina_account.specs.declared.ledger.Off.{Off}
use Rattle.rina_agent.specs.declared.state.MemberState.{MemberState}
use Rattle.rina_base.specs.declared.number.Port.{Port}
use Rattle.rina_conn.specs.declared.conn.Conn.{Conn}
use Rattle.rina_conn.specs.declared.sending.Sending.{Sending}
use Rattle.rina_cube.specs.declared.Cube.{Cube}
use Rattle.rina_cube.specs.declared.Kind.{Kind}
use Rattle.rina_cube.specs.declared.Kind.TheVariants.{Reliable}
use Rattle.rina_cube.specs.Cubes.{delta_of, is_reliable}
use Rattle.rina_dtcp.specs.Senders.{Kept}
use Rattle.rina_iface.specs.declared.ends.End.{End}
use Rattle.rina_iface.specs.declared.error.SendError.{SendError}
use Rattle.rina_iface.specs.Ends.{end_in, place_in}
use Rattle.rina_iface.specs.Seen.{Offer, Seen, cube_at, cube_in, end_of, unpassed, with_fac}
use Rattle.rina_iface.specs.Later.{IsLaterFac}
use Rattle.rina_law.specs.declared.entry.Entry.{Entry}
use Rattle.rina_law.specs.Direction.{Direction}
use Rattle.rina_law.specs.Sender.{NumbersSpent, Refusal, WindowShut}
use Rattle.rina_data.specs.declared.process.IpcProcess.{IpcProcess}
use Rattle.rina_data.specs.Configs.{config_of, cube_by}
use Rattle.rina_data.specs.Deciding.{process_of}
use Rattle.rina_dif_law.specs.Dif.{fac_of}
use Rattle.rina_dif_law.specs.Others.{AreApart}
use Rattle.rina_dif_law.specs.Sending.{by_process, by_sender, home, process_at}
use Rattle.rina_dif_law.specs.Upward.{IsFacility}
use Rattle.rina_flows.specs.Tied.{ids_of}
use Rattle.rina_member.specs.declared.management.Management.{Management}
use Rattle.rina_dif.specs.declared.dif.Dif.{Dif}
use Rattle.rina_dif.specs.Holding.{Holds, Passes, Stands}
use Rattle.rina_dif.specs.Managing.{StayEnrolled}
use Rattle.rina_dif.specs.Shown.{seen_of}

-- the rank shows the DIF as its facility n
pub record IsShownAs (s : Seen) (n : ℕ) (d : Dif) : Type 0 where
  pub clock : s.now ≡ d.clock
  pub here : slice_get s.facs n ≡ Some (fac_of (seen_of d))

-- the rank with the DIF after a call
abbrev pub shown_as : Seen → ℕ → Dif → Seen
shown_as s n d = with_fac s n (fac_of (seen_of d))

-- What it shows of a port

abbrev pub its_end : Dif → Port → Option End
its_end d port = end_in port d.flows.journal.ends

abbrev pub its_cube : Dif → Port → Option Offer
its_cube d port = option_and_then (λ (e : End). cube_in (fac_of (seen_of d)).cubes e.cube) (its_end d port)

abbrev pub cube_there : Dif → Port → Option Cube
cube_there d port = option_and_then (λ (e : End). cube_by e.cube d.settings.cubes) (its_end d port)

abbrev pub its_oldest : Dif → Port → Option Entry
its_oldest d port = option_and_then (λ (e : End). slice_get e.got e.taken) (its_end d port)

-- and so does the rank
pub record IsShownAt (s : Seen) (d : Dif) (port : Port) : Type 0 where
  pub end : end_of s port ≡ its_end d port
  pub cube : cube_at s port ≡ its_cube d port
  pub oldest : unpassed s port ≡ its_oldest d port

abbrev pub RankShows : Type 0
RankShows = (s : Seen) (d : Dif) (port : Port) → IsShownAs s port.fac d → IsShownAt s d port

-- What the DIF alone knows of what a send is refused by

-- nothing is unacknowledged
abbrev pub is_idle : Kind → Kept → Bool
is_idle Reliable k = nat_le k.count k.acked
is_idle kind k = true

-- the state of a sender is over, so that it begins again
abbrev pub is_over : ℕ → Sending → Bool
is_over now s = (s.tx.count == 0) || (is_idle s.form.cube.kind s.tx && nat_le (s.tx.last_out + 3 * delta_of s.form.cube) now)

-- the refusal of so many pieces by a sender with this next number, which may send numbers up to `right`
abbrev pub refusal_from : (next right : ℕ) → Sending → ℕ → Option Refusal
refusal_from next right s need =
    if is_reliable s.form.cube.kind && nat_lt (right + 1 - next) need then Some (WindowShut need (right + 1 - next))
    else (if nat_lt (s.numbers.max + 1) (next + need) then Some (NumbersSpent (s.tx.last_out + 3 * delta_of s.form.cube)) else None)

abbrev pub refusal_by : Bool → Sending → ℕ → Option Refusal
refusal_by over s need = refusal_from (if over then 0 else s.tx.count) (if over then s.form.cube.window - 1 else s.tx.right) s need

-- an SDU of so many bytes has so many pieces
abbrev pub pieces_in : ℕ → ℕ → ℕ
pieces_in len size = (len - 1) / size + 1

-- what the way of so many pieces refuses
abbrev pub way_refusal : Dif → End → Conn → ℕ → Option SendError
way_refusal d end conn need = by_process d.settings.cap need (ids_of conn) (process_at (map process_of d.processes) (home end.port.node (config_of d.settings).members))

abbrev pub own_of : Dif → ℕ → End → Conn → Option SendError
own_of d need end conn = by_sender (refusal_by (is_over d.clock conn.sending) conn.sending need) (way_refusal d end conn need)

abbrev pub own_by : Dif → ℕ → Option End → Option Conn → Option SendError
own_by d len (Some end) (Some conn) = own_of d (pieces_in len conn.sending.form.piece) end conn
own_by d len end conn = None

abbrev pub own_at : Dif → ℕ → Option ℕ → Option SendError
own_at d len None = None
own_at d len (Some at) = own_by d len (slice_get d.flows.journal.ends at) (slice_get d.flows.conns at)

-- what `send` refuses by what the DIF alone knows: by the sender, the next hop and its queue
abbrev pub own_refusal : Dif → Port → ℕ → Option SendError
own_refusal d port len = own_at d len (place_in port d.flows.journal.ends)

-- Passing

-- the oldest SDU of a port's end is passed
pub record PassesAt (d : Dif) (lines : List Direction) (port : Port) (d' : Dif) (below : Seen) : Type 0 where
  pub at : ℕ
  pub place : place_in port d.flows.journal.ends ≡ Some at
  pub passes : Passes d lines at d' below

-- What a rank needs of each call

-- the DIF has gone on as a facility, with what it keeps of its flows; who is enrolled stays so
pub record GoesOn (d d' : Dif) : Type 0 where
  pub later : IsLaterFac d.clock d'.clock (fac_of (seen_of d)) (fac_of (seen_of d'))
  pub facility : IsFacility (seen_of d')
  pub clock : d'.clock ≡ d.clock
  pub enrolled : StayEnrolled d.enrolled d'.enrolled

-- it stands wherever it stood
abbrev pub StaysStanding : Dif → Dif → Type 0
StaysStanding d d' = (below : Seen) → Stands d below → Stands d' below

-- a call that answers this notes whether memory was missing, and where it was missing before that is the answer
pub record NotesMemory {T : Type 0} (d d' : Dif) (result missing : T) : Type 0 where
  pub failed : d.failed ≡ true → result ≡ missing
  pub fails : d'.failed ≡ true ↔ (result ≡ missing)

-- What a rank needs of each step

-- the other DIFs of its rank, which share no IPC process with it, stand on
abbrev pub OthersStand : Dif → Seen → Seen → Type 0
OthersStand d below below' = (other : Dif) (lines : List Direction) → AreApart (seen_of d) (seen_of other) → Holds other lines below → Holds other lines below'

-- What it tells of a member

-- the state of the member at a node
pub record IsStateAt (d : Dif) (node : ℕ) (state : MemberState) : Type 0 where
  pub place : ℕ
  pub at_home : home node (config_of d.settings).members ≡ Some place
  pub management : Management
  pub stands : slice_get d.managements place ≡ Some management
  pub is : state ≡ management.agent.state

-- What it has written off

-- these are the write-offs of the member at a node, the oldest first
pub record IsLedger (d : Dif) (node : ℕ) (offs : List Off) : Type 0 where
  pub place : ℕ
  pub at_home : home node (config_of d.settings).members ≡ Some place
  pub process : IpcProcess
  pub stands : slice_get d.processes place ≡ Some process
  pub is : offs ≡ process.ledger
