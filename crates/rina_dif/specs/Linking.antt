-- How the links of a new DIF get their management connections.
use Rattle.std.specs.Prelude.{◌≡◌, ℕ, suc, ◌^◌, ◌<◌, ◌==◌, ◌&&◌, Bool, List, [], ◌∷◌, ◌++◌, length, map, position, slice_get, Option, Some, option_map}
use Rattle.rina_base.specs.declared.number.FlowName.{FlowName}
use Rattle.rina_base.specs.declared.number.Port.{Port}
use Rattle.rina_channel.specs.declared.channel.Attachment.{Attachment}
use Rattle.rina_channel.specs.declared.channel.Channel.{Channel}
use Rattle.rina_cube.specs.declared.Cube.{Cube}
use Rattle.rina_data.specs.declared.link.Link.{Link}
use Rattle.rina_data.specs.declared.process.IpcProcess.{IpcProcess}
use Rattle.rina_data.specs.declared.settings.Member.{Member}
use Rattle.rina_data.specs.declared.settings.Settings.{Settings}
use Rattle.rina_data.specs.Configs.{config_of, greatest, piece_size}
use Rattle.rina_data.specs.Deciding.{process_of}
use Rattle.rina_dif_law.specs.Numbered.{AreMembers}
use Rattle.rina_flows.specs.Adding.{Adds}
use Rattle.rina_iface.specs.declared.ends.End.{End}
use Rattle.rina_iface.specs.declared.state.PortState.TheVariants.{Allocated}
use Rattle.rina_iface.specs.declared.state.Role.TheVariants.{Asker, Far}
use Rattle.rina_iface.specs.Allocate.{new_end}
use Rattle.rina_iface.specs.Seen.{Seen}
use Rattle.rina_dif.specs.declared.connections.Connections.{Connections}
use Rattle.rina_dif.specs.declared.dif.Dif.{Dif}
use Rattle.rina_iface.specs.declared.ask.Fixed.{Fixed}
use Rattle.rina_dif.specs.Connected.{AreConnected}
use Rattle.rina_dif.specs.Laying.{AreApart, AreLinkedUp, BindsAll, IsNewLink, ends_of}

-- the links of a DIF were laid on the rank below with these ports, and are those of its IPC processes
pub record AreLinks (s : Settings) (clock : ℕ) (ports : List (Port × Port)) (processes : List IpcProcess) (below : Seen) : Type 0 where
  pub clock_is : clock ≡ below.now
  pub members : AreMembers (config_of s)
  pub up : AreLinkedUp s (ends_of ports) processes
  pub flows : (k : ℕ) (pair : Port × Port) → slice_get ports k ≡ Some pair → IsNewLink s below pair
  pub apart : AreApart (ends_of ports)

-- a link has this port
unfoldable pub is_on : Port → Link → Bool
is_on port l = (l.port.fac == port.fac) && (l.port.node == port.node) && (l.port.n == port.n)

-- the port below of a channel that is attached
abbrev pub port_of : Channel → Option Port
port_of channel = option_map (λ (a : Attachment). a.port) channel.link

-- the channel is attached to the link with this port, at the member of the port's node
pub record IsChannelOf (s : Settings) (processes : List IpcProcess) (port : Port) (partner : ℕ) (channel : Channel) : Type 0 where
  pub home : position (λ (m : Member). m.node == port.node) s.members ≡ Some channel.member
  pub process : IpcProcess
  pub is_process : slice_get processes channel.member ≡ Some process
  pub place : ℕ
  pub link : Link
  pub stands : slice_get process.links place ≡ Some link
  pub on_port : link.port ≡ port
  pub attached : channel.link ≡ Some (record { number = link.number; port = port })
  pub partner_is : channel.partner ≡ partner

-- such a link is there
abbrev pub HasChannel : Settings → List IpcProcess → Port → Type 0
HasChannel s processes port = (channel : Channel) × IsChannelOf s processes port channel.partner channel

-- Both ends of a connection are made, at the next two places

-- the name of the connection whose first end has this place
abbrev pub name_at : ℕ → ℕ → FlowName
name_at clock place = record { src = place; tick = clock; count = 0 }

pub record Connects (s : Settings) (processes : List IpcProcess) (clock : ℕ) (pair : Port × Port) (old new : Connections) : Type 0 where
  pub place : ℕ
  pub place_is : place ≡ length old.channels
  pub room : suc place < 2 ^ 32
  pub near : Channel
  pub far : Channel
  pub is_near : IsChannelOf s processes pair.0 (suc place) near
  pub is_far : IsChannelOf s processes pair.1 place far
  pub near_member : Member
  pub far_member : Member
  pub asker : End
  pub asker_is : asker ≡ new_end (name_at clock place) Asker pair.0 near_member.name far_member.name 0 Allocated
  pub end : End
  pub end_is : end ≡ new_end (name_at clock place) Far pair.1 far_member.name near_member.name 0 Allocated
  pub manage_is : new.manage ≡ old.manage
  pub channels_are : new.channels ≡ old.channels ++ near ∷ far ∷ []
  pub ends_are : new.flows.journal.ends ≡ old.flows.journal.ends ++ asker ∷ end ∷ []
  pub adds : Adds old.manage (piece_size (config_of s)) (greatest (config_of s)) (record { own = place; far = suc place; scep = 0; dcep = 0 }) asker end old.flows new.flows

-- Each link has its connection

-- an end is allocated, and nothing was offered or handled there
pub record IsOpen (e : End) : Type 0 where
  pub allocated : e.state ≡ Allocated
  pub sent : e.sent ≡ []
  pub got : e.got ≡ []

-- the connections of links with these ports: both ends of each, one after the other
pub record HaveConnections (s : Settings) (manage : Cube) (ports : List (Port × Port)) (processes : List IpcProcess) (c : Connections) : Type 0 where
  pub manage_is : c.manage ≡ manage
  pub ports_are : map port_of c.channels ≡ map Some (ends_of ports)
  pub links : (k : ℕ) (x : Channel) (port : Port) → slice_get c.channels k ≡ Some x → port_of x ≡ Some port → IsChannelOf s processes port x.partner x
  pub alike : length c.flows.journal.ends ≡ length c.channels
  pub unused : (k : ℕ) (e : End) → slice_get c.flows.journal.ends k ≡ Some e → IsOpen e

-- wherever the links were laid, they stand
abbrev pub StandOnLinks : Settings → ℕ → List (Port × Port) → List IpcProcess → Connections → Type 0
StandOnLinks s clock ports processes c = (below : Seen) → AreLinks s clock ports processes below → AreConnected (config_of s) clock c (map process_of processes) below

-- The DIF of a plan

-- the links were bound below one after the other, and each has its connection
pub record IsConnected (d : Dif) (manage : Cube) (links : List Fixed) (old new : Seen) : Type 0 where
  pub ports : List (Port × Port)
  pub bound : BindsAll old links ports new
  pub have : HaveConnections d.settings manage ports d.processes d.connections
