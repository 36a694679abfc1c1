-- What ties the connections of a DIF to the directions of the law, one at the place of each end.
use Rattle.std.specs.Prelude.{◌≡◌, ◌≢◌, ℕ, ◌-◌, ◌<◌, ◌≤◌, ◌⊎◌, true, List, [], length, map, slice_get, Some}
use Rattle.std.specs.List.Sorted.{IsStrictlyIncreasing}
use Rattle.rina_conn.specs.declared.conn.Conn.{Conn}
use Rattle.rina_conn.specs.declared.form.Peer.{Peer}
use Rattle.rina_conn.specs.Conns.{HasNoLast, IsNewConn}
use Rattle.rina_conn.specs.Sending.{IsSender}
use Rattle.rina_conn.specs.Standing.{AreWaiting}
use Rattle.rina_cube.specs.declared.Kind.{Kind}
use Rattle.rina_cube.specs.declared.Kind.TheVariants.{Reliable}
use Rattle.rina_dif_law.specs.Counting.{held_numbers, times}
use Rattle.rina_data.specs.Configs.{Config, cube_by, greatest, piece_size}
use Rattle.rina_dif_law.specs.Dif.{constants}
use Rattle.rina_dif_law.specs.Ids.{Ids, flipped}
use Rattle.rina_dif_law.specs.Incoming.{IsKeptNumber}
use Rattle.rina_dtcp.specs.Plans.{IsPlanOf}
use Rattle.rina_dtp.specs.declared.source.Source.{Source}
use Rattle.rina_dtp.specs.Joins.{IsForward}
use Rattle.rina_dtp.specs.Receiving.{Receiving, kept_numbers, lost_in}
use Rattle.rina_dtp.specs.Stands.{Stands}
use Rattle.rina_iface.specs.declared.ends.End.{End}
use Rattle.rina_iface.specs.declared.state.PortState.TheVariants.{Allocated, Pending}
use Rattle.rina_iface.specs.Journal.{At, HasPartner, IsPartner}
use Rattle.rina_law.specs.Constants.{Constants}
use Rattle.rina_law.specs.Direction.{Direction}
use Rattle.rina_law.specs.Lists.{In}
use Rattle.rina_law.specs.Receiver.{Receiver, numbers}

-- The names of a connection

abbrev pub ids_by : Peer → ℕ → Ids
ids_by peer qos = record { own = peer.own; far = peer.far; scep = peer.scep; dcep = peer.dcep; qos = qos }

abbrev pub ids_of : Conn → Ids
ids_of k = ids_by k.sending.form.peer k.sending.form.cube.id

abbrev pub conns_of : List Conn → List Ids
conns_of ks = map ids_of ks

-- what never changes in the direction in which the connection sends, and in the one in which it receives
abbrev pub outward : Config → Conn → Constants
outward g k = constants g k.sending.form.cube (ids_of k)

abbrev pub inward : Config → Conn → Constants
inward g k = constants g k.sending.form.cube (flipped (ids_of k))

-- where pieces of the far end come from
abbrev pub source_from : Ids → Source
source_from ids = record { src = ids.far; scep = ids.dcep; dcep = ids.scep }

-- Places

-- at this place stand this end and its connection
pub record IsAt (ends : List End) (conns : List Conn) (at : ℕ) (end : End) (conn : Conn) : Type 0 where
  pub end_is : At ends at end
  pub conn_is : slice_get conns at ≡ Some conn

-- the direction in which an end receives: that of its partner
pub record IsInboundAt (ends : List End) (lines : List Direction) (end : End) (from : ℕ) (line : Direction) : Type 0 where
  pub partner : End
  pub is_partner : At ends from partner
  pub partners : IsPartner partner end
  pub is_line : slice_get lines from ≡ Some line

-- The tie

-- the connection is of a cube of the DIF, and stands for the sender of the direction
pub record IsSending (g : Config) (now : ℕ) (conn : Conn) (line : Direction) : Type 0 where
  pub cube : cube_by conn.sending.form.cube.id g.cubes ≡ Some conn.sending.form.cube
  pub clock : line.line.clock ≡ now
  pub sender : IsSender (outward g conn) line.line.sender conn.sending

-- a piece that the receiver still keeps, be it of a state that has ended: the far end sent it, and the direction's
-- receiver kept it
pub record IsKeptBy (ids : Ids) (line : Direction) (r : Receiving) (n : ℕ) : Type 0 where
  pub made : line.line.receiver.made ≡ true
  pub source : r.source ≡ source_from ids
  pub number : IsKeptNumber line n

-- a receiver holds each number beside the joiner once at most, and only on a reliable flow
pub record HoldsOnce (kind : Kind) (m : Receiver) : Type 0 where
  pub once : (n : ℕ) → times n (numbers m.held) ≤ 1
  pub only : kind ≢ Reliable → m.held ≡ []

-- the connection stands for the receiver and the joiner of a direction with these constants. All that came is fetched,
-- but for what is held of a state that has ended. It has noted which SDUs wait to be passed; those of earlier states are
-- fewer than a window. It keeps exactly the pieces that the direction holds, each once, in the order of their numbers
pub record IsReceiving (c : Constants) (now : ℕ) (ids : Ids) (conn : Conn) (line : Direction) : Type 0 where
  pub stands : Stands c now line.line.receiver line.inbox.joiner conn.rx
  pub plan : IsPlanOf c line.mark conn.plan
  pub last : HasNoLast line.line.receiver
  pub whole : conn.rx.join.whole ≡ []
  pub broken : lost_in conn.rx.join.gaps ≡ []
  pub forward : IsForward conn.rx.join.joining.held
  pub waiting : AreWaiting c line [] conn.waiting
  pub early : line.state_from - line.passed < c.cube.window
  pub kept : (n : ℕ) → In n (kept_numbers conn.rx) → IsKeptBy ids line conn.rx n
  pub once : HoldsOnce c.cube.kind line.line.receiver
  pub all : (n : ℕ) → times n (kept_numbers conn.rx) ≡ times n (held_numbers line)
  pub rising : IsStrictlyIncreasing (kept_numbers conn.rx)

-- an end that was never allocated: it waits, or it has no partner
abbrev pub IsUnused : List End → End → Type 0
IsUnused ends end = (end.state ≡ Pending) ⊎ (HasPartner ends end → ⊥)

-- the end at a place was allocated
abbrev pub IsUsed : List End → ℕ → Type 0
IsUsed ends at = (end : End) → At ends at end → IsUnused ends end → ⊥

-- its connection is new, and it got nothing
pub record IsNewAt (g : Config) (end : End) (conn : Conn) : Type 0 where
  pub new : IsNewConn conn.sending.form.cube (piece_size g) (greatest g) conn.sending.form.peer conn
  pub got : end.got ≡ []

-- the connection of each place stands for the sender of the direction there, and, while its end is allocated, for the
-- receiver of the direction from its partner. That of an end that was never allocated is new, and no state of a receiver was
-- made behind an SDU in the direction to an end that waits
pub record IsTied (g : Config) (now : ℕ) (ends : List End) (conns : List Conn) (lines : List Direction) : Type 0 where
  pub alike : length conns ≡ length ends
  pub lines_alike : length lines ≡ length ends
  pub sends : (at : ℕ) (conn : Conn) (line : Direction) → slice_get conns at ≡ Some conn → slice_get lines at ≡ Some line → IsSending g now conn line
  pub receives : (at from : ℕ) (end : End) (conn : Conn) (line : Direction) → IsAt ends conns at end conn → end.state ≡ Allocated → IsInboundAt ends lines end from line → IsReceiving (inward g conn) now (ids_of conn) conn line
  pub unused : (at : ℕ) (end : End) (conn : Conn) → IsAt ends conns at end conn → IsUnused ends end → IsNewAt g end conn
  pub early : (at from : ℕ) (end : End) (line : Direction) → At ends at end → end.state ≡ Pending → IsInboundAt ends lines end from line → line.state_from ≡ 0
