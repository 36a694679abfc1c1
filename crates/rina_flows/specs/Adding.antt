-- A flow that is added, with new connections at both ends.
use Rattle.std.specs.Prelude.{◌≡◌, ◌≢◌, ℕ, List, [], ◌∷◌, ◌++◌, slice_get, slice_set, Some}
use Rattle.rina_conn.specs.declared.conn.Conn.{Conn}
use Rattle.rina_conn.specs.declared.form.Peer.{Peer}
use Rattle.rina_cube.specs.declared.Cube.{Cube}
use Rattle.rina_data.specs.Configs.{Config, cube_by, greatest, piece_size}
use Rattle.rina_dif_law.specs.Dif.{constants}
use Rattle.rina_dif_law.specs.Lifting.{ticked}
use Rattle.rina_dif_law.specs.Standing.{IsJournal}
use Rattle.rina_iface.specs.declared.ends.End.{End}
use Rattle.rina_iface.specs.declared.state.PortState.TheVariants.{Allocated, Pending}
use Rattle.rina_iface.specs.declared.state.Role.TheVariants.{Asker, Far}
use Rattle.rina_iface.specs.Journal.{At, HasPartner}
use Rattle.rina_law.specs.Constants.{Constants}
use Rattle.rina_law.specs.Direction.{Direction, start}
use Rattle.rina_rest.specs.Still.{IsUntaken}
use Rattle.rina_flows.specs.declared.flows.Flows.{Flows}
use Rattle.rina_flows.specs.Calls.{AreTied}
use Rattle.rina_flows.specs.Tied.{IsAt, IsInboundAt, conns_of, ids_by, ids_of}

-- by the far end
abbrev pub turned : Peer → Peer
turned peer = record { own = peer.far; far = peer.own; scep = peer.dcep; dcep = peer.scep }

-- a direction that starts now
abbrev pub begun_now : Config → ℕ → Cube → Peer → Direction
begun_now g now cube peer = ticked now (start (constants g cube (ids_by peer cube.id)))

-- the flow's name is new, its connections are those of a cube of the DIF, and its ends got nothing
pub record IsNewFlow (g : Config) (cube : Cube) (piece max : ℕ) (ends : List End) (asker far : End) : Type 0 where
  pub piece_is : piece ≡ piece_size g
  pub max_is : max ≡ greatest g
  pub is_cube : cube_by cube.id g.cubes ≡ Some cube
  pub fresh : (i : ℕ) (e : End) → At ends i e → e.flow ≢ asker.flow
  pub same_flow : far.flow ≡ asker.flow
  pub got : asker.got ≡ []
  pub far_got : far.got ≡ []

-- its two directions start, and the flows stay tied
pub record HasAdded (g : Config) (now : ℕ) (cube : Cube) (peer : Peer) (old : Flows) (lines : List Direction) (new : Flows) : Type 0 where
  pub tied : AreTied g now new (lines ++ begun_now g now cube peer ∷ begun_now g now cube (turned peer) ∷ [])
  pub ids : conns_of new.conns ≡ conns_of old.conns ++ ids_by peer cube.id ∷ ids_by (turned peer) cube.id ∷ []

abbrev pub Adds : Cube → ℕ → ℕ → Peer → End → End → Flows → Flows → Type 0
Adds cube piece max peer asker far old new = (g : Config) (now : ℕ) (lines : List Direction) → AreTied g now old lines → IsNewFlow g cube piece max old.journal.ends asker far → HasAdded g now cube peer old lines new

-- The end of an asker alone

-- its flow's name is new, it waits and got nothing, and its connection is one of a cube of the DIF
pub record IsNewAsker (g : Config) (cube : Cube) (piece max : ℕ) (ends : List End) (end : End) : Type 0 where
  pub piece_is : piece ≡ piece_size g
  pub max_is : max ≡ greatest g
  pub is_cube : cube_by cube.id g.cubes ≡ Some cube
  pub fresh : (i : ℕ) (e : End) → At ends i e → e.flow ≢ end.flow
  pub waits : end.state ≡ Pending
  pub got : end.got ≡ []

-- its direction starts, and the flows stay tied
pub record HasAddedOne (g : Config) (now : ℕ) (cube : Cube) (peer : Peer) (old : Flows) (lines : List Direction) (new : Flows) : Type 0 where
  pub tied : AreTied g now new (lines ++ begun_now g now cube peer ∷ [])
  pub ids : conns_of new.conns ≡ conns_of old.conns ++ ids_by peer cube.id ∷ []

abbrev pub AddsAsker : Cube → ℕ → ℕ → Peer → End → Flows → Flows → Type 0
AddsAsker cube piece max peer end old new = (g : Config) (now : ℕ) (lines : List Direction) → AreTied g now old lines → IsNewAsker g cube piece max old.journal.ends end → HasAddedOne g now cube peer old lines new

-- The far end of a flow whose asker stands elsewhere

-- the asker's end stands at this place with its connection, and no far end of its flow is there yet. The far end has the flow's name and got
-- nothing, and its connection, with these ends by it, is of the cube of the asker's and named after that
pub record IsNewFar (g : Config) (cube : Cube) (piece max : ℕ) (peer : Peer) (ends : List End) (conns : List Conn) (at : ℕ) (end : End) : Type 0 where
  pub piece_is : piece ≡ piece_size g
  pub max_is : max ≡ greatest g
  pub is_cube : cube_by cube.id g.cubes ≡ Some cube
  pub asker : End
  pub conn : Conn
  pub is_at : IsAt ends conns at asker conn
  pub asks : asker.role ≡ Asker
  pub alone : HasPartner ends asker → ⊥
  pub cube_is : conn.sending.form.cube ≡ cube
  pub named : peer.dcep ≡ conn.sending.form.peer.scep
  pub same_flow : end.flow ≡ asker.flow
  pub is_far : end.role ≡ Far
  pub got : end.got ≡ []

-- both directions start, that of the asker's end at its place, and the flows stay tied
pub record HasAddedFar (g : Config) (now : ℕ) (cube : Cube) (peer : Peer) (at : ℕ) (old : Flows) (lines : List Direction) (new : Flows) : Type 0 where
  pub tied : AreTied g now new (slice_set lines at (begun_now g now cube (turned peer)) ++ begun_now g now cube peer ∷ [])
  pub ids : conns_of new.conns ≡ conns_of old.conns ++ ids_by peer cube.id ∷ []

abbrev pub AddsFar : Cube → ℕ → ℕ → Peer → End → Flows → Flows → Type 0
AddsFar cube piece max peer end old new = (g : Config) (now at : ℕ) (lines : List Direction) → IsJournal now old.journal.ends → AreTied g now old lines → IsNewFar g cube piece max peer old.journal.ends old.conns at end → HasAddedFar g now cube peer at old lines new

-- The end of an asker is answered

-- the end at a place waits, and its far end stands. Nothing was taken of what the far end sent
pub record CanBind (ends : List End) (lines : List Direction) (at : ℕ) (end : End) : Type 0 where
  pub is_end : At ends at end
  pub waits : end.state ≡ Pending
  pub from : ℕ
  pub line : Direction
  pub inbound : IsInboundAt ends lines end from line
  pub constants : Constants
  pub untaken : IsUntaken constants line

-- it is allocated, its connection knows the CEP-id of the far end, and the flows stay tied
pub record HasBound (g : Config) (now at dcep : ℕ) (end : End) (old : Flows) (lines : List Direction) (new : Flows) : Type 0 where
  pub conn : Conn
  pub is_conn : slice_get old.conns at ≡ Some conn
  pub ends : new.journal.ends ≡ slice_set old.journal.ends at (record end { state = Allocated })
  pub ids : conns_of new.conns ≡ slice_set (conns_of old.conns) at (record (ids_of conn) { dcep = dcep })
  pub tied : AreTied g now new lines

abbrev pub Binds : ℕ → ℕ → Flows → Flows → Type 0
Binds at dcep old new = (g : Config) (now : ℕ) (lines : List Direction) (end : End) → IsJournal now old.journal.ends → AreTied g now old lines → CanBind old.journal.ends lines at end → HasBound g now at dcep end old lines new
