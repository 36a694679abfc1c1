-- A flow that the stack fixes, at a DIF.
use Rattle.std.specs.Prelude.{◌≡◌, ◌≢◌, ℕ, true, List, [], ◌∷◌, ◌++◌, Some, Result, Ok, Err}
use Rattle.rina_base.specs.declared.number.Port.{Port}
use Rattle.rina_conn.specs.declared.form.Peer.{Peer}
use Rattle.rina_cube.specs.declared.Cube.{Cube}
use Rattle.rina_ids.specs.Members.{CepIds, DrawsAt, with_drawn}
use Rattle.rina_iface.specs.declared.ask.Fixed.{Fixed}
use Rattle.rina_iface.specs.declared.ends.End.{End}
use Rattle.rina_iface.specs.declared.error.AllocateError.{AllocateError}
use Rattle.rina_iface.specs.declared.error.AllocateError.TheVariants.{Memory}
use Rattle.rina_iface.specs.Allocate.{next_port}
use Rattle.rina_iface.specs.Seen.{Seen}
use Rattle.rina_law.specs.Direction.{Direction}
use Rattle.rina_data.specs.declared.settings.Settings.{Settings}
use Rattle.rina_dif_law.specs.Binding.{IsBound, MayDraw}
use Rattle.rina_data.specs.Configs.{Member, config_of, cube_by, greatest, piece_size}
use Rattle.rina_dif_law.specs.Dif.{fac_of}
use Rattle.rina_flows.specs.declared.flows.Flows.{Flows}
use Rattle.rina_flows.specs.Adding.{Adds}
use Rattle.rina_dif.specs.declared.fixed_flows.NextEnd.{NextEnd}
use Rattle.rina_dif.specs.declared.dif.Dif.{Dif}
use Rattle.rina_dif.specs.Holding.{Holds}
use Rattle.rina_dif.specs.Shown.{seen_of}

-- the flow may be made: the DIF is the facility that is meant, and has the cube, and an enrolled member with a CEP-id more at each
-- of two nodes
pub record MayBind (d : Dif) (fixed : Fixed) : Type 0 where
  pub fac : d.settings.fac ≡ fixed.fac
  pub apart : fixed.a ≢ fixed.b
  pub cube : Cube
  pub is_cube : cube_by fixed.cube d.settings.cubes ≡ Some cube
  pub of_a : Member
  pub of_b : Member
  pub at_a : MayDraw (seen_of d) fixed.a of_a
  pub at_b : MayDraw (seen_of d) fixed.b of_b

-- some enrolled member at a node may draw a port
abbrev pub SomeDraws : Dif → ℕ → Type 0
SomeDraws d node = (member : Member) × MayDraw (seen_of d) node member

-- its place, its address, and the port and the CEP-id that are drawn next there
pub record IsNext (d : Dif) (node : ℕ) (drawn : NextEnd) (member : Member) (may : MayDraw (seen_of d) node member) : Type 0 where
  pub place : drawn.place ≡ may.place
  pub addr : drawn.addr ≡ member.addr
  pub port : drawn.port ≡ next_port (fac_of (seen_of d)) d.settings.fac node
  pub cep : DrawsAt d.ids d.clock drawn.place drawn.cep

abbrev pub Draws : Dif → ℕ → NextEnd → Type 0
Draws d node drawn = (member : Member) (may : MayDraw (seen_of d) node member) → IsNext d node drawn member may

-- two members have drawn the CEP-ids of both ends
pub record HaveDrawn (held : List CepIds) (now : ℕ) (places : ℕ × ℕ) (peer : Peer) (after : List CepIds) : Type 0 where
  pub a : DrawsAt held now places.0 peer.scep
  pub b : DrawsAt held now places.1 peer.dcep
  pub after_is : after ≡ with_drawn places.1 b.ids peer.dcep (with_drawn places.0 a.ids peer.scep held)

-- both ends of a flow stand behind the flows, with connections of the cube of this id
pub record AddsFlow (settings : Settings) (id : ℕ) (peer : Peer) (asker far : End) (old new : Flows) : Type 0 where
  pub cube : Cube
  pub is_cube : cube_by id settings.cubes ≡ Some cube
  pub ends : new.journal.ends ≡ old.journal.ends ++ asker ∷ far ∷ []
  pub adds : Adds cube (piece_size (config_of settings)) (greatest (config_of settings)) peer asker far old new

-- the flow is made, and its ports are told
pub record BindsAt (d : Dif) (lines : List Direction) (below : Seen) (fixed : Fixed) (ports : Port × Port) (d' : Dif) : Type 0 where
  pub lines' : List Direction
  pub bound : IsBound (seen_of d) lines fixed (seen_of d') lines'
  pub a_port : ports.0 ≡ next_port (fac_of (seen_of d)) fixed.fac fixed.a
  pub b_port : ports.1 ≡ next_port (fac_of (seen_of d)) fixed.fac fixed.b
  pub holds : Holds d' lines' below

-- the DIF after a call, once it is noted where an allocation failed in it
abbrev pub noting : {T E : Type 0} → Result T E → Dif → Dif
noting (Ok done) d = d
noting (Err e) d = record d { failed = true }

-- what `bind` does: it refuses nothing, and only an allocation may fail
abbrev pub BindsTo : Dif → List Direction → Seen → Fixed → Result (Port × Port) AllocateError → Dif → Type 0
BindsTo d lines below fixed (Ok ports) d' = BindsAt d lines below fixed ports d'
BindsTo d lines below fixed (Err Memory) d' = (seen_of d' ≡ seen_of d) × Holds d' lines below
BindsTo d lines below fixed (Err e) d' = ⊥
