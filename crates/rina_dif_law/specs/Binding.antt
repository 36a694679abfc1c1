-- A flow that the stack fixes, as a DIF makes it.
use Rattle.std.specs.Prelude.{◌≡◌, ◌≢◌, ℕ, ◌<◌, true, List, [], ◌∷◌, ◌++◌, slice_get, Some}
use Rattle.rina_base.specs.declared.number.FlowName.{FlowName}
use Rattle.rina_cube.specs.declared.Cube.{Cube}
use Rattle.rina_iface.specs.declared.ask.Fixed.{Fixed}
use Rattle.rina_iface.specs.declared.ends.End.{End}
use Rattle.rina_iface.specs.declared.state.PortState.TheVariants.{Allocated}
use Rattle.rina_iface.specs.declared.state.Role.TheVariants.{Asker, Far}
use Rattle.rina_iface.specs.Allocate.{new_end, next_port}
use Rattle.rina_iface.specs.Bind.{with_name_once}
use Rattle.rina_iface.specs.Ends.{drawn_at}
use Rattle.rina_iface.specs.Seen.{is_member}
use Rattle.rina_law.specs.Direction.{Direction}
use Rattle.rina_ids.specs.Members.{DrawsAt, with_drawn}
use Rattle.rina_dif_law.specs.Dif.{DifSeen, fac_of}
use Rattle.rina_data.specs.Configs.{Member, cube_by}
use Rattle.rina_dif_law.specs.Ids.{Ids, flipped}
use Rattle.rina_dif_law.specs.Numbered.{asked_at}
use Rattle.rina_dif_law.specs.Sending.{home}
use Rattle.rina_dif_law.specs.Start.{IsFresh}

-- the enrolled member at a node, which has a CEP-id for a fixed flow more
pub record MayDraw (d : DifSeen) (node : ℕ) (member : Member) : Type 0 where
  pub place : ℕ
  pub at_home : home node d.config.members ≡ Some place
  pub stands : slice_get d.config.members place ≡ Some member
  pub enrolled : is_member d.enrolled node ≡ true
  pub room : drawn_at node d.ends < d.config.admits

-- the name of the flow that a member asks for next
abbrev pub flow_next : DifSeen → ℕ → Member → FlowName
flow_next d node member = record { src = member.addr; tick = d.clock; count = asked_at node d.ends }

-- the ids of the connection between two members, by the asker, where they draw these CEP-ids
abbrev pub ids_next : Fixed → Member → Member → ℕ → ℕ → Ids
ids_next fixed of_a of_b scep dcep = record { own = of_a.addr; far = of_b.addr; scep = scep; dcep = dcep; qos = fixed.cube }

abbrev pub asker_next : DifSeen → Fixed → Member → End
asker_next d fixed of_a = new_end (flow_next d fixed.a of_a) Asker (next_port (fac_of d) d.config.fac fixed.a) fixed.a_app fixed.b_app fixed.cube Allocated

abbrev pub far_next : DifSeen → Fixed → Member → End
far_next d fixed of_a = new_end (flow_next d fixed.a of_a) Far (next_port (fac_of d) d.config.fac fixed.b) fixed.b_app fixed.a_app fixed.cube Allocated

-- both ends of a fixed flow are made, with a connection and a direction each, which start now. Each of the two members draws the
-- least CEP-id that is neither in use nor at rest there
pub record IsBound (d : DifSeen) (lines : List Direction) (fixed : Fixed) (d' : DifSeen) (lines' : List Direction) : Type 0 where
  pub apart : fixed.a ≢ fixed.b
  pub cube : Cube
  pub is_cube : cube_by fixed.cube d.config.cubes ≡ Some cube
  pub of_a : Member
  pub of_b : Member
  pub at_a : MayDraw d fixed.a of_a
  pub at_b : MayDraw d fixed.b of_b
  pub scep : ℕ
  pub dcep : ℕ
  pub draws_a : DrawsAt d.ids d.clock at_a.place scep
  pub draws_b : DrawsAt d.ids d.clock at_b.place dcep
  pub line : Direction
  pub back : Direction
  pub fresh : IsFresh d (ids_next fixed of_a of_b scep dcep) line
  pub fresh_back : IsFresh d (flipped (ids_next fixed of_a of_b scep dcep)) back
  pub lines_are : lines' ≡ lines ++ line ∷ back ∷ []
  pub new_is : d' ≡ record d {
    ends = d.ends ++ asker_next d fixed of_a ∷ far_next d fixed of_a ∷ [];
    conns = d.conns ++ ids_next fixed of_a of_b scep dcep ∷ flipped (ids_next fixed of_a of_b scep dcep) ∷ [];
    ids = with_drawn at_b.place draws_b.ids dcep (with_drawn at_a.place draws_a.ids scep d.ids);
    names = with_name_once d.names fixed.b fixed.b_app;
  }
