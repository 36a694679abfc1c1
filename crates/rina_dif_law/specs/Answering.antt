-- What becomes of a flow that was asked for: its far end is made, the answer comes to the asker, or the asker's end ends while it
-- waits.
use Rattle.std.specs.Prelude.{◌≡◌, ℕ, ◌+◌, ◌*◌, ◌^◌, ◌<◌, true, List, [], ◌∷◌, ◌++◌, length, slice_get, slice_set, Some}
use Rattle.rina_cube.specs.declared.Cube.{Cube}
use Rattle.rina_cube.specs.Cubes.{delta_of}
use Rattle.rina_iface.specs.declared.ends.End.{End}
use Rattle.rina_iface.specs.declared.state.PortState.{PortState}
use Rattle.rina_iface.specs.declared.state.PortState.TheVariants.{Allocated, Pending}
use Rattle.rina_iface.specs.declared.state.Role.TheVariants.{Asker, Far}
use Rattle.rina_iface.specs.Allocate.{new_end, next_port}
use Rattle.rina_iface.specs.Journal.{At, HasPartner, IsPartner}
use Rattle.rina_iface.specs.Seen.{is_member}
use Rattle.rina_law.specs.Direction.{Direction}
use Rattle.rina_ids.specs.Members.{CepIds, DrawsAt, with_drawn}
use Rattle.rina_data.specs.Configs.{Member, cube_by}
use Rattle.rina_dif_law.specs.Dif.{DifSeen, fac_of}
use Rattle.rina_dif_law.specs.Ending.{GivesBack}
use Rattle.rina_dif_law.specs.Ids.{Ids, flipped}
use Rattle.rina_dif_law.specs.Places.{IsUp}
use Rattle.rina_dif_law.specs.Sending.{home}
use Rattle.rina_dif_law.specs.Standing.{IsConn}
use Rattle.rina_dif_law.specs.Start.{IsFresh}

-- the ids of a connection by its asker, which knows now that the far end has this CEP-id
abbrev pub with_far_cep : Ids → ℕ → Ids
with_far_cep ids cep = record ids { dcep = cep }

-- The far end is made

-- it has the name and the cube of the asker's end, with application and peer exchanged, and the port that is given next at its node
abbrev pub far_end_of : DifSeen → ℕ → End → End
far_end_of d node asker = new_end asker.flow Far (next_port (fac_of d) d.config.fac node) asker.peer asker.app asker.cube Allocated

-- the enrolled member at a node, of the address that was asked, makes the far end of the flow whose asker's end stands at this place, be it
-- that it waits or that it has ended since. No far end of the flow is there yet, and the ask is younger than the rest of its ids. The
-- member draws the least CEP-id that is neither in use nor at rest there. Both directions start now
pub record IsFarMade (d : DifSeen) (lines : List Direction) (node at : ℕ) (d' : DifSeen) (lines' : List Direction) : Type 0 where
  pub asker : End
  pub ids : Ids
  pub is_conn : IsConn d.ends d.conns at asker ids
  pub asks : asker.role ≡ Asker
  pub alone : HasPartner d.ends asker → ⊥
  pub cube : Cube
  pub is_cube : cube_by asker.cube d.config.cubes ≡ Some cube
  pub young : d.clock < asker.flow.tick + 3 * delta_of cube
  pub place : ℕ
  pub at_home : home node d.config.members ≡ Some place
  pub member : Member
  pub stands : slice_get d.config.members place ≡ Some member
  pub enrolled : is_member d.enrolled node ≡ true
  pub asked : member.addr ≡ ids.far
  pub cep : ℕ
  pub draws : DrawsAt d.ids d.clock place cep
  pub cep_fits : cep < 2 ^ (8 * d.config.widths.cep)
  pub line : Direction
  pub back : Direction
  pub fresh : IsFresh d (with_far_cep ids cep) line
  pub fresh_back : IsFresh d (flipped (with_far_cep ids cep)) back
  pub lines_are : lines' ≡ slice_set lines at line ++ back ∷ []
  pub new_is : d' ≡ record d {
    ends = d.ends ++ far_end_of d node asker ∷ [];
    conns = d.conns ++ flipped (with_far_cep ids cep) ∷ [];
    ids = with_drawn place draws.ids cep d.ids;
    waiting = d.waiting ++ length d.ends ∷ [];
  }

-- The answer comes

-- an end that waits is allocated, and knows the CEP-id of the far end, which was made. No direction changes
pub record IsAnsweredTo (d : DifSeen) (at : ℕ) (d' : DifSeen) : Type 0 where
  pub asker : End
  pub ids : Ids
  pub is_conn : IsConn d.ends d.conns at asker ids
  pub waits : asker.state ≡ Pending
  pub far_at : ℕ
  pub far : End
  pub far_ids : Ids
  pub is_far : IsConn d.ends d.conns far_at far far_ids
  pub partners : IsPartner asker far
  pub new_is : d' ≡ record d {
    ends = slice_set d.ends at (record asker { state = Allocated });
    conns = slice_set d.conns at (with_far_cep ids far_ids.scep);
  }

-- The asker waits no more

-- its end ends while it waits: it is refused, runs out of time or is withdrawn, whether a far end was made or not. Its CEP-id rests
pub record IsTurnedDown (d : DifSeen) (at : ℕ) (state : PortState) (d' : DifSeen) : Type 0 where
  pub end : End
  pub is_end : At d.ends at end
  pub waits : end.state ≡ Pending
  pub ends : IsUp state → ⊥
  pub held : List CepIds
  pub gives_back : GivesBack d at end held
  pub new_is : d' ≡ record d { ends = slice_set d.ends at (record end { state = state }); ids = held }
