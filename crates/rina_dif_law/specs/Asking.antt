-- A flow that a member asks for: the asker's end is made, and waits.
use Rattle.std.specs.Prelude.{◌≡◌, ◌≢◌, ℕ, ◌*◌, ◌^◌, ◌<◌, true, List, [], ◌∷◌, ◌++◌, slice_get, Some}
use Rattle.rina_iface.specs.declared.ends.End.{End}
use Rattle.rina_iface.specs.declared.state.PortState.TheVariants.{Pending}
use Rattle.rina_iface.specs.declared.state.Role.TheVariants.{Asker}
use Rattle.rina_iface.specs.Allocate.{new_end, next_port}
use Rattle.rina_iface.specs.Seen.{is_member}
use Rattle.rina_law.specs.Direction.{Direction}
use Rattle.rina_ids.specs.Members.{DrawsAt, with_drawn}
use Rattle.rina_data.specs.Configs.{Member}
use Rattle.rina_dif_law.specs.Binding.{flow_next}
use Rattle.rina_dif_law.specs.Dif.{DifSeen, fac_of}
use Rattle.rina_dif_law.specs.Ids.{Ids}
use Rattle.rina_dif_law.specs.Sending.{home}
use Rattle.rina_dif_law.specs.Start.{IsFresh}

-- what is asked for: at a node and by an application there, a flow to another application, in the cube with this id, from the member
-- with this address
pub record Asking : Type 0 where
  pub node : ℕ
  pub app : List ℕ
  pub to : List ℕ
  pub cube : ℕ
  pub peer : ℕ

-- the ids of the connection, as far as the asker knows them: it does not know the CEP-id of the far end yet
abbrev pub ids_asked : Asking → Member → ℕ → Ids
ids_asked ask member cep = record { own = member.addr; far = ask.peer; scep = cep; dcep = 0; qos = ask.cube }

-- its end, with the name and the port that are given next at its node
abbrev pub end_asked : DifSeen → Asking → Member → End
end_asked d ask member = new_end (flow_next d ask.node member) Asker (next_port (fac_of d) d.config.fac ask.node) ask.app ask.to ask.cube Pending

-- the enrolled member at the node asks another one. It draws the least CEP-id that is neither in use nor at rest there, and a direction starts
-- at the place of the end
pub record IsAskedFor (d : DifSeen) (lines : List Direction) (ask : Asking) (d' : DifSeen) (lines' : List Direction) : Type 0 where
  pub place : ℕ
  pub at_home : home ask.node d.config.members ≡ Some place
  pub member : Member
  pub stands : slice_get d.config.members place ≡ Some member
  pub enrolled : is_member d.enrolled ask.node ≡ true
  pub elsewhere : ask.peer ≢ member.addr
  pub peer_fits : ask.peer < 2 ^ (8 * d.config.widths.addr)
  pub cep : ℕ
  pub draws : DrawsAt d.ids d.clock place cep
  pub cep_fits : cep < 2 ^ (8 * d.config.widths.cep)
  pub line : Direction
  pub fresh : IsFresh d (ids_asked ask member cep) line
  pub lines_are : lines' ≡ lines ++ line ∷ []
  pub new_is : d' ≡ record d {
    ends = d.ends ++ end_asked d ask member ∷ [];
    conns = d.conns ++ ids_asked ask member cep ∷ [];
    ids = with_drawn place draws.ids cep d.ids;
  }
