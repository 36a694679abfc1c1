-- A DIF before its first flow, and a direction that starts.
use Rattle.std.specs.Prelude.{◌≡◌, ℕ, ◌⊎◌, List, [], length, slice_get, Some}
use Rattle.rina_base.specs.declared.number.Port.{Port}
use Rattle.rina_cube.specs.declared.Cube.{Cube}
use Rattle.rina_iface.specs.declared.ends.End.{End}
use Rattle.rina_iface.specs.Seen.{Seen, end_of}
use Rattle.rina_law.specs.Direction.{Direction, start}
use Rattle.rina_queue.specs.declared.queue.Queued.{Queued}
use Rattle.rina_dif_law.specs.Cloud.{IsMine, Waits}
use Rattle.rina_data.specs.declared.link.Link.{Link}
use Rattle.rina_data.specs.Configs.{Member, cube_by}
use Rattle.rina_dif_law.specs.Dif.{DifSeen, constants}
use Rattle.rina_dif_law.specs.Ids.{Ids}
use Rattle.rina_dif_law.specs.Lifting.{ticked}
use Rattle.rina_dif_law.specs.Standing.{HasLink, IsConfig, IsInside, IsLinked}

-- a direction starts now
pub record IsFresh (d : DifSeen) (ids : Ids) (line : Direction) : Type 0 where
  pub cube : Cube
  pub is_cube : cube_by ids.qos d.config.cubes ≡ Some cube
  pub is : line ≡ ticked d.clock (start (constants d.config cube ids))

-- it has no flow yet, its links are those of its members below, and nothing was sent on them
pub record IsStart (d : DifSeen) (lines : List Direction) (below : Seen) : Type 0 where
  pub config : IsConfig d.config
  pub clock : d.clock ≡ below.now
  pub aligned : length d.processes ≡ length d.config.members
  pub linked : (i : ℕ) (member : Member) (link : Link) → slice_get d.config.members i ≡ Some member → HasLink d.processes i link → IsLinked below member.name link.port
  pub inside : (port : Port) (end : End) → end_of below port ≡ Some end → IsMine d.config.members end.app ⊎ IsMine d.config.members end.peer → IsInside d.config below port end
  pub silent : (port : Port) (end : End) → end_of below port ≡ Some end → IsMine d.config.members end.app → end.sent ≡ []
  pub idle : (i n : ℕ) (item : Queued) → Waits d.processes i n item → ⊥
  pub no_ends : d.ends ≡ []
  pub no_conns : d.conns ≡ []
  pub no_lines : lines ≡ []
