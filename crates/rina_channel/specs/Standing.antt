-- When the management connections of a DIF's links stand on the rank below.
use Rattle.std.specs.Prelude.{◌≡◌, ◌≤◌, List, [], None}
use Rattle.rina_cube.specs.declared.Cube.{Cube}
use Rattle.rina_cube.specs.declared.Kind.TheVariants.{Reliable}
use Rattle.rina_cube.specs.Cubes.{IsCube}
use Rattle.rina_iface.specs.Seen.{Seen}
use Rattle.rina_law.specs.Direction.{Direction}
use Rattle.rina_data.specs.Configs.{Config, cube_by}
use Rattle.rina_data.specs.Process.{Process}
use Rattle.rina_dif_law.specs.Standing.{IsConfig, IsJournal, IsOwn}
use Rattle.rina_channel.specs.Channels.{AreChannels, ChannelsSeen}
use Rattle.rina_channel.specs.LinkCloud.{LinkCloud}
use Rattle.rina_channel.specs.Names.{link_config}

-- the cube of management is reliable and has id 0, and no cube of the DIF has that id
pub record IsManaged (g : Config) (manage : Cube) : Type 0 where
  pub config : IsConfig g
  pub cube : IsCube manage
  pub kind : manage.kind ≡ Reliable
  pub id : manage.id ≡ 0
  pub only : cube_by 0 g.cubes ≡ None
  pub pdu : g.pdu ≤ 65535  -- bytes

-- `lines` has at the place of each end the direction in which it sends: each keeps the law of a connection over what
-- stands on its link
pub record IsStanding (m : ChannelsSeen) (lines : List Direction) (processes : List Process) (below : Seen) : Type 0 where
  pub managed : IsManaged m.config m.manage
  pub clock : m.clock ≡ below.now
  pub channels : AreChannels m processes below
  pub journal : IsJournal m.clock m.ends
  pub own : IsOwn (link_config m.config m.manage) m.clock (LinkCloud m.config m.channels processes below) [] m.ends m.ids lines
