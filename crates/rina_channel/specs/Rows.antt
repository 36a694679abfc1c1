-- What an end of a management connection does by itself: it offers a message, sends a piece again, and acknowledges. What it
-- makes waits for its link.
use Rattle.std.specs.Prelude.{◌≡◌, ℕ, ◌-◌, true, List, map, slice_get, slice_set, Option, Some}
use Rattle.rina_base.specs.declared.cause.Cause.{Cause}
use Rattle.rina_base.specs.declared.number.Num.{Num}
use Rattle.rina_base.specs.declared.pdu.Pdu.{Pdu}
use Rattle.rina_cube.specs.declared.Cube.{Cube}
use Rattle.rina_iface.specs.declared.ends.End.{End}
use Rattle.rina_iface.specs.declared.state.PortState.TheVariants.{Allocated}
use Rattle.rina_law.specs.Direction.{Direction, after_ack, is_ack_due, right_of}
use Rattle.rina_law.specs.Line.{again}
use Rattle.rina_law.specs.Pieces.{IsCut, Part}
use Rattle.rina_law.specs.Receiver.{next_of}
use Rattle.rina_law.specs.Sender.{again_due, piece_again}
use Rattle.rina_data.specs.Configs.{Config, cube_by, piece_size}
use Rattle.rina_data.specs.Process.{Process}
use Rattle.rina_dif_law.specs.Dif.{constants}
use Rattle.rina_dif_law.specs.Ids.{Ids, flipped, pdu_of_ack, pdu_of_piece}
use Rattle.rina_dif_law.specs.Standing.{IsConn}
use Rattle.rina_flows.specs.Laws.{waiting_now}
use Rattle.rina_flows.specs.Rows.{OffersAt}
use Rattle.rina_flows.specs.Tied.{IsInboundAt}
use Rattle.rina_channel.specs.declared.channel.Channel.{Channel}
use Rattle.rina_channel.specs.Changes.{IsPutOn, PostsOn}
use Rattle.rina_channel.specs.Channels.{ChannelsSeen}
use Rattle.rina_channel.specs.Names.{link_config, unnamed}

-- what never changes in the connections
abbrev pub config_of : ChannelsSeen → Config
config_of m = link_config m.config m.manage

-- an allocated end takes a message that is cut into these parts, and all its pieces wait for the link
pub record IsOfferedOn (m : ChannelsSeen) (lines : List Direction) (processes : List Process) (k : ℕ) (parts : List Part) (num : Num) (m' : ChannelsSeen) (lines' : List Direction) (processes' : List Process) : Type 0 where
  pub channel : Channel
  pub stands : slice_get m.channels k ≡ Some channel
  pub cut : IsCut (piece_size (config_of m)) true parts
  pub pdus : List Pdu
  pub ends' : List End
  pub offers : OffersAt (config_of m) m.ends m.ids lines k parts num pdus ends' lines'
  pub allocated : offers.end.state ≡ Allocated
  pub put : IsPutOn m.config.cap processes channel (waiting_now offers.cube.mpl m.clock (map unnamed pdus)) processes'
  pub new_is : m' ≡ record m { ends = ends' }

-- the allocated end of a place, with its names and its channel
pub record IsEndOf (m : ChannelsSeen) (k : ℕ) (channel : Channel) (end : End) (ids : Ids) (cube : Cube) : Type 0 where
  pub stands : slice_get m.channels k ≡ Some channel
  pub is_conn : IsConn m.ends m.ids k end ids
  pub allocated : end.state ≡ Allocated
  pub is_cube : cube_by ids.qos (config_of m).cubes ≡ Some cube

-- it sends the number again that is due
pub record IsResentOn (m : ChannelsSeen) (lines : List Direction) (processes : List Process) (k : ℕ) (cause : Option Cause) (lines' : List Direction) (processes' : List Process) : Type 0 where
  pub channel : Channel
  pub end : End
  pub ids : Ids
  pub cube : Cube
  pub is_end : IsEndOf m k channel end ids cube
  pub line : Direction
  pub is_line : slice_get lines k ≡ Some line
  pub number : ℕ
  pub due : again_due (constants (config_of m) cube ids) line.line.clock line.line.sender ≡ Some number
  pub posted : PostsOn m.config.cap m.clock cube.mpl processes channel (unnamed (pdu_of_piece ids (piece_again number line.line.sender))) cause processes'
  pub lines_are : lines' ≡ slice_set lines k (record line { line = again (constants (config_of m) cube ids) number line.line })

-- it makes the acknowledgement that is due
pub record IsAcknowledgedOn (m : ChannelsSeen) (lines : List Direction) (processes : List Process) (k : ℕ) (cause : Option Cause) (lines' : List Direction) (processes' : List Process) : Type 0 where
  pub channel : Channel
  pub end : End
  pub ids : Ids
  pub cube : Cube
  pub is_end : IsEndOf m k channel end ids cube
  pub from : ℕ
  pub line : Direction
  pub inbound : IsInboundAt m.ends lines end from line
  pub due : is_ack_due (constants (config_of m) cube (flipped ids)) line ≡ true
  pub posted : PostsOn m.config.cap m.clock cube.mpl processes channel (unnamed (pdu_of_ack ids (record { ack = next_of line.line.receiver - 1; right = right_of (constants (config_of m) cube (flipped ids)) line }))) cause processes'
  pub lines_are : lines' ≡ slice_set lines from (after_ack true (constants (config_of m) cube (flipped ids)) line)
