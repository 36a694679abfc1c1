-- Why flows of a DIF have failed.
use Rattle.std.specs.Prelude.{◌≡◌, ℕ, ◌+◌, ◌-◌, ◌*◌, ◌<◌, ◌≤◌, ◌⊎◌, length, slice_get, Some}
use Rattle.rina_base.specs.declared.number.Num.{Num}
use Rattle.rina_base.specs.declared.number.Port.{Port}
use Rattle.rina_cube.specs.declared.Cube.{Cube}
use Rattle.rina_cube.specs.declared.Kind.TheVariants.{Reliable}
use Rattle.rina_iface.specs.declared.ends.End.{End}
use Rattle.rina_iface.specs.declared.state.Fail.{Fail}
use Rattle.rina_iface.specs.declared.state.Fail.TheVariants.{Below, Cut, GaveUp}
use Rattle.rina_iface.specs.declared.state.PortState.TheVariants.{Failed}
use Rattle.rina_iface.specs.Journal.{At}
use Rattle.rina_iface.specs.Seen.{Seen, end_of}
use Rattle.rina_law.specs.declared.entry.Entry.{Entry}
use Rattle.rina_data.specs.Configs.{Config, Member, cube_by}
use Rattle.rina_dif_law.specs.Dif.{DifSeen, constants}
use Rattle.rina_dif_law.specs.Ids.{Ids}
use Rattle.rina_dif_law.specs.Sending.{home}

-- the number is that of a piece of this SDU, which is cut at this size: of its first piece, or of one that begins within
-- its bytes
pub record IsNumberOf (size : ℕ) (sdu : Entry) (num : Num) : Type 0 where
  pub cep : num.cep ≡ sdu.num.cep
  pub from : sdu.num.seq ≤ num.seq
  pub within : (num.seq ≡ sdu.num.seq) ⊎ (size * (num.seq - sdu.num.seq) < length sdu.bytes)

-- an end with these ids gave this number up at a tick that has come: its cube is reliable, the number is that of a piece
-- of an SDU that it sent, and as much time had gone by as an acknowledgement of any of its copies may take to come
pub record HasGivenUp (g : Config) (now : ℕ) (end : End) (ids : Ids) (num : Num) (first tick : ℕ) : Type 0 where
  pub cube : Cube
  pub is_cube : cube_by ids.qos g.cubes ≡ Some cube
  pub reliable : cube.kind ≡ Reliable
  pub own : num.cep ≡ ids.scep
  pub place : ℕ
  pub sdu : Entry
  pub is_sdu : slice_get end.sent place ≡ Some sdu
  pub first_is : sdu.tick ≡ first
  pub number : IsNumberOf (constants g cube ids).piece sdu num
  pub late : first + cube.r + cube.a + 2 * cube.mpl ≤ tick
  pub past : tick ≤ now

-- the flow of this port has failed, which is one of the IPC process at a node
pub record HasFailedBelow (g : Config) (below : Seen) (node : ℕ) (port : Port) : Type 0 where
  pub place : ℕ
  pub at_home : home node g.members ≡ Some place
  pub member : Member
  pub is_member : slice_get g.members place ≡ Some member
  pub lower : End
  pub is_lower : end_of below port ≡ Some lower
  pub app : lower.app ≡ member.name
  pub fail : Fail
  pub failed : lower.state ≡ Failed fail

-- an end has failed for this cause; of a DIF none fails by a cut
abbrev pub IsCause : Config → ℕ → Seen → End → Ids → Fail → Type 0
IsCause g now below end ids (GaveUp num first tick) = HasGivenUp g now end ids num first tick
IsCause g now below end ids (Below port) = HasFailedBelow g below end.port.node port
IsCause g now below end ids (Cut tick) = ⊥

-- each end that has failed did so for its cause
abbrev pub AreCaused : DifSeen → Seen → Type 0
AreCaused d below = (at : ℕ) (end : End) (ids : Ids) (fail : Fail) → At d.ends at end → slice_get d.conns at ≡ Some ids → end.state ≡ Failed fail → IsCause d.config d.clock below end ids fail
