-- What each line of a ledger says for good: a cause that the settings of the DIF, its connections, its links and its clock
-- bear out.
use Rattle.std.specs.Prelude.{◌≡◌, ◌≢◌, ℕ, ◌^◌, ◌<◌, ◌⊎◌, false, List, slice_get, Some}
use Rattle.rina_account.specs.Causes.{IsExpired, IsGone}
use Rattle.rina_account.specs.declared.ledger.Off.{Off}
use Rattle.rina_base.specs.declared.cause.Cause.{Cause}
use Rattle.rina_base.specs.declared.cause.Cause.TheVariants as causes
use Rattle.rina_base.specs.declared.number.Key.{Key}
use Rattle.rina_base.specs.declared.number.Port.{Port}
use Rattle.rina_base.specs.declared.pdu.PduKind.TheVariants.{Piece as APiece}
use Rattle.rina_cube.specs.declared.Cube.{Cube}
use Rattle.rina_cube.specs.declared.Kind.TheVariants.{Loose, Reliable}
use Rattle.rina_cube.specs.Cubes.{delta_of}
use Rattle.rina_iface.specs.declared.ends.End.{End}
use Rattle.rina_iface.specs.declared.state.PortState.TheVariants.{Pending}
use Rattle.rina_iface.specs.Journal.{At}
use Rattle.rina_law.specs.Lists.{In}
use Rattle.rina_data.specs.declared.link.Link.{Link}
use Rattle.rina_data.specs.Configs.{Config, Member, cube_by}
use Rattle.rina_data.specs.Process.{Process}
use Rattle.rina_dif_law.specs.Dif.{DifSeen, IsProcess}
use Rattle.rina_dif_law.specs.Ids.{Ids}
use Rattle.rina_dif_law.specs.OnLinks.{IsLinkLine}
use Rattle.rina_dif_law.specs.WriteOffs.{IsTooOld}

-- a connection of the IPC process with this address, of this cube, receives the pieces with this source and CEP-id. Its end does not wait, so
-- that it knows the far end
pub record Receives (g : Config) (ends : List End) (conns : List Ids) (addr : ℕ) (key : Key) (cube : Cube) : Type 0 where
  pub piece : key.kind ≡ APiece
  pub place : ℕ
  pub ids : Ids
  pub stands : slice_get conns place ≡ Some ids
  pub end : End
  pub is_end : At ends place end
  pub told : end.state ≢ Pending
  pub own : ids.own ≡ addr
  pub far : key.src ≡ ids.far
  pub cep : key.scep ≡ ids.dcep
  pub is_cube : cube_by ids.qos g.cubes ≡ Some cube

-- there is one, of whose cube this holds
abbrev pub ReceivesWith : Config → List End → List Ids → ℕ → Key → (Cube → Type 0) → Type 0
ReceivesWith g ends conns addr key holds = (cube : Cube) × Receives g ends conns addr key cube × holds cube

-- a link has this port
pub record HasPort (links : List Link) (port : Port) : Type 0 where
  pub place : ℕ
  pub link : Link
  pub stands : slice_get links place ≡ Some link
  pub port_is : port ≡ link.port

-- what a cause says of a PDU with this key, at the IPC process with this address and these links
abbrev pub WasLawful : Config → ℕ → List End → List Ids → ℕ → List Link → Key → Cause → Type 0
WasLawful g now ends conns addr links key (causes.Expired left charge) = IsExpired left charge
WasLawful g now ends conns addr links key (causes.NoRoute dst) = dst ≢ addr
WasLawful g now ends conns addr links key (causes.QueueFull cap) = cap ≡ g.cap
WasLawful g now ends conns addr links key (causes.NoConnection cep) = Unit {0}
WasLawful g now ends conns addr links key (causes.Duplicate num) = (num ≡ record { cep = key.scep; seq = key.seq }) × ReceivesWith g ends conns addr key (λ cube. cube.kind ≢ Loose)
WasLawful g now ends conns addr links key (causes.Behind highest) = ReceivesWith g ends conns addr key (λ cube. IsTooOld cube.kind highest key.seq)
WasLawful g now ends conns addr links key (causes.NoState drf) = (drf ≡ false) × ReceivesWith g ends conns addr key (λ cube. cube.kind ≡ Reliable)
WasLawful g now ends conns addr links key (causes.NoRoom cap) = ReceivesWith g ends conns addr key (λ cube. cap ≡ cube.window)
WasLawful g now ends conns addr links key (causes.StateGone last_in) = ReceivesWith g ends conns addr key (λ cube. IsGone now (delta_of cube) last_in)
WasLawful g now ends conns addr links key (causes.Broken missing) = (missing < 2 ^ 32) × ReceivesWith g ends conns addr key (λ cube. Unit {0})
WasLawful g now ends conns addr links key (causes.LinkDown port) = HasPort links port

-- a line of an IPC process says so, or is one of a link's management connection
abbrev pub IsLawfulLine : DifSeen → Member → Process → Off → Type 0
IsLawfulLine d member process off = WasLawful d.config d.clock d.ends d.conns member.addr process.links off.key off.cause ⊎ IsLinkLine d.manage d.clock off

-- and so of each line of each ledger
abbrev pub AreWrittenOff : DifSeen → Type 0
AreWrittenOff d = (i : ℕ) (member : Member) (process : Process) (off : Off) → IsProcess d i member process → In off process.ledger → IsLawfulLine d member process off
