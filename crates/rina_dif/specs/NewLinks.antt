-- What must be known of a DIF, beside what holds of it at every moment, for one of its IPC processes to take an end below as a new link.
use Rattle.std.specs.Prelude.{◌≡◌, ℕ, true, false, List, [], ◌∷◌, ◌++◌, length, slice_get, Some, None, Ok}
use Rattle.rina_agent.specs.Counts.{spent}
use Rattle.rina_base.specs.Names.{app_at}
use Rattle.rina_channel.specs.declared.channel.Attachment.{Attachment}
use Rattle.rina_channel.specs.Making.{IsNewFlow}
use Rattle.rina_data.specs.declared.process.IpcProcess.{IpcProcess}
use Rattle.rina_data.specs.declared.settings.Member.{Member}
use Rattle.rina_iface.specs.Journal.{AreKept}
use Rattle.rina_iface.specs.Seen.{Seen}
use Rattle.rina_member.specs.declared.management.Management.{Management}
use Rattle.rina_member.specs.Knowing.{IsPlanned}
use Rattle.rina_dif.specs.declared.dif.Dif.{Dif}
use Rattle.rina_dif.specs.Claiming.{channels_of, with_claimed}
use Rattle.rina_dif.specs.Enrolling.{far_channel, is_full, joins_on, near_channel}
use Rattle.rina_dif.specs.LinkTaking.{link_of}
use Rattle.rina_dif.specs.Shown.{seen_of}

-- the IPC process of place i has fewer live links than it may have
abbrev pub HasRoom : List IpcProcess → ℕ → Type 0
HasRoom processes i = (p : IpcProcess) → slice_get processes i ≡ Some p → is_full p.links ≡ false

-- in a static DIF the member of place i has the links of the plan also with this link behind the others, and once its management is changed so
abbrev pub KeepsPlan : Dif → ℕ → Attachment → (Management → Management) → Type 0
KeepsPlan d i link change = d.laid.is_static ≡ true → (m : Member) (p : IpcProcess) (g : Management) → slice_get d.settings.members i ≡ Some m → slice_get d.processes i ≡ Some p → slice_get d.managements i ≡ Some g
    → IsPlanned d.settings.members d.laid.links m (p.links ++ link_of link ∷ []) (change g).agent

-- where the link is of a flow that the IPC process of place i asked for, to the member of place j: in a static DIF it keeps the links of the plan, it has
-- fewer live links than it may have, an invoke id is left for CONNECT, the member has a name, and the flow is new, as the laws of management
-- connections say it: it runs between members, nothing was sent at its ends, and no link is there
pub record CanJoin (d : Dif) (below : Seen) (i j : ℕ) (link : Attachment) : Type 0 where
  pub plan : (member : Member) → slice_get d.settings.members j ≡ Some member → KeepsPlan d i link (λ g. joins_on g link.number member)
  pub room : HasRoom d.processes i
  pub counts : (g : Management) → slice_get d.managements i ≡ Some g → spent 1 g.agent.last_invoke ≡ None
  pub name : (member : Member) → slice_get d.settings.members j ≡ Some member → app_at member.name ≡ Ok member.name
  pub flow : IsNewFlow (channels_of d) (seen_of d).processes below (near_channel (length d.connections.channels) i link) (far_channel (length d.connections.channels) j)

-- where it is of a flow that was claimed: in a static DIF the member keeps the links of the plan, its IPC process has fewer live links than it may
-- have, and the rank below keeps the laws of facilities
pub record CanClaim (d : Dif) (below : Seen) (i : ℕ) (link : Attachment) : Type 0 where
  pub plan : KeepsPlan d i link (λ g. with_claimed g link.number)
  pub room : HasRoom d.processes i
  pub kept : AreKept below
