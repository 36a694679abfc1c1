-- How an IPC process of a DIF loses a link, and how flows fail with it.
use Rattle.std.specs.Prelude.{◌≡◌, ℕ, ◌⊎◌, zero, suc, true, List, length, slice_get, Some}
use Rattle.rina_base.specs.declared.number.Port.{Port}
use Rattle.rina_iface.specs.declared.ends.End.{End}
use Rattle.rina_iface.specs.declared.state.Fail.{Fail}
use Rattle.rina_iface.specs.declared.state.Fail.TheVariants.{Below}
use Rattle.rina_iface.specs.declared.state.PortState.TheVariants.{Allocated, Failed}
use Rattle.rina_iface.specs.Journal.{At}
use Rattle.rina_iface.specs.Seen.{Seen}
use Rattle.rina_law.specs.Direction.{Direction}
use Rattle.rina_data.specs.declared.link.Link.{Link}
use Rattle.rina_data.specs.declared.link.Route.{Route}
use Rattle.rina_dif_law.specs.Dif.{DifSeen, with_process}
use Rattle.rina_data.specs.Process.{Process}
use Rattle.rina_dif_law.specs.Ending.{IsEnded}
use Rattle.rina_data.specs.Losing.{IsLostFirst, without_link}

-- the IPC process of place i loses its link of this number, and nothing else changes
pub record Loses (d : DifSeen) (below : Seen) (i number : ℕ) (routes : List Route) (d' : DifSeen) : Type 0 where
  pub process : Process
  pub is_process : slice_get d.processes i ≡ Some process
  pub place : ℕ
  pub link : Link
  pub first : IsLostFirst process.links below place link
  pub number_is : number ≡ link.number
  pub new_is : d' ≡ with_process d i (without_link place link routes process)

-- Which flows fail

-- none of the links is live
abbrev pub NoneLive : List Link → Type 0
NoneLive links = (place : ℕ) (link : Link) → slice_get links place ≡ Some link → link.live ≡ true → ⊥

-- an allocated end at a node has this place
pub record IsAllocatedAt (ends : List End) (node at : ℕ) : Type 0 where
  pub end : End
  pub is_end : At ends at end
  pub allocated : end.state ≡ Allocated
  pub node_is : end.port.node ≡ node

-- the end of a place fails, where it is an allocated one at the node
abbrev pub MayFail : List Direction → ℕ → Fail → ℕ → DifSeen → DifSeen → Type 0
MayFail lines node fail at d d' = (IsAllocatedAt d.ends node at × IsEnded d lines at (Failed fail) d') ⊎ ((IsAllocatedAt d.ends node at → ⊥) × (d' ≡ d))

-- so do the ends of the first places, one after the other
abbrev pub FailFirst : List Direction → ℕ → Fail → ℕ → DifSeen → DifSeen → Type 0
FailFirst lines node fail zero d d' = d' ≡ d
FailFirst lines node fail (suc n) d d' = (between : DifSeen) × FailFirst lines node fail n d between × MayFail lines node fail n between d'

-- and so all ends at the node, in the order of the journal, since the flow of this port has failed
abbrev pub FailAll : List Direction → ℕ → Port → DifSeen → DifSeen → Type 0
FailAll lines node port d d' = FailFirst lines node (Below port) (length d.ends) d d'
