-- Where each run starts, in what its ranks do not show.
use Rattle.std.specs.Prelude.{◌≡◌, ℕ, true, List, [], codes, map, slice_get, Some}
use Rattle.rina_policy.specs.Slots.{Slot}
use Rattle.rina_queue.specs.declared.queue.Queue.{Queue}
use Rattle.rina_stack.specs.declared.plan.Plan.{Plan}
use Rattle.rina_data.specs.declared.link.Link.{Link}
use Rattle.rina_data.specs.declared.process.IpcProcess.{IpcProcess}
use Rattle.rina_data.specs.declared.settings.Member.{Member}
use Rattle.rina_rib.specs.Laws.{Has, LiesBelow}
use Rattle.rina_rib.specs.Rows.{Tree}
use Rattle.rina_rib.specs.Things.{Thing}
use Rattle.rina_member.specs.declared.management.Management.{Management}
use Rattle.rina_dif.specs.declared.dif.Dif.{Dif}
use Rattle.rina_wire.specs.Air.{Air, Line}
use Rattle.rina_wire.specs.Plan.{air_of}
use Rattle.rina_tower.specs.declared.tower.Tower.{Tower, Wires, Rank'}
use Rattle.rina_run.specs.Opening.{IsOpening}
use Rattle.rina_words.specs.Step.{Stage}
use Rattle.rina_laws.specs.Frames.{wires_of}

-- a wire without the flows that were bound on it
abbrev pub without_flows : Line → Line
without_flows l = record l { ends = []; names = []; flows = 0 }

-- and so all wires
abbrev pub bare : Air → Air
bare a = record a { wires = map without_flows a.wires }

-- before the first line of a run the wires are those of the stack, but for the flows that it fixes: each has its delay, its life and
-- its largest SDU, none is cut, no end waits to be claimed, and no frame was sent or is in flight
abbrev pub WiresStartAsPlanned : Type 0
WiresStartAsPlanned = (plan : Plan) (shelf : List Slot) (s : Stage) → IsOpening plan shelf s → bare (wires_of s.run.tower) ≡ air_of plan

-- an IPC process that did nothing: each link is live and has the number of its place, nothing waits, and nothing was written off
pub record DidNothing (p : IpcProcess) : Type 0 where
  pub links : (k : ℕ) (l : Link) → slice_get p.links k ≡ Some l → (l.number ≡ k) × (l.live ≡ true)
  pub empty : (k : ℕ) (q : Queue) → slice_get p.queues.queues.items k ≡ Some q → q.ring.items ≡ []
  pub ledger : p.ledger ≡ []

-- no object lies below `/user`
abbrev pub NoneOfUser : Tree → Type 0
NoneOfUser t = (name : List ℕ) (o : Thing) → LiesBelow (codes "/user") name → Has t name o → ⊥

-- a DIF whose IPC processes did nothing, and where no request left an object at a member
pub record IsUntouched (d : Dif) : Type 0 where
  pub processes : (k : ℕ) (member : Member) (p : IpcProcess) → slice_get d.settings.members k ≡ Some member → slice_get d.processes k ≡ Some p → DidNothing p
  pub kept : (k : ℕ) (member : Member) (p : IpcProcess) (m : Management) → slice_get d.settings.members k ≡ Some member → slice_get d.processes k ≡ Some p → slice_get d.managements k ≡ Some m → NoneOfUser m.objects

-- and so each of each rank
abbrev pub AreUntouched : Tower → Type 0
AreUntouched (Wires a) = Unit {0}
AreUntouched (Rank' p difs below) = ((n : ℕ) (d : Dif) → slice_get difs n ≡ Some d → IsUntouched d) × AreUntouched below

-- before the first line of a run
abbrev pub DifsStartUntouched : Type 0
DifsStartUntouched = (plan : Plan) (shelf : List Slot) (s : Stage) → IsOpening plan shelf s → AreUntouched s.run.tower
