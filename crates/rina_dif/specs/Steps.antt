-- The steps of a DIF, by node.
use Rattle.std.specs.Prelude.{◌≡◌, ℕ, List, slice_get, slice_set, Option, Some, None, Result, Err}
use Rattle.rina_base.specs.declared.number.Port.{Port}
use Rattle.rina_iface.specs.declared.error.SendError.{SendError}
use Rattle.rina_iface.specs.Seen.{Seen}
use Rattle.rina_policy.specs.declared.policy.Head.{Head}
use Rattle.rina_policy.specs.Slots.{Slot}
use Rattle.rina_queue.specs.declared.queue.Queued.{Queued}
use Rattle.rina_data.specs.declared.process.IpcProcess.{IpcProcess}
use Rattle.rina_data.specs.declared.settings.Member.{Member}
use Rattle.rina_data.specs.declared.settings.Settings.{Settings}
use Rattle.rina_data.specs.declared.step.OutStep.{OutStep}
use Rattle.rina_data.specs.declared.step.StepError.{StepError}
use Rattle.rina_data.specs.declared.step.StepError.TheVariants.{Memory, NoIpc}
use Rattle.rina_data.specs.Configs.{Config, config_of}
use Rattle.rina_data.specs.Deciding.{process_of, queue_settings}
use Rattle.rina_dif_law.specs.Dif.{DifSeen}
use Rattle.rina_data.specs.Leaving.{Asks, CanGo, IsAsked}
use Rattle.rina_data.specs.Outgoing.{Goes}
use Rattle.rina_data.specs.Process.{Process}
use Rattle.rina_dif_law.specs.Outgoing.{Outs}
use Rattle.rina_dif_law.specs.Sending.{home}

-- at the IPC process of a place, where there is one
abbrev pub AtHome : Option ℕ → (ℕ → Type 0) → Type 0 → Type 0
AtHome (Some i) does refuses = does i
AtHome None does refuses = refuses

-- What is sent below

-- the IPC process at a place can take a step at link n
abbrev pub WillGo : Config → ℕ → Seen → ℕ → ℕ → List IpcProcess → Type 0
WillGo g now below n at processes = (p : IpcProcess) → slice_get processes at ≡ Some p → CanGo g now (process_of p) below n

-- it takes one, and no other does anything
abbrev pub Leaves : (Port → ℕ → Option SendError) → Config → ℕ → Seen → ℕ → Result OutStep StepError → Seen → ℕ → List IpcProcess → List IpcProcess → Type 0
Leaves refuses g now below n result below' at old new =
    (p : IpcProcess) → slice_get old at ≡ Some p → (p' : IpcProcess) × Goes refuses g now (process_of p) below n result (process_of p') below' × (queue_settings p' ≡ queue_settings p) × (new ≡ slice_set old at p')

-- the shelf is asked by the number of that IPC process, once where a PDU waits, and its answer is followed; `held` is
-- what is said of a PDU that is held
abbrev pub AsksAt : (ℕ → List Head → ℕ → Type 0) → (Process → Queued → SendError → Type 0) → Settings → ℕ → ℕ → List Slot → List Slot → List IpcProcess → Result OutStep StepError → List IpcProcess → Type 0
AsksAt may held settings n at slots slots' old result new =
    (member : Member) (p p' : IpcProcess) → slice_get settings.members at ≡ Some member → slice_get old at ≡ Some p → slice_get new at ≡ Some p' →
    Asks (slots' ≡ slots) (IsAsked (may member.number) (held (process_of p)) settings.policy p.queues.queues.items n slots slots' (process_of p) result (process_of p')) result

abbrev pub AsksHome : (ℕ → List Head → ℕ → Type 0) → (Process → Queued → SendError → Type 0) → Settings → ℕ → ℕ → List Slot → List Slot → List IpcProcess → Result OutStep StepError → List IpcProcess → Type 0
AsksHome may held settings node n slots slots' old result new =
    AtHome (home node (config_of settings).members) (λ at. AsksAt may held settings n at slots slots' old result new) (slots' ≡ slots)

-- what `out_step` does at link n of the IPC process at a node, where `refuses` is what the facility below refuses by
-- what it alone knows
abbrev pub OutsAt : (Port → ℕ → Option SendError) → DifSeen → Seen → ℕ → ℕ → Result OutStep StepError → DifSeen → Seen → Type 0
OutsAt refuses d below node n (Err Memory) d' below' = (d' ≡ d) × (below' ≡ below)
OutsAt refuses d below node n result d' below' = AtHome (home node d.config.members) (λ at. Outs refuses d below at n result d' below') ((result ≡ Err NoIpc) × (d' ≡ d) × (below' ≡ below))
