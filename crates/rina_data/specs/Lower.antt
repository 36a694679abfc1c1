-- What a step of an IPC process does at the rank below: one call, or nothing. Here `same` says that nothing changed there,
-- and `does` what one call did there.
use Rattle.std.specs.Prelude.{◌⊎◌, ℕ, List, Result, Ok, Err}
use Rattle.rina_base.specs.declared.cause.Cause.{Cause}
use Rattle.rina_base.specs.declared.cause.Cause.TheVariants.{LinkDown}
use Rattle.rina_base.specs.declared.number.Num.{Num}
use Rattle.rina_base.specs.declared.number.Port.{Port}
use Rattle.rina_iface.specs.declared.error.SendError.{SendError}
use Rattle.rina_data.specs.declared.step.InStep.{InStep}
use Rattle.rina_data.specs.declared.step.InStep.TheVariants as ins
use Rattle.rina_data.specs.declared.step.OutStep.{OutStep}
use Rattle.rina_data.specs.declared.step.OutStep.TheVariants as out
use Rattle.rina_data.specs.declared.step.StepError.{StepError}
use Rattle.rina_data.specs.declared.step.StepError.TheVariants.{CountSpent, Memory, NoIpc, NoLink}

-- an SDU was sent at a port, and refused
abbrev pub IsRefused : (Port → List ℕ → Result Num SendError → Type 0) → Port → Type 0
IsRefused does port = (bytes : List ℕ) × (error : SendError) × does port bytes (Err error)

-- where a PDU was written off because its link is down, that port refused it
abbrev pub WritesOffBelow : Type 0 → (Port → Type 0) → Cause → Type 0
WritesOffBelow same refused (LinkDown port) = refused port
WritesOffBelow same refused cause = same

-- a step out: an SDU was sent where a PDU was, and one was refused where a PDU is held; without memory one may have been refused
abbrev pub SendsBelow : Type 0 → (Port → List ℕ → Result Num SendError → Type 0) → Result OutStep StepError → Type 0
SendsBelow same does (Ok out.Idle) = same
SendsBelow same does (Ok (out.Sent key)) = (port : Port) × (bytes : List ℕ) × (num : Num) × does port bytes (Ok num)
SendsBelow same does (Ok (out.Off key cause)) = WritesOffBelow same (IsRefused does) cause
SendsBelow same does (Ok (out.Held why)) = (port : Port) × (bytes : List ℕ) × does port bytes (Err why)
SendsBelow same does (Err Memory) = same ⊎ ((port : Port) × IsRefused does port)
SendsBelow same does (Err NoIpc) = same
SendsBelow same does (Err NoLink) = same
SendsBelow same does (Err (CountSpent need left)) = same

-- a step in: one SDU was passed where a PDU was taken. Without memory it was passed or not, since memory may run out behind that
abbrev pub PassesBelow : Type 0 → (Port → Type 0) → Result InStep StepError → Type 0
PassesBelow same does (Ok ins.Idle) = same
PassesBelow same does (Ok (ins.Took key end)) = (port : Port) × does port
PassesBelow same does (Err Memory) = same ⊎ ((port : Port) × does port)
PassesBelow same does (Err NoIpc) = same
PassesBelow same does (Err NoLink) = same
PassesBelow same does (Err (CountSpent need left)) = same
