-- How a run tells single steps of a DIF of a rank, the write-offs of its ledgers, and the objects of its RIBs.
use Rattle.std.specs.Prelude.{ℕ, ◌-◌, Option, Some, None, option_map}
use Rattle.rina_account.specs.declared.ledger.Off.{Off}
use Rattle.rina_base.specs.declared.cause.Cause.{Cause}
use Rattle.rina_base.specs.declared.cause.Cause.TheVariants as causes
use Rattle.rina_data.specs.declared.step.Took.{Took}
use Rattle.rina_data.specs.declared.step.Took.TheVariants as tooks
use Rattle.rina_data.specs.declared.step.InStep.{InStep}
use Rattle.rina_data.specs.declared.step.InStep.TheVariants as ins
use Rattle.rina_data.specs.declared.step.OutStep.{OutStep}
use Rattle.rina_data.specs.declared.step.OutStep.TheVariants as outs
use Rattle.rina_data.specs.declared.step.ClockStep.{ClockStep}
use Rattle.rina_data.specs.declared.step.ClockStep.TheVariants as clocks
use Rattle.rina_data.specs.declared.step.StepError.{StepError}
use Rattle.rina_data.specs.declared.step.StepError.TheVariants as errors
use Rattle.rina_cdap.specs.declared.error.CdapError.{CdapError}
use Rattle.rina_cdap.specs.declared.error.CdapError.TheVariants as faults
use Rattle.rina_dif.specs.declared.cdap.CdapCallError.{CdapCallError}
use Rattle.rina_dif.specs.declared.cdap.CdapCallError.TheVariants as calls
use Rattle.rina_dif.specs.declared.shown.Shown.{Shown}
use Rattle.rina_base.specs.ObjectNames.{object_name_of}
use Rattle.rina_report.specs.declared.cause.CauseNote.{CauseNote}
use Rattle.rina_report.specs.declared.cause.CauseNote.TheVariants as cause_notes
use Rattle.rina_report.specs.declared.refusal.Refusal.{Refusal}
use Rattle.rina_report.specs.declared.refusal.Refusal.TheVariants as refusals
use Rattle.rina_report.specs.declared.answer.Answer.{Answer}
use Rattle.rina_report.specs.declared.answer.Answer.TheVariants as answers
use Rattle.rina_report.specs.declared.step.ClockNote.{ClockNote}
use Rattle.rina_report.specs.declared.step.ClockNote.TheVariants as clock_notes
use Rattle.rina_report.specs.declared.step.TookNote.{TookNote}
use Rattle.rina_report.specs.declared.step.TookNote.TheVariants as took_notes
use Rattle.rina_stack.specs.declared.plan.Plan.{Plan}
use Rattle.rina_notes.specs.Told.{port_told, send_told}

-- the cause of a write-off in a DIF of a rank; the port of a link is of the rank below
abbrev pub cause_told : Plan → ℕ → Cause → Option CauseNote
cause_told plan rank (causes.Expired left charge) = Some (cause_notes.Expired left charge)
cause_told plan rank (causes.NoRoute dst) = Some (cause_notes.NoRoute dst)
cause_told plan rank (causes.QueueFull cap) = Some (cause_notes.QueueFull cap)
cause_told plan rank (causes.NoConnection cep) = Some (cause_notes.NoConnection cep)
cause_told plan rank (causes.Duplicate num) = Some (cause_notes.Duplicate num)
cause_told plan rank (causes.Behind highest) = Some (cause_notes.Behind highest)
cause_told plan rank (causes.NoState drf) = Some (cause_notes.NoState drf)
cause_told plan rank (causes.NoRoom cap) = Some (cause_notes.NoRoom cap)
cause_told plan rank (causes.StateGone last_in) = Some (cause_notes.StateGone last_in)
cause_told plan rank (causes.Broken missing) = Some (cause_notes.Broken missing)
cause_told plan rank (causes.LinkDown port) = option_map cause_notes.LinkDown (port_told plan (rank - 1) port)

-- what a step did with the PDU that it took
abbrev pub took_told : Plan → ℕ → Took → Option TookNote
took_told plan rank tooks.Accepted = Some took_notes.Accepted
took_told plan rank tooks.Relayed = Some took_notes.Relayed
took_told plan rank (tooks.Off cause) = option_map took_notes.Off (cause_told plan rank cause)

-- what a step answered that takes a PDU from a link
abbrev pub in_told : Plan → ℕ → InStep → Option Answer
in_told plan rank ins.Idle = Some answers.Idle
in_told plan rank (ins.Took key end) = option_map (answers.In key) (took_told plan rank end)

-- what a step answered that gives a PDU to a link; what is refused there, the rank below refused
abbrev pub out_told : Plan → ℕ → OutStep → Option Answer
out_told plan rank outs.Idle = Some answers.Idle
out_told plan rank (outs.Sent key) = Some (answers.Out key)
out_told plan rank (outs.Off key cause) = option_map (answers.OutOff key) (cause_told plan rank cause)
out_told plan rank (outs.Held why) = option_map answers.Held (send_told plan (rank - 1) why)

-- what a step of the clock answered; the port of an ask is of the DIF's own rank
abbrev pub clock_note : Plan → ℕ → ClockStep → Option ClockNote
clock_note plan rank clocks.Idle = None
clock_note plan rank (clocks.LinkLost link) = Some (clock_notes.LinkLost link)
clock_note plan rank (clocks.LinkNew link) = Some (clock_notes.LinkNew link)
clock_note plan rank (clocks.Gone cep) = Some (clock_notes.Gone cep)
clock_note plan rank (clocks.GaveUp num) = Some (clock_notes.GaveUp num)
clock_note plan rank (clocks.Timeout port) = option_map clock_notes.Timeout (port_told plan rank port)
clock_note plan rank (clocks.Ack cep) = Some (clock_notes.Ack cep)
clock_note plan rank (clocks.Again num) = Some (clock_notes.Again num)
clock_note plan rank (clocks.Message link) = Some (clock_notes.Message link)

abbrev pub clock_told : Plan → ℕ → ClockStep → Option Answer
clock_told plan rank clocks.Idle = Some answers.Idle
clock_told plan rank step = option_map answers.Clock (clock_note plan rank step)

-- why a step was not taken; `Memory` is not told
abbrev pub step_told : StepError → Option Refusal
step_told errors.Memory = None
step_told errors.NoIpc = Some refusals.NoIpc
step_told errors.NoLink = Some refusals.NoLink
step_told (errors.CountSpent need left) = Some (refusals.CountSpent need left)

-- a line of a ledger
abbrev pub off_told : Plan → ℕ → Off → Option Answer
off_told plan rank off = option_map (answers.Off off.key) (cause_told plan rank off.cause)

-- the first fault of bytes that are no CDAP message; `Memory` is not told
abbrev pub fault_told : CdapError → Option Refusal
fault_told faults.Memory = None
fault_told (faults.Short at) = Some (refusals.Short at)
fault_told (faults.BadTag at) = Some (refusals.BadTag at)
fault_told (faults.BadOp n) = Some (refusals.BadOp n)
fault_told (faults.Twice tag) = Some (refusals.Twice tag)
fault_told (faults.Missing tag) = Some (refusals.Missing tag)
fault_told (faults.BadValue tag) = Some (refusals.BadValue tag)

-- why bytes were not answered
abbrev pub cdap_told : CdapCallError → Option Refusal
cdap_told calls.Memory = None
cdap_told calls.NoIpc = Some refusals.NoIpc
cdap_told (calls.Cdap error) = fault_told error

-- an object of a RIB
abbrev pub object_told : Shown → Option Answer
object_told x = option_map (λ name. answers.Object name x.class x.value) (object_name_of x.name)
