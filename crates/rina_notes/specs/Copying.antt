-- What has names to copy where it is told. Telling anything else takes no memory.
use Rattle.std.specs.Prelude.{ℕ, ◌-◌, Bool, true, false, Option, Some, None, is_some}
use Rattle.rina_account.specs.declared.ledger.Off.{Off}
use Rattle.rina_base.specs.declared.cause.Cause.{Cause}
use Rattle.rina_base.specs.declared.cause.Cause.TheVariants as causes
use Rattle.rina_base.specs.declared.number.Port.{Port}
use Rattle.rina_data.specs.declared.step.Took.{Took}
use Rattle.rina_data.specs.declared.step.Took.TheVariants as tooks
use Rattle.rina_data.specs.declared.step.InStep.{InStep}
use Rattle.rina_data.specs.declared.step.InStep.TheVariants as ins
use Rattle.rina_data.specs.declared.step.OutStep.{OutStep}
use Rattle.rina_data.specs.declared.step.OutStep.TheVariants as outs
use Rattle.rina_data.specs.declared.step.ClockStep.{ClockStep}
use Rattle.rina_data.specs.declared.step.ClockStep.TheVariants as clocks
use Rattle.rina_dif.specs.declared.enrol.EnrolError.{EnrolError}
use Rattle.rina_dif.specs.declared.enrol.EnrolError.TheVariants as enrol
use Rattle.rina_iface.specs.declared.error.AllocateError.{AllocateError}
use Rattle.rina_iface.specs.declared.error.AllocateError.TheVariants as allocate
use Rattle.rina_iface.specs.declared.error.SendError.{SendError}
use Rattle.rina_iface.specs.declared.error.SendError.TheVariants as send
use Rattle.rina_iface.specs.declared.state.Fail.{Fail}
use Rattle.rina_iface.specs.declared.state.Fail.TheVariants as fails
use Rattle.rina_iface.specs.declared.state.PortState.{PortState}
use Rattle.rina_iface.specs.declared.state.PortState.TheVariants as states
use Rattle.rina_stack.specs.declared.plan.Plan.{Plan}
use Rattle.rina_tower.specs.declared.applications.AppError.{AppError}
use Rattle.rina_tower.specs.declared.applications.AppError.TheVariants as apps
use Rattle.rina_notes.specs.Told.{port_told}

-- a port: the names of its facility and its node, where the stack names both
abbrev pub copies_port : Plan → ℕ → Port → Bool
copies_port plan rank port = is_some (port_told plan rank port)

-- why a flow of a rank failed: the port below
abbrev pub copies_fail : Plan → ℕ → Fail → Bool
copies_fail plan rank (fails.Below port) = copies_port plan (rank - 1) port
copies_fail plan rank _ = false

-- the state of a port of a rank
abbrev pub copies_state : Plan → ℕ → PortState → Bool
copies_state plan rank (states.Failed fail) = copies_fail plan rank fail
copies_state plan rank _ = false

-- the state of a port of a rank that was drawn
abbrev pub copies_drawn : Plan → ℕ → Option PortState → Bool
copies_drawn plan rank None = false
copies_drawn plan rank (Some state) = copies_state plan rank state

-- what `allocate` refused: the port that the wire has already
abbrev pub copies_allocate : AllocateError → Bool
copies_allocate (allocate.Busy port) = true
copies_allocate _ = false

-- what `enrol` refused: what the facility below refused
abbrev pub copies_enrol : EnrolError → Bool
copies_enrol (enrol.Lower e) = copies_allocate e
copies_enrol _ = false

-- what `send` refused at a rank
abbrev pub copies_send : Plan → ℕ → SendError → Bool
copies_send plan rank (send.NotAllocated state) = copies_drawn plan rank state
copies_send plan rank (send.Failed fail) = copies_fail plan rank fail
copies_send plan rank _ = false

-- what a call of an application refused
abbrev pub copies_app : {E : Type 0} → (E → Bool) → AppError E → Bool
copies_app copies (apps.Call e) = copies e
copies_app copies _ = false

-- the cause of a write-off in a DIF of a rank: the port of a link
abbrev pub copies_cause : Plan → ℕ → Cause → Bool
copies_cause plan rank (causes.LinkDown port) = copies_port plan (rank - 1) port
copies_cause plan rank _ = false

-- a line of a ledger
abbrev pub copies_off : Plan → ℕ → Off → Bool
copies_off plan rank off = copies_cause plan rank off.cause

-- what a step did with the PDU that it took
abbrev pub copies_took : Plan → ℕ → Took → Bool
copies_took plan rank (tooks.Off cause) = copies_cause plan rank cause
copies_took plan rank _ = false

-- what a step answered that takes a PDU from a link
abbrev pub copies_in : Plan → ℕ → InStep → Bool
copies_in plan rank (ins.Took key end) = copies_took plan rank end
copies_in plan rank _ = false

-- what a step answered that gives a PDU to a link; what is refused there, the rank below refused
abbrev pub copies_out : Plan → ℕ → OutStep → Bool
copies_out plan rank (outs.Off key cause) = copies_cause plan rank cause
copies_out plan rank (outs.Held why) = copies_send plan (rank - 1) why
copies_out plan rank _ = false

-- what a step of the clock answered: the port of an ask
abbrev pub copies_clock : Plan → ℕ → ClockStep → Bool
copies_clock plan rank (clocks.Timeout port) = copies_port plan rank port
copies_clock plan rank _ = false
