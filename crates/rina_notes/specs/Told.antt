-- How a run tells ports, states and refusals: with the names of the stack in place of numbers.
use Rattle.std.specs.Prelude.{ℕ, ◌-◌, ◌==◌, if◌then◌else◌, List, slice_get, Option, Some, None, Result, Ok, Err, option_and_then, option_map}
use Rattle.rina_agent.specs.declared.state.MemberState.{MemberState}
use Rattle.rina_agent.specs.declared.state.MemberState.TheVariants as of_members
use Rattle.rina_base.specs.declared.number.Port.{Port}
use Rattle.rina_iface.specs.declared.state.PortState.{PortState}
use Rattle.rina_iface.specs.declared.state.PortState.TheVariants as states
use Rattle.rina_iface.specs.declared.state.Fail.{Fail}
use Rattle.rina_iface.specs.declared.state.Fail.TheVariants as fails
use Rattle.rina_iface.specs.declared.error.RegisterError.{RegisterError}
use Rattle.rina_iface.specs.declared.error.RegisterError.TheVariants as register
use Rattle.rina_iface.specs.declared.error.UnregisterError.{UnregisterError}
use Rattle.rina_iface.specs.declared.error.UnregisterError.TheVariants as unregister
use Rattle.rina_iface.specs.declared.error.FreeError.{FreeError}
use Rattle.rina_iface.specs.declared.error.FreeError.TheVariants as free
use Rattle.rina_iface.specs.declared.error.AllocateError.{AllocateError}
use Rattle.rina_iface.specs.declared.error.AllocateError.TheVariants as allocate
use Rattle.rina_iface.specs.declared.error.SendError.{SendError}
use Rattle.rina_iface.specs.declared.error.SendError.TheVariants as send
use Rattle.rina_policy.specs.declared.shelf.NoPolicy.{NoPolicy}
use Rattle.rina_wire.specs.declared.event.WireError.{WireError}
use Rattle.rina_wire.specs.declared.event.WireError.TheVariants as wires
use Rattle.rina_report.specs.declared.refusal.Refusal.{Refusal}
use Rattle.rina_report.specs.declared.refusal.Refusal.TheVariants as refusals
use Rattle.rina_report.specs.declared.answer.Answer.{Answer}
use Rattle.rina_report.specs.declared.answer.Answer.TheVariants as answers
use Rattle.rina_report.specs.declared.state.MemberNote.{MemberNote}
use Rattle.rina_report.specs.declared.state.MemberNote.TheVariants as member_notes
use Rattle.rina_report.specs.declared.state.PortNote.{PortNote}
use Rattle.rina_report.specs.declared.state.FailNote.{FailNote}
use Rattle.rina_report.specs.declared.state.FailNote.TheVariants as fail_notes
use Rattle.rina_report.specs.declared.state.StateNote.{StateNote}
use Rattle.rina_report.specs.declared.state.StateNote.TheVariants as notes
use Rattle.rina_stack.specs.declared.plan.Plan.{Plan}
use Rattle.rina_dif.specs.declared.enrol.EnrolError.{EnrolError}
use Rattle.rina_dif.specs.declared.enrol.EnrolError.TheVariants as enrol
use Rattle.rina_tower.specs.declared.applications.AppError.{AppError}
use Rattle.rina_tower.specs.declared.applications.AppError.TheVariants as apps
use Rattle.rina_tower.specs.declared.publish.PublishError.{PublishError}
use Rattle.rina_tower.specs.declared.publish.PublishError.TheVariants as publish
use Rattle.rina_stack.specs.Plan.{names_of}
use Rattle.rina_notes.specs.Sites.{names_at}

abbrev pub port_note : ℕ → List ℕ → List ℕ → PortNote
port_note n fac node = record { fac = fac; node = node; n = n }

-- the names of the facilities of a rank, by their numbers
unfoldable pub facs_of : Plan → ℕ → List (List ℕ)
facs_of plan rank = if rank == 0 then names_of plan.wires else names_at rank plan.difs

-- a port of a rank with the names of its facility and its node; nothing where the stack names none such
abbrev pub port_told : Plan → ℕ → Port → Option PortNote
port_told plan rank port = option_and_then (λ fac. option_map (port_note port.n fac) (slice_get plan.nodes port.node)) (slice_get (facs_of plan rank) port.fac)

-- why a flow of a rank failed; a port below it is of the rank below
abbrev pub fail_told : Plan → ℕ → Fail → Option FailNote
fail_told plan rank (fails.GaveUp num first at) = Some (fail_notes.GaveUp num first at)
fail_told plan rank (fails.Below port) = option_map fail_notes.Below (port_told plan (rank - 1) port)
fail_told plan rank (fails.Cut at) = Some (fail_notes.Cut at)

-- the state of a port of a rank
abbrev pub state_told : Plan → ℕ → PortState → Option StateNote
state_told plan rank states.Pending = Some notes.Pending
state_told plan rank states.Allocated = Some notes.Allocated
state_told plan rank (states.Refused why) = Some (notes.Refused why)
state_told plan rank (states.Failed fail) = option_map notes.Failed (fail_told plan rank fail)
state_told plan rank states.Closed = Some notes.Closed

-- the state of a port of a rank that was drawn
abbrev pub drawn_told : Plan → ℕ → Option PortState → Option StateNote
drawn_told plan rank state = option_and_then (state_told plan rank) state

-- how far an IPC process is a member of its DIF
abbrev pub member_told : MemberState → MemberNote
member_told of_members.Outside = member_notes.Outside
member_told (of_members.Joining link) = member_notes.Joining link
member_told of_members.Enrolled = member_notes.Enrolled
member_told (of_members.Denied rule) = member_notes.Denied rule

-- what `register` refused; `Memory` is not told
abbrev pub register_told : RegisterError → Option Refusal
register_told register.Memory = None
register_told register.Already = Some refusals.Already
register_told register.NoMember = Some refusals.NoMember
register_told (register.CountSpent need left) = Some (refusals.CountSpent need left)

-- what `publish` refused: of what the facility below refused, that
abbrev pub publish_told : PublishError → Option Refusal
publish_told publish.NoIpc = Some refusals.NoIpc
publish_told (publish.Lower e) = register_told e

-- what `unregister` refused
abbrev pub unregister_told : UnregisterError → Option Refusal
unregister_told unregister.Memory = None
unregister_told unregister.NotThere = Some refusals.NotThere
unregister_told (unregister.CountSpent need left) = Some (refusals.CountSpent need left)

-- what `free` refused
abbrev pub free_told : FreeError → Option Refusal
free_told free.Memory = None
free_told free.NoPort = Some refusals.NoPort

-- what `allocate` refused at a facility and a node of these names
abbrev pub allocate_told : List ℕ → List ℕ → AllocateError → Option Refusal
allocate_told fac node allocate.Memory = None
allocate_told fac node allocate.NoMember = Some refusals.NoMember
allocate_told fac node allocate.NoCube = Some refusals.NoCube
allocate_told fac node allocate.NoSuchApp = Some refusals.NoSuchApp
allocate_told fac node allocate.SameSystem = Some refusals.SameSystem
allocate_told fac node (allocate.NoIds used) = Some (refusals.NoIds used)
allocate_told fac node (allocate.NoRoute dst) = Some (refusals.NoRoute dst)
allocate_told fac node (allocate.Busy port) = Some (refusals.Busy (port_note port.n fac node))
allocate_told fac node (allocate.CountSpent need left) = Some (refusals.CountSpent need left)

-- what `enrol` refused at a facility below and a node of these names: of what that facility refused, that
abbrev pub enrol_told : List ℕ → List ℕ → EnrolError → Option Refusal
enrol_told fac node enrol.Memory = None
enrol_told fac node enrol.NoIpc = Some refusals.NoIpc
enrol_told fac node (enrol.Enrolling link) = Some (refusals.Enrolling link)
enrol_told fac node (enrol.LinksFull max) = Some (refusals.LinksFull max)
enrol_told fac node (enrol.CountSpent need left) = Some (refusals.CountSpent need left)
enrol_told fac node (enrol.Lower e) = allocate_told fac node e

-- what `send` refused at a rank
abbrev pub send_told : Plan → ℕ → SendError → Option Refusal
send_told plan rank send.Memory = None
send_told plan rank (send.NotAllocated state) = Some (refusals.NotAllocated (drawn_told plan rank state))
send_told plan rank (send.Failed fail) = option_map refusals.Failed (fail_told plan rank fail)
send_told plan rank (send.TooLong len max) = Some (refusals.TooLong len max)
send_told plan rank (send.WindowShut need room) = Some (refusals.WindowShut need room)
send_told plan rank (send.NoRoute dst) = Some (refusals.NoRoute dst)
send_told plan rank (send.QueueFull need room) = Some (refusals.QueueFull need room)
send_told plan rank (send.NumbersSpent until) = Some (refusals.NumbersSpent until)

-- what a call of an application refused
abbrev pub app_told : {E : Type 0} → (E → Option Refusal) → AppError E → Option Refusal
app_told refused apps.NoRank = Some refusals.NoRank
app_told refused apps.NotYours = Some refusals.NotYours
app_told refused (apps.Call e) = refused e

-- what an event of a wire refused
abbrev pub wire_told : WireError → Option Refusal
wire_told wires.Memory = None
wire_told wires.NoWire = Some refusals.NoWire
wire_told (wires.NoFrame frame) = Some (refusals.NoFrame frame)
wire_told (wires.EarlyHold now) = Some (refusals.EarlyHold now)
wire_told (wires.LateHold last) = Some (refusals.LateHold last)

-- what a call answered: the answer where it was done, or its refusal
abbrev pub answer_told : {A E : Type 0} → (A → Option Answer) → (E → Option Refusal) → Result A E → Option Answer
answer_told done refused (Ok x) = done x
answer_told done refused (Err e) = option_map answers.Refused (refused e)

-- what `retire` answered
abbrev pub retired_told : Result (Unit {0}) NoPolicy → Option Answer
retired_told answer = answer_told (λ done. Some answers.Done) (λ e. Some refusals.NoPolicy) answer
