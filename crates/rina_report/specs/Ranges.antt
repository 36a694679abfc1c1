-- The values of a note are in range: each number fits its type, and each name is a name.
use Rattle.std.specs.Prelude.{◌≡◌, ◌≤◌, Option, Some, None, true}
use Rattle.rina_base.specs.declared.number.Num.{Num}
use Rattle.rina_base.specs.declared.number.FlowName.{FlowName}
use Rattle.rina_base.specs.declared.number.Key.{Key}
use Rattle.rina_iface.specs.declared.state.Why.{Why}
use Rattle.rina_iface.specs.declared.state.Why.TheVariants as whys
use Rattle.rina_base.specs.ObjectNames.{is_object_name}
use Rattle.rina_schedule.specs.Ranges.{IsName, IsApp, IsBytes}
use Rattle.rina_report.specs.declared.state.PortNote.{PortNote}
use Rattle.rina_report.specs.declared.state.FailNote.{FailNote}
use Rattle.rina_report.specs.declared.state.FailNote.TheVariants as fails
use Rattle.rina_report.specs.declared.state.StateNote.{StateNote}
use Rattle.rina_report.specs.declared.state.StateNote.TheVariants as states
use Rattle.rina_report.specs.declared.state.MemberNote.{MemberNote}
use Rattle.rina_report.specs.declared.state.MemberNote.TheVariants as members
use Rattle.rina_report.specs.declared.cause.CauseNote.{CauseNote}
use Rattle.rina_report.specs.declared.cause.CauseNote.TheVariants as causes
use Rattle.rina_report.specs.declared.step.TookNote.{TookNote}
use Rattle.rina_report.specs.declared.step.TookNote.TheVariants as tooks
use Rattle.rina_report.specs.declared.step.ClockNote.{ClockNote}
use Rattle.rina_report.specs.declared.step.ClockNote.TheVariants as clocks
use Rattle.rina_report.specs.declared.refusal.Refusal.{Refusal}
use Rattle.rina_report.specs.declared.refusal.Refusal.TheVariants as refusals
use Rattle.rina_report.specs.declared.answer.FlowNote.{FlowNote}
use Rattle.rina_report.specs.declared.answer.Answer.{Answer}
use Rattle.rina_report.specs.declared.answer.Answer.TheVariants as answers
use Rattle.rina_report.specs.declared.note.Fault.{Fault}
use Rattle.rina_report.specs.declared.note.Fault.TheVariants as faults
use Rattle.rina_report.specs.declared.note.Note.{Note}
use Rattle.rina_report.specs.declared.note.Note.TheVariants as notes
use Rattle.rina_report.specs.Fields.{max8, max32, max64}

abbrev pub IsNum : Num → Type 0
IsNum num = (num.cep ≤ max32) × (num.seq ≤ max64)

abbrev pub IsFlowName : FlowName → Type 0
IsFlowName flow = (flow.src ≤ max32) × (flow.tick ≤ max32) × (flow.count ≤ max32)

abbrev pub IsKey : Key → Type 0
IsKey key = (key.src ≤ max32) × (key.scep ≤ max32) × (key.seq ≤ max32)

abbrev pub IsPort : PortNote → Type 0
IsPort port = IsName port.fac × IsName port.node × (port.n ≤ max32)

abbrev pub IsWhy : Why → Type 0
IsWhy (whys.Denied rule) = rule ≤ max32
IsWhy whys.NotHere = Unit {0}
IsWhy (whys.NoIds used) = used ≤ max32
IsWhy (whys.Timeout asked now) = (asked ≤ max32) × (now ≤ max32)
IsWhy whys.Withdrawn = Unit {0}

abbrev pub IsFail : FailNote → Type 0
IsFail (fails.GaveUp num first now) = IsNum num × (first ≤ max32) × (now ≤ max32)
IsFail (fails.Below port) = IsPort port
IsFail (fails.Cut at) = at ≤ max32

abbrev pub IsState : StateNote → Type 0
IsState states.Pending = Unit {0}
IsState states.Allocated = Unit {0}
IsState states.Closed = Unit {0}
IsState (states.Refused why) = IsWhy why
IsState (states.Failed fail) = IsFail fail

abbrev pub IsMember : MemberNote → Type 0
IsMember members.Outside = Unit {0}
IsMember (members.Joining link) = link ≤ max32
IsMember members.Enrolled = Unit {0}
IsMember (members.Denied rule) = rule ≤ max32

abbrev pub IsCause : CauseNote → Type 0
IsCause (causes.Expired left charge) = (left ≤ max32) × (charge ≤ max32)
IsCause (causes.NoRoute dst) = dst ≤ max32
IsCause (causes.QueueFull cap) = cap ≤ max32
IsCause (causes.NoConnection cep) = cep ≤ max32
IsCause (causes.Duplicate num) = IsNum num
IsCause (causes.Behind highest) = highest ≤ max32
IsCause (causes.NoState drf) = Unit {0}
IsCause (causes.NoRoom cap) = cap ≤ max32
IsCause (causes.StateGone last_in) = last_in ≤ max32
IsCause (causes.Broken missing) = missing ≤ max32
IsCause (causes.LinkDown port) = IsPort port

abbrev pub IsTook : TookNote → Type 0
IsTook tooks.Accepted = Unit {0}
IsTook tooks.Relayed = Unit {0}
IsTook (tooks.Off cause) = IsCause cause

abbrev pub IsClock : ClockNote → Type 0
IsClock (clocks.LinkLost link) = link ≤ max32
IsClock (clocks.LinkNew link) = link ≤ max32
IsClock (clocks.Gone cep) = cep ≤ max32
IsClock (clocks.GaveUp num) = IsNum num
IsClock (clocks.Timeout port) = IsPort port
IsClock (clocks.Ack cep) = cep ≤ max32
IsClock (clocks.Again num) = IsNum num
IsClock (clocks.Message link) = link ≤ max32

abbrev pub IsStateOrNone : Option StateNote → Type 0
IsStateOrNone None = Unit {0}
IsStateOrNone (Some state) = IsState state

abbrev pub IsRefusal : Refusal → Type 0
IsRefusal (refusals.Unknown field) = field ≤ max32
IsRefusal (refusals.NoIds used) = used ≤ max32
IsRefusal (refusals.NoRoute dst) = dst ≤ max32
IsRefusal (refusals.NumbersSpent until) = until ≤ max32
IsRefusal (refusals.EarlyHold now) = now ≤ max32
IsRefusal (refusals.LateHold last) = last ≤ max32
IsRefusal (refusals.Enrolling link) = link ≤ max32
IsRefusal (refusals.LinksFull max) = max ≤ max32
IsRefusal (refusals.BadOp op) = op ≤ max32
IsRefusal (refusals.Twice tag) = tag ≤ max32
IsRefusal (refusals.Missing tag) = tag ≤ max32
IsRefusal (refusals.BadValue tag) = tag ≤ max32
IsRefusal (refusals.CountSpent need left) = (need ≤ max32) × (left ≤ max32)
IsRefusal (refusals.WindowShut need room) = (need ≤ max32) × (room ≤ max32)
IsRefusal (refusals.QueueFull need room) = (need ≤ max32) × (room ≤ max32)
IsRefusal (refusals.TooLong len max) = (len ≤ max64) × (max ≤ max32)
IsRefusal (refusals.NoFrame frame) = frame ≤ max64
IsRefusal (refusals.Short at) = at ≤ max64
IsRefusal (refusals.BadTag at) = at ≤ max64
IsRefusal (refusals.Busy port) = IsPort port
IsRefusal (refusals.NotAllocated state) = IsStateOrNone state
IsRefusal (refusals.Failed fail) = IsFail fail
IsRefusal _ = Unit {0}

abbrev pub IsFlow : FlowNote → Type 0
IsFlow e = IsFlowName e.flow × IsPort e.port × IsApp e.app × IsApp e.peer × (e.cube ≤ max8) × (e.taken ≤ max64) × IsState e.state

abbrev pub IsAnswer : Answer → Type 0
IsAnswer answers.Done = Unit {0}
IsAnswer (answers.Port state) = IsState state
IsAnswer (answers.Member state) = IsMember state
IsAnswer answers.Nothing = Unit {0}
IsAnswer (answers.Sent num) = IsNum num
IsAnswer (answers.Got at bytes) = (at ≤ max32) × IsBytes bytes
IsAnswer (answers.In key end) = IsKey key × IsTook end
IsAnswer (answers.Out key) = IsKey key
IsAnswer (answers.OutOff key cause) = IsKey key × IsCause cause
IsAnswer (answers.Held why) = IsRefusal why
IsAnswer (answers.Clock step) = IsClock step
IsAnswer answers.Idle = Unit {0}
IsAnswer (answers.Cdap bytes) = IsBytes bytes
IsAnswer (answers.Object name class value) = (is_object_name name ≡ true) × IsBytes value
IsAnswer (answers.Off key cause) = IsKey key × IsCause cause
IsAnswer (answers.Flow end) = IsFlow end
IsAnswer (answers.SentEntry at num bytes) = (at ≤ max32) × IsNum num × IsBytes bytes
IsAnswer (answers.GotEntry at num bytes) = (at ≤ max32) × IsNum num × IsBytes bytes
IsAnswer (answers.Refused why) = IsRefusal why
IsAnswer (answers.Label label state) = IsName label × IsState state

abbrev pub IsFault : Fault → Type 0
IsFault (faults.Usage word) = word ≤ max32
IsFault faults.TooLarge = Unit {0}
IsFault faults.NotToml = Unit {0}
IsFault (faults.StackRule n item) = (n ≤ max32) × (item ≤ max32)
IsFault (faults.Schedule line n field) = (line ≤ max32) × (n ≤ max32) × (field ≤ max32)
IsFault faults.ReadFault = Unit {0}

abbrev pub IsNote : Note → Type 0
IsNote (notes.Line line tick answer) = (line ≤ max32) × (tick ≤ max32) × IsAnswer answer
IsNote (notes.End tick) = tick ≤ max32
IsNote (notes.Fault fault) = IsFault fault
IsNote (notes.Checked nodes wires difs lines) = (nodes ≤ max32) × (wires ≤ max32) × (difs ≤ max32) × (lines ≤ max32)
IsNote (notes.Gen n lines tick sent got refused off failed) =
    (n ≤ max32) × (lines ≤ max32) × (tick ≤ max32) × (sent ≤ max32) × (got ≤ max32) × (refused ≤ max32) × (off ≤ max32) × (failed ≤ max32)
