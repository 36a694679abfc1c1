-- No space stands in a field of a note.
use Rattle.std.proofs.Common.{◌≡◌, ℕ, ◌≤◌, Bool, true, false, not, eqb, List, [], ◌∷◌, ◌++◌, codes, Option, Some, None, refl, ◌∙◌, arith}
use Rattle.std.specs.Fmt.{decimal}
use Rattle.rina_base.specs.declared.number.Key.{Key}
use Rattle.rina_base.specs.declared.number.Num.{Num}
use Rattle.rina_base.specs.declared.number.FlowName.{FlowName}
use Rattle.rina_base.specs.declared.pdu.PduKind.{PduKind}
use Rattle.rina_base.specs.declared.pdu.PduKind.TheVariants.{Piece, Ack}
use Rattle.rina_iface.specs.declared.state.Why.{Why}
use Rattle.rina_iface.specs.declared.state.Why.TheVariants as whys
use Rattle.rina_iface.specs.declared.state.Role.{Role}
use Rattle.rina_iface.specs.declared.state.Role.TheVariants as roles
use Rattle.rina_report.specs.declared.state.PortNote.{PortNote}
use Rattle.rina_report.specs.declared.state.FailNote.{FailNote}
use Rattle.rina_report.specs.declared.state.FailNote.TheVariants as fails
use Rattle.rina_report.specs.declared.state.StateNote.{StateNote}
use Rattle.rina_report.specs.declared.state.StateNote.TheVariants as states
use Rattle.rina_report.specs.declared.state.MemberNote.{MemberNote}
use Rattle.rina_report.specs.declared.state.MemberNote.TheVariants as members
use Rattle.rina_report.specs.declared.cause.CauseNote.{CauseNote}
use Rattle.rina_report.specs.declared.cause.CauseNote.TheVariants as causes
use Rattle.rina_report.specs.declared.step.TookNote.{TookNote}
use Rattle.rina_report.specs.declared.step.TookNote.TheVariants as tooks
use Rattle.rina_report.specs.declared.step.ClockNote.{ClockNote}
use Rattle.rina_report.specs.declared.step.ClockNote.TheVariants as clocks
use Rattle.rina_report.specs.declared.refusal.Refusal.{Refusal}
use Rattle.rina_report.specs.declared.refusal.Refusal.TheVariants as refusals
use Rattle.rina_base.specs.declared.class.Class.{Class}
use Rattle.rina_base.specs.declared.class.Class.TheVariants as classes
use Rattle.rina_base.specs.Classes.{class_text}
use Rattle.rina_report.specs.declared.answer.FlowNote.{FlowNote}
use Rattle.rina_report.specs.declared.answer.Answer.{Answer}
use Rattle.rina_report.specs.declared.answer.Answer.TheVariants as answers
use Rattle.rina_report.specs.declared.note.Fault.{Fault}
use Rattle.rina_report.specs.declared.note.Fault.TheVariants as faults
use Rattle.rina_report.specs.declared.note.Note.{Note}
use Rattle.rina_report.specs.declared.note.Note.TheVariants as notes
use Rattle.rina_report.specs.Values.{num_text, flow_text, port_text, kind_word, key_text, truth_text}
use Rattle.rina_report.specs.States.{why_fields, fail_fields, state_fields, member_fields}
use Rattle.rina_report.specs.Causes.{cause_word, cause_values, cause_fields}
use Rattle.rina_report.specs.Steps.{took_fields, clock_fields}
use Rattle.rina_report.specs.Refusals.{state_or_none, refusal_word, refusal_values, refusal_fields}
use Rattle.rina_report.specs.Answers.{role_word, end_fields, flow_fields, answer_fields}
use Rattle.rina_report.specs.Notes.{fault_word, fault_values, told_fields}
use Rattle.rina_report.specs.Fields.{max32, max64}
use Rattle.rina_report.specs.Ranges.{IsNum, IsFlowName, IsKey, IsPort, IsWhy, IsFail, IsState, IsMember, IsCause, IsTook, IsClock, IsStateOrNone, IsRefusal, IsFlow, IsAnswer, IsFault, IsNote}
use Rattle.std.specs.List.{list_all}
use Rattle.std.proofs.lemmas.Bool.{and_from}
use Rattle.std.proofs.lemmas.List.Folds.{list_all-append}
use Rattle.rina_schedule.proofs.Values.{IsField-name, IsField-app, IsField-object, IsField-decimal, IsField-spelling}
use Rattle.rina_report.proofs.Split.{is_clear}
use Rattle.rina_report.proofs.Printed.{note_fields}

abbrev pub are_clear : List (List ℕ) → Bool
are_clear fs = list_all is_clear fs

decimal_clear32 : (n : ℕ) → n ≤ max32 → is_clear (decimal n) ≡ true
decimal_clear32 n h = (IsField-decimal n (omega arith)).clear

decimal_clear64 : (n : ℕ) → n ≤ max64 → is_clear (decimal n) ≡ true
decimal_clear64 n h = (IsField-decimal n (omega arith)).clear

clear_append : (a b : List ℕ) → is_clear a ≡ true → is_clear b ≡ true → is_clear (a ++ b) ≡ true
clear_append a b ha hb = list_all-append (λ b. not (eqb b 32)) a b ∙ and_from (is_clear a) (is_clear b) ha hb

num_clear : (num : Num) → IsNum num → is_clear (num_text num) ≡ true
unfolding num_text
num_clear num h = clear_append (decimal num.cep) (46 ∷ decimal num.seq) (decimal_clear32 num.cep h.0) (decimal_clear64 num.seq h.1)

triple_clear : (a b c : ℕ) → a ≤ max32 → b ≤ max32 → c ≤ max32 → is_clear (decimal a ++ 46 ∷ decimal b ++ 46 ∷ decimal c) ≡ true
triple_clear a b c ha hb hc = clear_append (decimal a ++ 46 ∷ decimal b) (46 ∷ decimal c) (clear_append (decimal a) (46 ∷ decimal b) (decimal_clear32 a ha) (decimal_clear32 b hb)) (decimal_clear32 c hc)

flow_text_clear : (flow : FlowName) → IsFlowName flow → is_clear (flow_text flow) ≡ true
unfolding flow_text
flow_text_clear flow h = triple_clear flow.src flow.tick flow.count h.0 h.1 h.2

kind_clear : (kind : PduKind) → is_clear (kind_word kind) ≡ true
unfolding kind_word
kind_clear Piece = refl
kind_clear Ack = refl

key_clear : (key : Key) (fs : List (List ℕ)) → IsKey key → are_clear fs ≡ true → are_clear (kind_word key.kind ∷ key_text key ∷ fs) ≡ true
unfolding key_text
key_clear key fs h rest = rw (kind_clear key.kind, triple_clear key.src key.scep key.seq h.0 h.1 h.2) rest

port_clear : (port : PortNote) → IsPort port → is_clear (port_text port) ≡ true
unfolding port_text
port_clear port h = clear_append (port.fac ++ 47 ∷ port.node) (47 ∷ decimal port.n) (clear_append port.fac (47 ∷ port.node) (IsField-name port.fac h.0).clear (IsField-name port.node h.1).clear) (decimal_clear32 port.n h.2)

truth_clear : (b : Bool) → is_clear (truth_text b) ≡ true
unfolding truth_text
truth_clear true = refl
truth_clear false = refl

why_clear : (x : Why) → IsWhy x → are_clear (why_fields x) ≡ true
unfolding why_fields
why_clear (whys.Denied rule) h = rw (decimal_clear32 rule h) refl
why_clear whys.NotHere h = refl
why_clear (whys.NoIds used) h = rw (decimal_clear32 used h) refl
why_clear (whys.Timeout asked now) h = rw (decimal_clear32 asked h.0, decimal_clear32 now h.1) refl
why_clear whys.Withdrawn h = refl

fail_clear : (x : FailNote) → IsFail x → are_clear (fail_fields x) ≡ true
unfolding fail_fields
fail_clear (fails.GaveUp num first now) h = rw (num_clear num h.0, decimal_clear32 first h.1, decimal_clear32 now h.2) refl
fail_clear (fails.Below port) h = rw (port_clear port h) refl
fail_clear (fails.Cut at) h = rw (decimal_clear32 at h) refl

state_clear : (x : StateNote) → IsState x → are_clear (state_fields x) ≡ true
unfolding state_fields
state_clear states.Pending h = refl
state_clear states.Allocated h = refl
state_clear states.Closed h = refl
state_clear (states.Refused why) h = why_clear why h
state_clear (states.Failed fail) h = fail_clear fail h

member_clear : (x : MemberNote) → IsMember x → are_clear (member_fields x) ≡ true
unfolding member_fields
member_clear members.Outside h = refl
member_clear (members.Joining link) h = rw (decimal_clear32 link h) refl
member_clear members.Enrolled h = refl
member_clear (members.Denied rule) h = rw (decimal_clear32 rule h) refl

cause_clear : (x : CauseNote) → IsCause x → are_clear (cause_fields x) ≡ true
unfolding cause_word cause_values
cause_clear (causes.Expired left charge) h = rw (decimal_clear32 left h.0, decimal_clear32 charge h.1) refl
cause_clear (causes.NoRoute dst) h = rw (decimal_clear32 dst h) refl
cause_clear (causes.QueueFull cap) h = rw (decimal_clear32 cap h) refl
cause_clear (causes.NoConnection cep) h = rw (decimal_clear32 cep h) refl
cause_clear (causes.NoRoom cap) h = rw (decimal_clear32 cap h) refl
cause_clear (causes.LinkDown port) h = rw (port_clear port h) refl
cause_clear (causes.Duplicate num) h = rw (num_clear num h) refl
cause_clear (causes.Behind highest) h = rw (decimal_clear32 highest h) refl
cause_clear (causes.NoState drf) h = rw (truth_clear drf) refl
cause_clear (causes.StateGone last_in) h = rw (decimal_clear32 last_in h) refl
cause_clear (causes.Broken missing) h = rw (decimal_clear32 missing h) refl

took_clear : (x : TookNote) → IsTook x → are_clear (took_fields x) ≡ true
unfolding took_fields
took_clear tooks.Accepted h = refl
took_clear tooks.Relayed h = refl
took_clear (tooks.Off cause) h = cause_clear cause h

clock_clear : (x : ClockNote) → IsClock x → are_clear (clock_fields x) ≡ true
unfolding clock_fields
clock_clear (clocks.LinkLost link) h = rw (decimal_clear32 link h) refl
clock_clear (clocks.LinkNew link) h = rw (decimal_clear32 link h) refl
clock_clear (clocks.Gone cep) h = rw (decimal_clear32 cep h) refl
clock_clear (clocks.GaveUp num) h = rw (num_clear num h) refl
clock_clear (clocks.Timeout port) h = rw (port_clear port h) refl
clock_clear (clocks.Ack cep) h = rw (decimal_clear32 cep h) refl
clock_clear (clocks.Again num) h = rw (num_clear num h) refl
clock_clear (clocks.Message link) h = rw (decimal_clear32 link h) refl

state_or_none_clear : (x : Option StateNote) → IsStateOrNone x → are_clear (state_or_none x) ≡ true
unfolding state_or_none
state_or_none_clear None h = refl
state_or_none_clear (Some state) h = state_clear state h

refusal_clear : (x : Refusal) → IsRefusal x → are_clear (refusal_fields x) ≡ true
unfolding refusal_word refusal_values
refusal_clear refusals.NoWire h = refl
refusal_clear refusals.NoPolicy h = refl
refusal_clear refusals.LabelUsed h = refl
refusal_clear refusals.ClockSpent h = refl
refusal_clear refusals.NoIpc h = refl
refusal_clear refusals.Already h = refl
refusal_clear refusals.NoMember h = refl
refusal_clear refusals.NotThere h = refl
refusal_clear refusals.NoCube h = refl
refusal_clear refusals.NoSuchApp h = refl
refusal_clear refusals.SameSystem h = refl
refusal_clear refusals.NoPort h = refl
refusal_clear refusals.NoLink h = refl
refusal_clear refusals.NoRank h = refl
refusal_clear refusals.NotYours h = refl
refusal_clear (refusals.Unknown field) h = rw (decimal_clear32 field h) refl
refusal_clear (refusals.NoIds used) h = rw (decimal_clear32 used h) refl
refusal_clear (refusals.NoRoute dst) h = rw (decimal_clear32 dst h) refl
refusal_clear (refusals.NumbersSpent until) h = rw (decimal_clear32 until h) refl
refusal_clear (refusals.EarlyHold now) h = rw (decimal_clear32 now h) refl
refusal_clear (refusals.LateHold last) h = rw (decimal_clear32 last h) refl
refusal_clear (refusals.Enrolling link) h = rw (decimal_clear32 link h) refl
refusal_clear (refusals.LinksFull max) h = rw (decimal_clear32 max h) refl
refusal_clear (refusals.BadOp op) h = rw (decimal_clear32 op h) refl
refusal_clear (refusals.Twice tag) h = rw (decimal_clear32 tag h) refl
refusal_clear (refusals.Missing tag) h = rw (decimal_clear32 tag h) refl
refusal_clear (refusals.BadValue tag) h = rw (decimal_clear32 tag h) refl
refusal_clear (refusals.CountSpent need left) h = rw (decimal_clear32 need h.0, decimal_clear32 left h.1) refl
refusal_clear (refusals.WindowShut need room) h = rw (decimal_clear32 need h.0, decimal_clear32 room h.1) refl
refusal_clear (refusals.QueueFull need room) h = rw (decimal_clear32 need h.0, decimal_clear32 room h.1) refl
refusal_clear (refusals.TooLong len max) h = rw (decimal_clear64 len h.0, decimal_clear32 max h.1) refl
refusal_clear (refusals.NoFrame frame) h = rw (decimal_clear64 frame h) refl
refusal_clear (refusals.Short at) h = rw (decimal_clear64 at h) refl
refusal_clear (refusals.BadTag at) h = rw (decimal_clear64 at h) refl
refusal_clear (refusals.Busy port) h = rw (port_clear port h) refl
refusal_clear (refusals.NotAllocated state) h = state_or_none_clear state h
refusal_clear (refusals.Failed fail) h = fail_clear fail h

class_clear : (class : Class) → is_clear (class_text class) ≡ true
class_clear classes.Folder = refl
class_clear classes.Value = refl
class_clear classes.Cube = refl
class_clear classes.Flow = refl
class_clear classes.Service = refl

role_clear : (role : Role) → is_clear (role_word role) ≡ true
unfolding role_word
role_clear roles.Asker = refl
role_clear roles.Far = refl

flow_clear : (e : FlowNote) → IsFlow e → are_clear (flow_fields e) ≡ true
unfolding flow_fields end_fields
flow_clear e h =
    rw (flow_text_clear e.flow h.0, role_clear e.role, port_clear e.port h.1, (IsField-app e.app h.2).clear, (IsField-app e.peer h.3).clear, decimal_clear32 e.cube (omega (arith, h.4)), decimal_clear64 e.taken h.5) (state_clear e.state h.6)

pub answer_clear : (x : Answer) → IsAnswer x → are_clear (answer_fields x) ≡ true
unfolding answer_fields
answer_clear answers.Done h = refl
answer_clear (answers.Port state) h = state_clear state h
answer_clear (answers.Member state) h = member_clear state h
answer_clear answers.Nothing h = refl
answer_clear (answers.Sent num) h = rw (num_clear num h) refl
answer_clear (answers.Got at bytes) h = rw (decimal_clear32 at h.0, (IsField-spelling bytes).clear) refl
answer_clear (answers.In key end) h = key_clear key (took_fields end) h.0 (took_clear end h.1)
answer_clear (answers.Out key) h = key_clear key [] h refl
answer_clear (answers.OutOff key cause) h = key_clear key (codes "off" ∷ cause_fields cause) h.0 (cause_clear cause h.1)
answer_clear (answers.Held why) h = refusal_clear why h
answer_clear (answers.Clock step) h = clock_clear step h
answer_clear answers.Idle h = refl
answer_clear (answers.Cdap bytes) h = rw ((IsField-spelling bytes).clear) refl
answer_clear (answers.Object name class value) h = rw ((IsField-object name h.0).clear, class_clear class, (IsField-spelling value).clear) refl
answer_clear (answers.Off key cause) h = key_clear key (cause_fields cause) h.0 (cause_clear cause h.1)
answer_clear (answers.Flow end) h = flow_clear end h
answer_clear (answers.SentEntry at num bytes) h = rw (decimal_clear32 at h.0, num_clear num h.1, (IsField-spelling bytes).clear) refl
answer_clear (answers.GotEntry at num bytes) h = rw (decimal_clear32 at h.0, num_clear num h.1, (IsField-spelling bytes).clear) refl
answer_clear (answers.Refused why) h = refusal_clear why h
answer_clear (answers.Label label state) h = rw ((IsField-name label h.0).clear) (state_clear state h.1)

fault_clear : (x : Fault) → IsFault x → are_clear (fault_word x ∷ fault_values x) ≡ true
unfolding fault_word fault_values
fault_clear (faults.Usage word) h = rw (decimal_clear32 word h) refl
fault_clear faults.TooLarge h = refl
fault_clear faults.NotToml h = refl
fault_clear (faults.StackRule n item) h = rw (decimal_clear32 n h.0, decimal_clear32 item h.1) refl
fault_clear (faults.Schedule line n field) h = rw (decimal_clear32 line h.0, decimal_clear32 n h.1, decimal_clear32 field h.2) refl
fault_clear faults.ReadFault h = refl

pub note_clear : (x : Note) → IsNote x → are_clear (note_fields x) ≡ true
unfolding told_fields
note_clear (notes.Line line tick answer) h = rw (decimal_clear32 line h.0, decimal_clear32 tick h.1) (answer_clear answer h.2)
note_clear (notes.End tick) h = rw (decimal_clear32 tick h) refl
note_clear (notes.Fault fault) h = fault_clear fault h
note_clear (notes.Checked nodes wires difs lines) h = rw (decimal_clear32 nodes h.0, decimal_clear32 wires h.1, decimal_clear32 difs h.2, decimal_clear32 lines h.3) refl
note_clear (notes.Gen n lines tick sent got refused off failed) h =
    rw (decimal_clear32 n h.0, decimal_clear32 lines h.1, decimal_clear32 tick h.2, decimal_clear32 sent h.3, decimal_clear32 got h.4, decimal_clear32 refused h.5, decimal_clear32 off h.6, decimal_clear32 failed h.7) refl
