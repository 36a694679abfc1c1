-- What is printed of a note is read back as it was.
use Rattle.std.proofs.Common.{◌≡◌, ℕ, ◌+◌, ◌≤◌, Bool, true, false, eqb, ◌&&◌, List, [], ◌∷◌, codes, Option, Some, None, Result, Ok, Err, refl, sym, ap, ◌∙◌, arith}
use Rattle.std.specs.Fmt.{decimal}
use Rattle.std.specs.Str.{bytes_eq}
use Rattle.rina_base.specs.declared.number.Num.{Num}
use Rattle.rina_iface.specs.declared.state.Why.{Why}
use Rattle.rina_iface.specs.declared.state.Why.TheVariants as whys
use Rattle.rina_iface.specs.declared.state.Role.{Role}
use Rattle.rina_iface.specs.declared.state.Role.TheVariants as roles
use Rattle.rina_schedule.specs.declared.error.LineError.{LineError}
use Rattle.rina_schedule.specs.declared.error.LineError.TheVariants as errors
use Rattle.rina_schedule.specs.Spelling.{spelling}
use Rattle.rina_schedule.specs.Ranges.{IsBytes}
use Rattle.rina_report.specs.declared.state.FailNote.{FailNote}
use Rattle.rina_report.specs.declared.state.FailNote.TheVariants as fails
use Rattle.rina_report.specs.declared.state.StateNote.{StateNote}
use Rattle.rina_report.specs.declared.state.StateNote.TheVariants as states
use Rattle.rina_report.specs.declared.state.MemberNote.{MemberNote}
use Rattle.rina_report.specs.declared.state.MemberNote.TheVariants as members
use Rattle.rina_report.specs.declared.cause.CauseNote.{CauseNote}
use Rattle.rina_report.specs.declared.cause.CauseNote.TheVariants as causes
use Rattle.rina_report.specs.declared.step.TookNote.{TookNote}
use Rattle.rina_report.specs.declared.step.TookNote.TheVariants as tooks
use Rattle.rina_report.specs.declared.step.ClockNote.{ClockNote}
use Rattle.rina_report.specs.declared.step.ClockNote.TheVariants as clocks
use Rattle.rina_report.specs.declared.refusal.Refusal.{Refusal}
use Rattle.rina_report.specs.declared.refusal.Refusal.TheVariants as refusals
use Rattle.rina_base.specs.declared.class.Class.{Class}
use Rattle.rina_base.specs.declared.class.Class.TheVariants as classes
use Rattle.rina_report.specs.declared.answer.FlowNote.{FlowNote}
use Rattle.rina_report.specs.declared.answer.Answer.{Answer}
use Rattle.rina_report.specs.declared.answer.Answer.TheVariants as answers
use Rattle.rina_report.specs.declared.note.Fault.{Fault}
use Rattle.rina_report.specs.declared.note.Fault.TheVariants as faults
use Rattle.rina_report.specs.declared.note.Note.{Note}
use Rattle.rina_report.specs.declared.note.Note.TheVariants as notes
use Rattle.rina_report.specs.Values.{num_text, flow_text, port_text}
use Rattle.rina_report.specs.States.{why_fields, fail_fields, state_fields, member_fields}
use Rattle.rina_report.specs.Causes.{cause_word, cause_values, cause_fields}
use Rattle.rina_report.specs.Steps.{took_fields, clock_fields}
use Rattle.rina_report.specs.Refusals.{state_or_none, refusal_word, refusal_values, refusal_fields}
use Rattle.rina_report.specs.Answers.{role_word, end_fields, flow_fields, answer_fields}
use Rattle.rina_report.specs.Notes.{fault_word, fault_values, told_fields}
use Rattle.rina_report.specs.Fields.{max8, max32, max64, word_at}
use Rattle.rina_report.specs.ReadStates.{why_of, why_at, gave_up_at, fail_of, fail_at, state_of, state_at}
use Rattle.rina_report.specs.ReadCauses.{pdu_cause_of, cause_of, cause_at, took_of, took_at, clock_of, clock_at}
use Rattle.rina_report.specs.ReadRefusals.{bare_of, state_or_none_of, state_or_none_at, shaped_of, numbered_of, counted_of, refusal_of, refusal_at}
use Rattle.rina_report.specs.ReadAnswers.{role_of, ok_state_of, ok_at, got_at, in_at, out_off_of, out_at, off_at, object_note_at, flow_note_at, entry_at, label_at, journal_word_at, step_word_at, answer_at}
use Rattle.rina_report.specs.ReadNotes.{schedule_at, fault_of, fault_at, checked_at, named_at, gen_at, counter_at, told_at, line_note_at, whole_at, fields_note}
use Rattle.rina_report.specs.Ranges.{IsNum, IsWhy, IsFail, IsState, IsMember, IsCause, IsTook, IsClock, IsStateOrNone, IsRefusal, IsFlow, IsAnswer, IsFault, IsNote}
use Rattle.std.specs.List.{list_all}
use Rattle.std.proofs.lemmas.Bool.{and_parts, eqb-true, false≢true}
use Rattle.rina_base.specs.Decimals.{is_digit}
use Rattle.rina_base.specs.Classes.{class_of, class_text}
use Rattle.rina_schedule.proofs.Values.{decimal_digits}
use Rattle.rina_report.proofs.Numerals.{numeral_back}
use Rattle.rina_report.proofs.Readers.{number_back, num_back, flow_back, key_back, port_back, name_back, app_back, object_back, last_number_back, last_two_back, last_num_back, last_port_back, last_truth_back, last_bytes_back}

pub why_back : (m : ℕ) (x : Why) → IsWhy x → why_at m (why_fields x) ≡ Ok x
unfolding why_at why_of why_fields
why_back m (whys.Denied rule) h = rw (last_number_back max32 (m + 1) rule (omega arith) h) refl
why_back m whys.NotHere h = refl
why_back m (whys.NoIds used) h = rw (last_number_back max32 (m + 1) used (omega arith) h) refl
why_back m (whys.Timeout asked now) h = rw (last_two_back max32 (m + 1) asked now (omega arith) h.0 h.1) refl
why_back m whys.Withdrawn h = refl

pub fail_back : (m : ℕ) (x : FailNote) → IsFail x → fail_at m (fail_fields x) ≡ Ok x
unfolding fail_at fail_of gave_up_at fail_fields
fail_back m (fails.GaveUp num first now) h = rw (num_back (m + 1) num (decimal first ∷ decimal now ∷ []) h.0, last_two_back max32 (m + 1 + 1) first now (omega arith) h.1 h.2) refl
fail_back m (fails.Below port) h = rw (last_port_back (m + 1) port h) refl
fail_back m (fails.Cut at) h = rw (last_number_back max32 (m + 1) at (omega arith) h) refl

pub state_back : (m : ℕ) (x : StateNote) → IsState x → state_at m (state_fields x) ≡ Ok x
unfolding state_at state_of state_fields
state_back m states.Pending h = refl
state_back m states.Allocated h = refl
state_back m states.Closed h = refl
state_back m (states.Refused why) h = rw (why_back (m + 1) why h) refl
state_back m (states.Failed fail) h = rw (fail_back (m + 1) fail h) refl

pub cause_back : (m : ℕ) (x : CauseNote) → IsCause x → cause_at m (cause_fields x) ≡ Ok x
unfolding cause_at cause_of pdu_cause_of cause_word cause_values
cause_back m (causes.Expired left charge) h = rw (last_two_back max32 (m + 1) left charge (omega arith) h.0 h.1) refl
cause_back m (causes.NoRoute dst) h = rw (last_number_back max32 (m + 1) dst (omega arith) h) refl
cause_back m (causes.QueueFull cap) h = rw (last_number_back max32 (m + 1) cap (omega arith) h) refl
cause_back m (causes.NoConnection cep) h = rw (last_number_back max32 (m + 1) cep (omega arith) h) refl
cause_back m (causes.NoRoom cap) h = rw (last_number_back max32 (m + 1) cap (omega arith) h) refl
cause_back m (causes.LinkDown port) h = rw (last_port_back (m + 1) port h) refl
cause_back m (causes.Duplicate num) h = rw (last_num_back (m + 1) num h) refl
cause_back m (causes.Behind highest) h = rw (last_number_back max32 (m + 1) highest (omega arith) h) refl
cause_back m (causes.NoState drf) h = rw (last_truth_back (m + 1) drf) refl
cause_back m (causes.StateGone last_in) h = rw (last_number_back max32 (m + 1) last_in (omega arith) h) refl
cause_back m (causes.Broken missing) h = rw (last_number_back max32 (m + 1) missing (omega arith) h) refl

pub took_back : (m : ℕ) (x : TookNote) → IsTook x → took_at m (took_fields x) ≡ Ok x
unfolding took_at took_of took_fields
took_back m tooks.Accepted h = refl
took_back m tooks.Relayed h = refl
took_back m (tooks.Off cause) h = rw (cause_back (m + 1) cause h) refl

pub clock_back : (m : ℕ) (x : ClockNote) → IsClock x → clock_at m (clock_fields x) ≡ Ok x
unfolding clock_at clock_of clock_fields
clock_back m (clocks.LinkLost link) h = rw (last_number_back max32 (m + 1) link (omega arith) h) refl
clock_back m (clocks.LinkNew link) h = rw (last_number_back max32 (m + 1) link (omega arith) h) refl
clock_back m (clocks.Gone cep) h = rw (last_number_back max32 (m + 1) cep (omega arith) h) refl
clock_back m (clocks.GaveUp num) h = rw (last_num_back (m + 1) num h) refl
clock_back m (clocks.Timeout port) h = rw (last_port_back (m + 1) port h) refl
clock_back m (clocks.Ack cep) h = rw (last_number_back max32 (m + 1) cep (omega arith) h) refl
clock_back m (clocks.Again num) h = rw (last_num_back (m + 1) num h) refl
clock_back m (clocks.Message link) h = rw (last_number_back max32 (m + 1) link (omega arith) h) refl

pub state_or_none_back : (m : ℕ) (x : Option StateNote) → IsStateOrNone x → state_or_none_at m (state_or_none x) ≡ Ok x
unfolding state_or_none_at state_or_none_of state_or_none state_of state_fields
state_or_none_back m None h = refl
state_or_none_back m (Some states.Pending) h = refl
state_or_none_back m (Some states.Allocated) h = refl
state_or_none_back m (Some states.Closed) h = refl
state_or_none_back m (Some (states.Refused why)) h = rw (why_back (m + 1) why h) refl
state_or_none_back m (Some (states.Failed fail)) h = rw (fail_back (m + 1) fail h) refl

pub refusal_back : (m : ℕ) (x : Refusal) → IsRefusal x → refusal_at m (refusal_fields x) ≡ Ok x
unfolding refusal_at refusal_of bare_of counted_of numbered_of shaped_of refusal_word refusal_values
refusal_back m refusals.NoWire h = refl
refusal_back m refusals.NoPolicy h = refl
refusal_back m refusals.LabelUsed h = refl
refusal_back m refusals.ClockSpent h = refl
refusal_back m refusals.NoIpc h = refl
refusal_back m refusals.Already h = refl
refusal_back m refusals.NoMember h = refl
refusal_back m refusals.NotThere h = refl
refusal_back m refusals.NoCube h = refl
refusal_back m refusals.NoSuchApp h = refl
refusal_back m refusals.SameSystem h = refl
refusal_back m refusals.NoPort h = refl
refusal_back m refusals.NoLink h = refl
refusal_back m refusals.NoRank h = refl
refusal_back m refusals.NotYours h = refl
refusal_back m (refusals.Unknown field) h = rw (last_number_back max32 (m + 1) field (omega arith) h) refl
refusal_back m (refusals.NoIds used) h = rw (last_number_back max32 (m + 1) used (omega arith) h) refl
refusal_back m (refusals.NoRoute dst) h = rw (last_number_back max32 (m + 1) dst (omega arith) h) refl
refusal_back m (refusals.NumbersSpent until) h = rw (last_number_back max32 (m + 1) until (omega arith) h) refl
refusal_back m (refusals.EarlyHold now) h = rw (last_number_back max32 (m + 1) now (omega arith) h) refl
refusal_back m (refusals.LateHold last) h = rw (last_number_back max32 (m + 1) last (omega arith) h) refl
refusal_back m (refusals.Enrolling link) h = rw (last_number_back max32 (m + 1) link (omega arith) h) refl
refusal_back m (refusals.LinksFull max) h = rw (last_number_back max32 (m + 1) max (omega arith) h) refl
refusal_back m (refusals.BadOp op) h = rw (last_number_back max32 (m + 1) op (omega arith) h) refl
refusal_back m (refusals.Twice tag) h = rw (last_number_back max32 (m + 1) tag (omega arith) h) refl
refusal_back m (refusals.Missing tag) h = rw (last_number_back max32 (m + 1) tag (omega arith) h) refl
refusal_back m (refusals.BadValue tag) h = rw (last_number_back max32 (m + 1) tag (omega arith) h) refl
refusal_back m (refusals.CountSpent need left) h = rw (last_two_back max32 (m + 1) need left (omega arith) h.0 h.1) refl
refusal_back m (refusals.WindowShut need room) h = rw (last_two_back max32 (m + 1) need room (omega arith) h.0 h.1) refl
refusal_back m (refusals.QueueFull need room) h = rw (last_two_back max32 (m + 1) need room (omega arith) h.0 h.1) refl
refusal_back m (refusals.TooLong len max) h = rw (last_two_back max64 (m + 1) len max (omega arith) h.0 h.1) refl
refusal_back m (refusals.NoFrame frame) h = rw (last_number_back max64 (m + 1) frame (omega arith) h) refl
refusal_back m (refusals.Short at) h = rw (last_number_back max64 (m + 1) at (omega arith) h) refl
refusal_back m (refusals.BadTag at) h = rw (last_number_back max64 (m + 1) at (omega arith) h) refl
refusal_back m (refusals.Busy port) h = rw (last_port_back (m + 1) port h) refl
refusal_back m (refusals.NotAllocated state) h = rw (state_or_none_back (m + 1) state h) refl
refusal_back m (refusals.Failed fail) h = rw (fail_back (m + 1) fail h) refl

class_back : (class : Class) → class_of (class_text class) ≡ Some class
unfolding class_of
class_back classes.Folder = refl
class_back classes.Value = refl
class_back classes.Cube = refl
class_back classes.Flow = refl
class_back classes.Service = refl

role_back : (role : Role) → role_of (role_word role) ≡ Some role
unfolding role_of role_word
role_back roles.Asker = refl
role_back roles.Far = refl

ok_port_back : (state : StateNote) → IsState state → ok_at 1 (state_fields state) ≡ Ok (answers.Port state)
unfolding ok_state_of state_of state_fields
ok_port_back states.Pending h = refl
ok_port_back states.Allocated h = refl
ok_port_back states.Closed h = refl
ok_port_back (states.Refused why) h = rw (why_back 2 why h) refl
ok_port_back (states.Failed fail) h = rw (fail_back 2 fail h) refl

ok_member_back : (state : MemberNote) → IsMember state → ok_at 1 (member_fields state) ≡ Ok (answers.Member state)
unfolding ok_state_of member_fields
ok_member_back members.Outside h = refl
ok_member_back (members.Joining link) h = rw (last_number_back max32 2 link (omega arith) h) refl
ok_member_back members.Enrolled h = refl
ok_member_back (members.Denied rule) h = rw (last_number_back max32 2 rule (omega arith) h) refl

flow_note_back : (e : FlowNote) → IsFlow e → flow_note_at 1 (flow_text e.flow ∷ role_word e.role ∷ port_text e.port ∷ end_fields e) ≡ Ok e
unfolding flow_note_at end_fields
flow_note_back e h =
    let d = decimal e.taken ∷ state_fields e.state in
    let c = decimal e.cube ∷ d in
    rw (
      flow_back 1 e.flow (role_word e.role ∷ port_text e.port ∷ e.app ∷ e.peer ∷ c) h.0,
      role_back e.role,
      port_back 3 e.port (e.app ∷ e.peer ∷ c) h.1,
      app_back 4 e.app (e.peer ∷ c) h.2,
      app_back 5 e.peer c h.3,
      number_back max8 6 e.cube d (omega arith) h.4,
      number_back max64 7 e.taken (state_fields e.state) (omega arith) h.5,
      state_back 8 e.state h.6,
    ) refl

entry_back : (at : ℕ) (num : Num) (bytes : List ℕ) → (at ≤ max32) × IsNum num × IsBytes bytes → entry_at 1 (decimal at ∷ num_text num ∷ spelling bytes ∷ []) ≡ Ok (at, num, bytes)
unfolding entry_at
entry_back at num bytes h = rw (number_back max32 1 at (num_text num ∷ spelling bytes ∷ []) (omega arith) h.0, num_back 2 num (spelling bytes ∷ []) h.1, last_bytes_back 3 bytes h.2) refl

abbrev pub answer_by : List (List ℕ) → Result Answer LineError
answer_by [] = Err errors.UnknownWord
answer_by (word ∷ fs) = answer_at word fs

pub answer_back : (x : Answer) → IsAnswer x → answer_by (answer_fields x) ≡ Ok x
unfolding answer_at step_word_at journal_word_at got_at in_at out_off_of out_at off_at object_note_at label_at answer_fields flow_fields
answer_back answers.Done h = refl
answer_back (answers.Port state) h = ok_port_back state h
answer_back (answers.Member state) h = ok_member_back state h
answer_back answers.Nothing h = refl
answer_back (answers.Sent num) h = rw (last_num_back 1 num h) refl
answer_back (answers.Got at bytes) h = rw (number_back max32 1 at (spelling bytes ∷ []) (omega arith) h.0, last_bytes_back 2 bytes h.1) refl
answer_back (answers.In key end) h = rw (key_back 1 key (took_fields end) h.0, took_back 3 end h.1) refl
answer_back (answers.Out key) h = rw (key_back 1 key [] h) refl
answer_back (answers.OutOff key cause) h = rw (key_back 1 key (codes "off" ∷ cause_fields cause) h.0, cause_back 4 cause h.1) refl
answer_back (answers.Held why) h = rw (refusal_back 1 why h) refl
answer_back (answers.Clock step) h = rw (clock_back 1 step h) refl
answer_back answers.Idle h = refl
answer_back (answers.Cdap bytes) h = rw (last_bytes_back 1 bytes h) refl
answer_back (answers.Object name class value) h = rw (object_back 1 name (class_text class ∷ spelling value ∷ []) h.0, class_back class, last_bytes_back 3 value h.1) refl
answer_back (answers.Off key cause) h = rw (key_back 1 key (cause_fields cause) h.0, cause_back 3 cause h.1) refl
answer_back (answers.Flow end) h = rw (flow_note_back end h) refl
answer_back (answers.SentEntry at num bytes) h = rw (entry_back at num bytes h) refl
answer_back (answers.GotEntry at num bytes) h = rw (entry_back at num bytes h) refl
answer_back (answers.Refused why) h = rw (refusal_back 1 why h) refl
answer_back (answers.Label label state) h = rw (name_back 1 label (state_fields state) h.0, state_back 2 state h.1) refl

fault_back : (m : ℕ) (x : Fault) → IsFault x → fault_at m (fault_word x ∷ fault_values x) ≡ Ok x
unfolding fault_at fault_of schedule_at fault_word fault_values
fault_back m (faults.Usage word) h = rw (last_number_back max32 (m + 1) word (omega arith) h) refl
fault_back m faults.TooLarge h = refl
fault_back m faults.NotToml h = refl
fault_back m (faults.StackRule n item) h = rw (last_two_back max32 (m + 1) n item (omega arith) h.0 h.1) refl
fault_back m (faults.Schedule line n field) h = rw (number_back max32 (m + 1) line (decimal n ∷ decimal field ∷ []) (omega arith) h.0, last_two_back max32 (m + 1 + 1) n field (omega arith) h.1 h.2) refl
fault_back m faults.ReadFault h = refl

named_back : (word : List ℕ) (n x : ℕ) (fs : List (List ℕ)) → bytes_eq word word ≡ true → x ≤ max32 → named_at word n (word ∷ decimal x ∷ fs) ≡ Ok (x, fs)
unfolding named_at word_at
named_back word n x fs same h = rw (same, number_back max32 (n + 1) x fs (omega arith) h) refl

counter_back : (x : ℕ) (fs : List (List ℕ)) → x ≤ max32 → counter_at (decimal x ∷ fs) ≡ Ok (x, fs)
unfolding counter_at
counter_back x fs h = rw (numeral_back max32 x (omega arith) h) refl

-- the fields of a note
abbrev pub note_fields : Note → List (List ℕ)
note_fields (notes.Line line tick answer) = decimal line ∷ decimal tick ∷ answer_fields answer
note_fields (notes.End tick) = codes "end" ∷ decimal tick ∷ []
note_fields (notes.Fault fault) = codes "fault" ∷ fault_word fault ∷ fault_values fault
note_fields (notes.Checked nodes wires difs lines) = codes "checked" ∷ decimal nodes ∷ decimal wires ∷ decimal difs ∷ decimal lines ∷ []
note_fields (notes.Gen n lines tick sent got refused off failed) =
    codes "gen" ∷ decimal n ∷ codes "lines" ∷ decimal lines ∷ codes "tick" ∷ decimal tick ∷ told_fields sent got refused off failed

no_word : (ds : List ℕ) (c : ℕ) (cs : List ℕ) → list_all is_digit ds ≡ true → is_digit c ≡ false → bytes_eq ds (c ∷ cs) ≡ false
no_word [] c cs digits other = refl
no_word (d ∷ ds) c cs digits other = by_same (eqb d c) refl
  where
    by_same : (b : Bool) → eqb d c ≡ b → (b && bytes_eq ds cs) ≡ false
    by_same true e = absurd (false≢true (sym other ∙ ap is_digit (sym (eqb-true d c e)) ∙ (and_parts (is_digit d) (list_all is_digit ds) digits).0))
    by_same false e = refl

told_back : (line tick : ℕ) (fs : List (List ℕ)) (answer : Answer) → answer_by fs ≡ Ok answer → told_at line tick fs ≡ Ok (notes.Line line tick answer)
told_back line tick [] answer e = absurd cc
told_back line tick (word ∷ fs) answer e = rw e refl

pub note_back : (x : Note) → IsNote x → fields_note (note_fields x) ≡ Ok x
unfolding whole_at line_note_at checked_at gen_at told_fields is_digit
note_back (notes.Line line tick answer) h =
    let digits = (decimal_digits line (omega (arith, h.0))).0 in
    rw (
      no_word (decimal line) 101 (codes "nd") digits refl,
      no_word (decimal line) 102 (codes "ault") digits refl,
      no_word (decimal line) 99 (codes "hecked") digits refl,
      no_word (decimal line) 103 (codes "en") digits refl,
      counter_back line (decimal tick ∷ answer_fields answer) h.0,
      counter_back tick (answer_fields answer) h.1,
    ) (told_back line tick (answer_fields answer) answer (answer_back answer h.2))
note_back (notes.End tick) h = rw (last_number_back max32 1 tick (omega arith) h) refl
note_back (notes.Fault fault) h = rw (fault_back 1 fault h) refl
note_back (notes.Checked nodes wires difs lines) h =
    rw (number_back max32 1 nodes (decimal wires ∷ decimal difs ∷ decimal lines ∷ []) (omega arith) h.0, number_back max32 2 wires (decimal difs ∷ decimal lines ∷ []) (omega arith) h.1, last_two_back max32 3 difs lines (omega arith) h.2 h.3) refl
note_back (notes.Gen n lines tick sent got refused off failed) h =
    let f7 = codes "failed" ∷ decimal failed ∷ [] in
    let f6 = codes "off" ∷ decimal off ∷ f7 in
    let f5 = codes "refused" ∷ decimal refused ∷ f6 in
    let f4 = codes "got" ∷ decimal got ∷ f5 in
    let f3 = codes "sent" ∷ decimal sent ∷ f4 in
    let f2 = codes "tick" ∷ decimal tick ∷ f3 in
    rw (
      number_back max32 1 n (codes "lines" ∷ decimal lines ∷ f2) (omega arith) h.0,
      named_back (codes "lines") 2 lines f2 refl h.1,
      named_back (codes "tick") 4 tick f3 refl h.2,
      named_back (codes "sent") 6 sent f4 refl h.3,
      named_back (codes "got") 8 got f5 refl h.4,
      named_back (codes "refused") 10 refused f6 refl h.5,
      named_back (codes "off") 12 off f7 refl h.6,
      named_back (codes "failed") 14 failed [] refl h.7,
    ) refl
