-- Notes that are read are spelled so, and in their ranges.
use Rattle.std.proofs.Common.{◌≡◌, ℕ, ◌+◌, ◌≤◌, Bool, true, false, List, [], ◌∷◌, codes, Result, Ok, refl, ap, ◌∙◌, arith}
use Rattle.std.specs.Fmt.{decimal}
use Rattle.std.specs.Str.{bytes_eq}
use Rattle.std.specs.Prelude.{IfOk}
use Rattle.rina_base.specs.Traverse.{◌>>=◌}
use Rattle.rina_base.specs.declared.number.Key.{Key}
use Rattle.rina_base.specs.declared.number.Num.{Num}
use Rattle.rina_schedule.specs.declared.error.LineError.{LineError}
use Rattle.rina_schedule.specs.declared.error.LineError.TheVariants as errors
use Rattle.rina_schedule.specs.Gives.{guard}
use Rattle.rina_schedule.specs.Spelling.{spelling}
use Rattle.rina_base.specs.ObjectNames.{is_object_name}
use Rattle.rina_base.specs.Classes.{class_of, class_text}
use Rattle.rina_schedule.specs.Ranges.{IsName, IsApp, IsBytes}
use Rattle.rina_report.specs.declared.answer.FlowNote.{FlowNote}
use Rattle.rina_report.specs.declared.answer.Answer.{Answer}
use Rattle.rina_report.specs.declared.note.Fault.{Fault}
use Rattle.rina_report.specs.declared.note.Note.{Note}
use Rattle.rina_report.specs.Values.{num_text, flow_text, port_text, kind_word, key_text}
use Rattle.rina_report.specs.States.{member_fields}
use Rattle.rina_report.specs.Answers.{role_word, end_fields, flow_fields, answer_fields}
use Rattle.rina_report.specs.Notes.{fault_word, fault_values, told_fields}
use Rattle.rina_report.specs.Fields.{max8, max32, max64, numeral_of, field_at, number_at, num_at, flow_at, key_at, port_at, name_field_at, app_field_at, object_at, word_at, last_number_at, last_two_at, last_num_at, last_bytes_at}
use Rattle.rina_report.specs.ReadStates.{state_of, state_at}
use Rattle.rina_report.specs.ReadCauses.{cause_at, took_at, clock_at}
use Rattle.rina_report.specs.ReadRefusals.{refusal_at}
use Rattle.rina_report.specs.ReadAnswers.{role_of, ok_state_of, ok_at, got_at, in_at, out_off_of, out_end_at, out_at, off_at, object_note_at, flow_note_at, entry_at, label_at, journal_word_at, step_word_at, answer_at}
use Rattle.rina_report.specs.ReadNotes.{schedule_at, fault_of, fault_at, checked_at, named_at, gen_at, counter_at, told_at, line_note_at, whole_at, fields_note}
use Rattle.rina_report.specs.Ranges.{IsNum, IsFlowName, IsKey, IsPort, IsFlow, IsAnswer, IsFault, IsNote}
use Rattle.rina_report.proofs.Numerals.{numeral_is}
use Rattle.rina_report.proofs.Readers.{then, at_ok, word_is, itself, Reads, ReadsKey, ReadsLast, ReadsTwo, end_then, found_then, number_is, num_is, flow_is, key_is, port_is, name_is, app_is, object_is, last_number_is, last_two_is, last_num_is, last_bytes_is}
use Rattle.rina_report.proofs.Printed.{note_fields}
use Rattle.rina_report.proofs.Branches.{Holds, word_then, failed, step, weaken, cons, HoldsSome, word_some, none, some_at}
use Rattle.rina_report.proofs.Spelled.{SpellsState, SpellsCause, SpellsTook, SpellsClock, SpellsRefusal, state_of_is, state_is, cause_is, took_is, clock_is, refusal_is}

class_is : (word : List ℕ) → HoldsSome (λ x. word ≡ class_text x) (class_of word)
unfolding class_of
class_is word =
    word_some word (codes "folder") _ _ (λ e. e) (
    word_some word (codes "value") _ _ (λ e. e) (
    word_some word (codes "cube") _ _ (λ e. e) (
    word_some word (codes "flow") _ _ (λ e. e) (
    word_some word (codes "service") _ _ (λ e. e) (
    none)))))

role_is : (word : List ℕ) → HoldsSome (λ x. word ≡ role_word x) (role_of word)
unfolding role_of role_word
role_is word =
    word_some word (codes "asker") _ _ (λ e. e) (
    word_some word (codes "far") _ _ (λ e. e) (
    none))

-- ---- what a line answers or brings about

number_read : (n : ℕ) (fs : List (List ℕ)) (x : ℕ × List (List ℕ)) → number_at max32 n fs ≡ Ok x → Reads decimal (λ x. x ≤ max32) fs x
number_read n fs x e = at_ok (number_at max32 n fs) (Reads decimal (λ x. x ≤ max32) fs) (number_is max32 n fs (omega arith)) x e

key_read : (n : ℕ) (fs : List (List ℕ)) (x : Key × List (List ℕ)) → key_at n fs ≡ Ok x → ReadsKey fs x
key_read n fs x e = at_ok (key_at n fs) (ReadsKey fs) (key_is n fs) x e

num_read : (n : ℕ) (fs : List (List ℕ)) (x : Num × List (List ℕ)) → num_at n fs ≡ Ok x → Reads num_text IsNum fs x
num_read n fs x e = at_ok (num_at n fs) (Reads num_text IsNum fs) (num_is n fs) x e

app_read : (n : ℕ) (fs : List (List ℕ)) (x : List ℕ × List (List ℕ)) → app_field_at n fs ≡ Ok x → Reads itself IsApp fs x
app_read n fs x e = at_ok (app_field_at n fs) (Reads itself IsApp fs) (app_is n fs) x e

field_read : (n : ℕ) (fs : List (List ℕ)) (x : List ℕ × List (List ℕ)) → field_at n fs ≡ Ok x → fs ≡ x.0 ∷ x.1
field_read n [] x e = absurd cc
field_read n (f ∷ fs) x e = same (f, fs) x e
  where
    same : (a b : List ℕ × List (List ℕ)) → ◌≡◌ {A = Result (List ℕ × List (List ℕ)) LineError} (Ok a) (Ok b) → a.0 ∷ a.1 ≡ b.0 ∷ b.1
    same a b e = ap rejoin (ok_is a b e)
      where
        rejoin : List ℕ × List (List ℕ) → List (List ℕ)
        rejoin p = p.0 ∷ p.1

        ok_is : (a b : List ℕ × List (List ℕ)) → ◌≡◌ {A = Result (List ℕ × List (List ℕ)) LineError} (Ok a) (Ok b) → a ≡ b
        ok_is a b e = cc

abbrev SpellsAnswer : List (List ℕ) → Answer → Type 0
SpellsAnswer fs x = (fs ≡ answer_fields x) × IsAnswer x

abbrev SpellsBehind : List ℕ → List (List ℕ) → Answer → Type 0
SpellsBehind word fs x = (word ∷ fs ≡ answer_fields x) × IsAnswer x

ok_state_is : (word : List ℕ) (n : ℕ) (fs : List (List ℕ)) → Holds (SpellsBehind (codes "ok") (word ∷ fs)) (ok_state_of word n fs)
unfolding ok_state_of answer_fields member_fields
ok_state_is word n fs =
    let P = SpellsBehind (codes "ok") (word ∷ fs) in
    word_then word (codes "outside") _ _ (λ e. end_then (n + 1) fs _ P (λ d. (cons refl (cons e d), tt))) (
    word_then word (codes "joining") _ _ (λ e. step P (last_number_at max32 (n + 1) fs) _ (ReadsLast decimal (λ x. x ≤ max32) fs) (last_number_is max32 (n + 1) fs (omega arith)) (λ x h. (cons refl (cons e h.0), h.1))) (
    word_then word (codes "enrolled") _ _ (λ e. end_then (n + 1) fs _ P (λ d. (cons refl (cons e d), tt))) (
    word_then word (codes "denied") _ _ (λ e. step P (last_number_at max32 (n + 1) fs) _ (ReadsLast decimal (λ x. x ≤ max32) fs) (last_number_is max32 (n + 1) fs (omega arith)) (λ x h. (cons refl (cons e h.0), h.1))) (
    record { is = step P (state_of word n fs) _ (SpellsState (word ∷ fs)) (state_of_is word n fs).is (λ x h. (cons refl h.0, h.1)) }))))

ok_is : (fs : List (List ℕ)) → IfOk (ok_at 1 fs) (SpellsBehind (codes "ok") fs)
unfolding answer_fields
ok_is [] = (refl, tt)
ok_is (f ∷ fs) = (ok_state_is f 1 fs).is

got_is : (n : ℕ) (fs : List (List ℕ)) → IfOk (got_at n fs) (SpellsBehind (codes "got") fs)
unfolding got_at answer_fields
got_is n fs =
    let P = SpellsBehind (codes "got") fs in
    then P (number_at max32 n fs) _ (λ at e.
    step P (last_bytes_at (n + 1) at.1) _ (ReadsLast spelling IsBytes at.1) (last_bytes_is (n + 1) at.1) (λ bytes h.
    (let a = number_read n fs at e in (cons refl (a.0 ∙ cons refl h.0), (a.1, h.1)))))

in_is : (n : ℕ) (fs : List (List ℕ)) → IfOk (in_at n fs) (SpellsBehind (codes "in") fs)
unfolding in_at answer_fields
in_is n fs =
    let P = SpellsBehind (codes "in") fs in
    then P (key_at n fs) _ (λ key e.
    step P (took_at (n + 2) key.1) _ (SpellsTook key.1) (took_is (n + 2) key.1) (λ end h.
    (let a = key_read n fs key e in (cons refl (a.0 ∙ cons refl (cons refl h.0)), (a.1, h.1)))))

off_is : (n : ℕ) (fs : List (List ℕ)) → IfOk (off_at n fs) (SpellsBehind (codes "off") fs)
unfolding off_at answer_fields
off_is n fs =
    let P = SpellsBehind (codes "off") fs in
    then P (key_at n fs) _ (λ key e.
    step P (cause_at (n + 2) key.1) _ (SpellsCause key.1) (cause_is (n + 2) key.1) (λ cause h.
    (let a = key_read n fs key e in (cons refl (a.0 ∙ cons refl (cons refl h.0)), (a.1, h.1)))))

abbrev SpellsOut : Key → List (List ℕ) → Answer → Type 0
SpellsOut key fs x = (codes "out" ∷ kind_word key.kind ∷ key_text key ∷ fs ≡ answer_fields x) × (IsKey key → IsAnswer x)

out_off_is : (key : Key) (word : List ℕ) (n : ℕ) (fs : List (List ℕ)) → Holds (SpellsOut key (word ∷ fs)) (out_off_of key word n fs)
unfolding out_off_of answer_fields
out_off_is key word n fs =
    word_then word (codes "off") _ _ (λ e. step (SpellsOut key (word ∷ fs)) (cause_at (n + 1) fs) _ (SpellsCause fs) (cause_is (n + 1) fs) (λ x h. (cons refl (cons refl (cons refl (cons e h.0))), λ k. (k, h.1)))) failed

out_end_is : (key : Key) (n : ℕ) (fs : List (List ℕ)) → IfOk (out_end_at key n fs) (SpellsOut key fs)
unfolding answer_fields
out_end_is key n [] = (refl, λ k. k)
out_end_is key n (f ∷ fs) = (out_off_is key f n fs).is

out_is : (n : ℕ) (fs : List (List ℕ)) → IfOk (out_at n fs) (SpellsBehind (codes "out") fs)
unfolding out_at
out_is n fs =
    let P = SpellsBehind (codes "out") fs in
    then P (key_at n fs) _ (λ key e.
    weaken (out_end_at key.0 (n + 2) key.1) (SpellsOut key.0 key.1) P (out_end_is key.0 (n + 2) key.1) (λ x h.
    (let a = key_read n fs key e in (cons refl a.0 ∙ h.0, h.1 a.1))))

object_note_is : (n : ℕ) (fs : List (List ℕ)) → IfOk (object_note_at n fs) (SpellsBehind (codes "obj") fs)
unfolding object_note_at answer_fields
object_note_is n fs =
    let P = SpellsBehind (codes "obj") fs in
    then P (object_at n fs) _ (λ name e.
    then P (field_at (n + 1) name.1) _ (λ word d.
    found_then (class_of word.0) (errors.BadName (n + 1)) _ P (λ class g.
    step P (last_bytes_at (n + 2) word.1) _ (ReadsLast spelling IsBytes word.1) (last_bytes_is (n + 2) word.1) (λ bytes h.
    let a = at_ok (object_at n fs) (Reads itself (λ x. is_object_name x ≡ true) fs) (object_is n fs) name e in
    let b = field_read (n + 1) name.1 word d in
    let c = some_at (class_of word.0) (λ x. word.0 ≡ class_text x) (class_is word.0) class g in
    (cons refl (a.0 ∙ cons refl (b ∙ cons c h.0)), (a.1, h.1))))))

flow_note_is : (n : ℕ) (fs : List (List ℕ)) → IfOk (flow_note_at n fs) (λ x. (codes "flow" ∷ fs ≡ flow_fields x) × IsFlow x)
unfolding flow_note_at flow_fields end_fields
flow_note_is n fs =
    let P : FlowNote → Type 0 = λ x. (codes "flow" ∷ fs ≡ flow_fields x) × IsFlow x in
    then P (flow_at n fs) _ (λ flow e0.
    then P (field_at (n + 1) flow.1) _ (λ word e1.
    found_then (role_of word.0) (errors.BadName (n + 1)) _ P (λ role e2.
    then P (port_at (n + 2) word.1) _ (λ port e3.
    then P (app_field_at (n + 3) port.1) _ (λ app e4.
    then P (app_field_at (n + 4) app.1) _ (λ peer e5.
    then P (number_at max8 (n + 5) peer.1) _ (λ cube e6.
    then P (number_at max64 (n + 6) cube.1) _ (λ taken e7.
    step P (state_at (n + 7) taken.1) _ (SpellsState taken.1) (state_is (n + 7) taken.1) (λ state h.
    let a0 = at_ok (flow_at n fs) (Reads flow_text IsFlowName fs) (flow_is n fs) flow e0 in
    let a1 = field_read (n + 1) flow.1 word e1 in
    let a2 = some_at (role_of word.0) (λ x. word.0 ≡ role_word x) (role_is word.0) role e2 in
    let a3 = at_ok (port_at (n + 2) word.1) (Reads port_text IsPort word.1) (port_is (n + 2) word.1) port e3 in
    let a4 = app_read (n + 3) port.1 app e4 in
    let a5 = app_read (n + 4) app.1 peer e5 in
    let a6 = at_ok (number_at max8 (n + 5) peer.1) (Reads decimal (λ x. x ≤ max8) peer.1) (number_is max8 (n + 5) peer.1 (omega arith)) cube e6 in
    let a7 = at_ok (number_at max64 (n + 6) cube.1) (Reads decimal (λ x. x ≤ max64) cube.1) (number_is max64 (n + 6) cube.1 (omega arith)) taken e7 in (
      cons refl (a0.0 ∙ cons refl (a1 ∙ cons a2 (a3.0 ∙ cons refl (a4.0 ∙ cons refl (a5.0 ∙ cons refl (a6.0 ∙ cons refl (a7.0 ∙ cons refl h.0))))))),
      (a0.1, a3.1, a4.1, a5.1, a6.1, a7.1, h.1),
    ))))))))))

abbrev SpellsEntry : List (List ℕ) → ℕ × Num × List ℕ → Type 0
SpellsEntry fs x = (fs ≡ decimal x.0 ∷ num_text x.1 ∷ spelling x.2 ∷ []) × (x.0 ≤ max32) × IsNum x.1 × IsBytes x.2

entry_is : (n : ℕ) (fs : List (List ℕ)) → IfOk (entry_at n fs) (SpellsEntry fs)
unfolding entry_at
entry_is n fs =
    let P = SpellsEntry fs in
    then P (number_at max32 n fs) _ (λ at e.
    then P (num_at (n + 1) at.1) _ (λ num d.
    step P (last_bytes_at (n + 2) num.1) _ (ReadsLast spelling IsBytes num.1) (last_bytes_is (n + 2) num.1) (λ bytes h.
    let a = number_read n fs at e in
    let b = num_read (n + 1) at.1 num d in
    (a.0 ∙ cons refl (b.0 ∙ cons refl h.0), a.1, b.1, h.1))))

label_is : (n : ℕ) (fs : List (List ℕ)) → IfOk (label_at n fs) (SpellsBehind (codes "state") fs)
unfolding label_at answer_fields
label_is n fs =
    let P = SpellsBehind (codes "state") fs in
    then P (name_field_at n fs) _ (λ label e.
    step P (state_at (n + 1) label.1) _ (SpellsState label.1) (state_is (n + 1) label.1) (λ state h.
    let a = at_ok (name_field_at n fs) (Reads itself IsName fs) (name_is n fs) label e in
    (cons refl (a.0 ∙ cons refl h.0), (a.1, h.1))))

-- a reader of what stands behind a word
behind : (word other : List ℕ) (fs : List (List ℕ)) (r : Result Answer LineError) → IfOk r (SpellsBehind other fs) → word ≡ other → IfOk r (SpellsAnswer (word ∷ fs))
behind word other fs r h e = weaken r (SpellsBehind other fs) (SpellsAnswer (word ∷ fs)) h (λ x g. (cons e refl ∙ g.0, g.1))

journal_word_is : (word : List ℕ) (fs : List (List ℕ)) → Holds (SpellsAnswer (word ∷ fs)) (journal_word_at word fs)
unfolding journal_word_at answer_fields
journal_word_is word fs =
    let P = SpellsAnswer (word ∷ fs) in
    word_then word (codes "cdap") _ _ (λ e. step P (last_bytes_at 1 fs) _ (ReadsLast spelling IsBytes fs) (last_bytes_is 1 fs) (λ x h. (cons e h.0, h.1))) (
    word_then word (codes "obj") _ _ (λ e. behind word (codes "obj") fs (object_note_at 1 fs) (object_note_is 1 fs) e) (
    word_then word (codes "flow") _ _ (λ e. step P (flow_note_at 1 fs) _ (λ x. (codes "flow" ∷ fs ≡ flow_fields x) × IsFlow x) (flow_note_is 1 fs) (λ x h. (cons e refl ∙ h.0, h.1))) (
    word_then word (codes "s") _ _ (λ e. step P (entry_at 1 fs) _ (SpellsEntry fs) (entry_is 1 fs) (λ x h. (cons e h.0, (h.1, h.2, h.3)))) (
    word_then word (codes "g") _ _ (λ e. step P (entry_at 1 fs) _ (SpellsEntry fs) (entry_is 1 fs) (λ x h. (cons e h.0, (h.1, h.2, h.3)))) failed))))

step_word_is : (word : List ℕ) (fs : List (List ℕ)) → Holds (SpellsAnswer (word ∷ fs)) (step_word_at word fs)
unfolding step_word_at answer_fields
step_word_is word fs =
    let P = SpellsAnswer (word ∷ fs) in
    word_then word (codes "in") _ _ (λ e. behind word (codes "in") fs (in_at 1 fs) (in_is 1 fs) e) (
    word_then word (codes "out") _ _ (λ e. behind word (codes "out") fs (out_at 1 fs) (out_is 1 fs) e) (
    word_then word (codes "held") _ _ (λ e. step P (refusal_at 1 fs) _ (SpellsRefusal fs) (refusal_is 1 fs) (λ x h. (cons e h.0, h.1))) (
    word_then word (codes "clock") _ _ (λ e. step P (clock_at 1 fs) _ (SpellsClock fs) (clock_is 1 fs) (λ x h. (cons e h.0, h.1))) (
    word_then word (codes "idle") _ _ (λ e. end_then 1 fs _ P (λ d. (cons e d, tt))) (
    word_then word (codes "off") _ _ (λ e. behind word (codes "off") fs (off_at 1 fs) (off_is 1 fs) e) (journal_word_is word fs))))))

answer_is : (word : List ℕ) (fs : List (List ℕ)) → Holds (SpellsAnswer (word ∷ fs)) (answer_at word fs)
unfolding answer_at answer_fields
answer_is word fs =
    let P = SpellsAnswer (word ∷ fs) in
    word_then word (codes "ok") _ _ (λ e. behind word (codes "ok") fs (ok_at 1 fs) (ok_is fs) e) (
    word_then word (codes "none") _ _ (λ e. end_then 1 fs _ P (λ d. (cons e d, tt))) (
    word_then word (codes "sent") _ _ (λ e. step P (last_num_at 1 fs) _ (ReadsLast num_text IsNum fs) (last_num_is 1 fs) (λ x h. (cons e h.0, h.1))) (
    word_then word (codes "got") _ _ (λ e. behind word (codes "got") fs (got_at 1 fs) (got_is 1 fs) e) (
    word_then word (codes "no") _ _ (λ e. step P (refusal_at 1 fs) _ (SpellsRefusal fs) (refusal_is 1 fs) (λ x h. (cons e h.0, h.1))) (
    word_then word (codes "state") _ _ (λ e. behind word (codes "state") fs (label_at 1 fs) (label_is 1 fs) e) (step_word_is word fs))))))

-- ---- whole notes

abbrev SpellsFault : List (List ℕ) → Fault → Type 0
SpellsFault fs x = (fs ≡ fault_word x ∷ fault_values x) × IsFault x

abbrev SpellsSchedule : List (List ℕ) → Fault → Type 0
SpellsSchedule fs x = (codes "Schedule" ∷ fs ≡ fault_word x ∷ fault_values x) × IsFault x

schedule_is : (n : ℕ) (fs : List (List ℕ)) → IfOk (schedule_at n fs) (SpellsSchedule fs)
unfolding schedule_at fault_word fault_values
schedule_is n fs =
    then (SpellsSchedule fs) (number_at max32 n fs) _ (λ line e.
    let a = at_ok (number_at max32 n fs) (Reads decimal (λ x. x ≤ max32) fs) (number_is max32 n fs (omega arith)) line e in
    step (SpellsSchedule fs) (last_two_at max32 (n + 1) line.1) _ (ReadsTwo max32 line.1) (last_two_is max32 (n + 1) line.1 (omega arith)) (λ x h. (cons refl (a.0 ∙ cons refl h.0), (a.1, h.1, h.2))))

schedule_fits : (word : List ℕ) (fs : List (List ℕ)) (x : Fault) → word ≡ codes "Schedule" → SpellsSchedule fs x → SpellsFault (word ∷ fs) x
schedule_fits word fs x e h = (cons e refl ∙ h.0, h.1)

fault_of_is : (word : List ℕ) (n : ℕ) (fs : List (List ℕ)) → Holds (SpellsFault (word ∷ fs)) (fault_of word n fs)
unfolding fault_of fault_word fault_values
fault_of_is word n fs =
    word_then word (codes "Usage") _ _ (λ e. step (SpellsFault (word ∷ fs)) (last_number_at max32 (n + 1) fs) _ (ReadsLast decimal (λ x. x ≤ max32) fs) (last_number_is max32 (n + 1) fs (omega arith)) (λ x h. (cons e h.0, h.1))) (
    word_then word (codes "TooLarge") _ _ (λ e. end_then (n + 1) fs _ (SpellsFault (word ∷ fs)) (λ d. (cons e d, tt))) (
    word_then word (codes "NotToml") _ _ (λ e. end_then (n + 1) fs _ (SpellsFault (word ∷ fs)) (λ d. (cons e d, tt))) (
    word_then word (codes "StackRule") _ _ (λ e. step (SpellsFault (word ∷ fs)) (last_two_at max32 (n + 1) fs) _ (ReadsTwo max32 fs) (last_two_is max32 (n + 1) fs (omega arith)) (λ x h. (cons e h.0, (h.1, h.2)))) (
    word_then word (codes "Schedule") _ _ (λ e. weaken (schedule_at (n + 1) fs) (SpellsSchedule fs) (SpellsFault (word ∷ fs)) (schedule_is (n + 1) fs) (λ fault h. schedule_fits word fs fault e h)) (
    word_then word (codes "ReadFault") _ _ (λ e. end_then (n + 1) fs _ (SpellsFault (word ∷ fs)) (λ d. (cons e d, tt))) (
    failed))))))

fault_is : (n : ℕ) (fs : List (List ℕ)) → IfOk (fault_at n fs) (SpellsFault fs)
unfolding fault_at
fault_is n [] = tt
fault_is n (f ∷ fs) = (fault_of_is f n fs).is

abbrev SpellsNote : List (List ℕ) → Note → Type 0
SpellsNote fs x = (fs ≡ note_fields x) × IsNote x

checked_is : (n : ℕ) (fs : List (List ℕ)) → IfOk (checked_at n fs) (SpellsNote (codes "checked" ∷ fs))
unfolding checked_at
checked_is n fs =
    let P = SpellsNote (codes "checked" ∷ fs) in
    then P (number_at max32 n fs) _ (λ nodes e.
    then P (number_at max32 (n + 1) nodes.1) _ (λ wires d.
    step P (last_two_at max32 (n + 2) wires.1) _ (ReadsTwo max32 wires.1) (last_two_is max32 (n + 2) wires.1 (omega arith)) (λ x h.
    let a = number_read n fs nodes e in
    let b = number_read (n + 1) nodes.1 wires d in
    (cons refl (a.0 ∙ cons refl (b.0 ∙ cons refl h.0)), (a.1, b.1, h.1, h.2)))))

abbrev SpellsNamed : List ℕ → List (List ℕ) → ℕ × List (List ℕ) → Type 0
SpellsNamed word fs x = (fs ≡ word ∷ decimal x.0 ∷ x.1) × (x.0 ≤ max32)

abbrev with_unit : List (List ℕ) → Result (Unit {0} × List (List ℕ)) LineError
with_unit fs = Ok (tt, fs)

named_is : (word : List ℕ) (n : ℕ) (fs : List (List ℕ)) → IfOk (named_at word n fs) (SpellsNamed word fs)
unfolding named_at word_at
named_is word n [] = tt
named_is word n (f ∷ fs) = by_word (bytes_eq f word) refl
  where
    by_word : (c : Bool) → bytes_eq f word ≡ c → IfOk ((guard c (errors.BadName n) >>= λ _. with_unit fs) >>= λ f. number_at max32 (n + 1) f.1) (SpellsNamed word (f ∷ fs))
    by_word true e = weaken (number_at max32 (n + 1) fs) (Reads decimal (λ x. x ≤ max32) fs) (SpellsNamed word (f ∷ fs)) (number_is max32 (n + 1) fs (omega arith)) (λ x h. (cons (word_is f word e) h.0, h.1))
    by_word false e = tt

named_read : (word : List ℕ) (n : ℕ) (fs : List (List ℕ)) (x : ℕ × List (List ℕ)) → named_at word n fs ≡ Ok x → SpellsNamed word fs x
named_read word n fs x e = at_ok (named_at word n fs) (SpellsNamed word fs) (named_is word n fs) x e

gen_is : (n : ℕ) (fs : List (List ℕ)) → IfOk (gen_at n fs) (SpellsNote (codes "gen" ∷ fs))
unfolding gen_at told_fields
gen_is n fs =
    let P = SpellsNote (codes "gen" ∷ fs) in
    then P (number_at max32 n fs) _ (λ x e0.
    then P (named_at (codes "lines") (n + 1) x.1) _ (λ lines e1.
    then P (named_at (codes "tick") (n + 3) lines.1) _ (λ tick e2.
    then P (named_at (codes "sent") (n + 5) tick.1) _ (λ sent e3.
    then P (named_at (codes "got") (n + 7) sent.1) _ (λ got e4.
    then P (named_at (codes "refused") (n + 9) got.1) _ (λ refused e5.
    then P (named_at (codes "off") (n + 11) refused.1) _ (λ off e6.
    then P (named_at (codes "failed") (n + 13) off.1) _ (λ failed e7.
    end_then (n + 15) failed.1 _ P (λ d.
    let a0 = number_read n fs x e0 in
    let a1 = named_read (codes "lines") (n + 1) x.1 lines e1 in
    let a2 = named_read (codes "tick") (n + 3) lines.1 tick e2 in
    let a3 = named_read (codes "sent") (n + 5) tick.1 sent e3 in
    let a4 = named_read (codes "got") (n + 7) sent.1 got e4 in
    let a5 = named_read (codes "refused") (n + 9) got.1 refused e5 in
    let a6 = named_read (codes "off") (n + 11) refused.1 off e6 in
    let a7 = named_read (codes "failed") (n + 13) off.1 failed e7 in (
      cons refl (a0.0 ∙ cons refl (a1.0 ∙ cons refl (cons refl (a2.0 ∙ cons refl (cons refl (a3.0 ∙ cons refl (cons refl (a4.0 ∙ cons refl (cons refl (a5.0 ∙ cons refl (cons refl (a6.0 ∙ cons refl (cons refl (a7.0 ∙ cons refl (cons refl d))))))))))))))),
      (a0.1, a1.1, a2.1, a3.1, a4.1, a5.1, a6.1, a7.1),
    ))))))))))

counter_is : (fs : List (List ℕ)) → IfOk (counter_at fs) (Reads decimal (λ x. x ≤ max32) fs)
unfolding counter_at
counter_is [] = tt
counter_is (f ∷ fs) = found_then (numeral_of max32 f) errors.UnknownWord _ (Reads decimal (λ x. x ≤ max32) (f ∷ fs)) (λ x e. (let p = numeral_is max32 f x (omega arith) e in (cons p.0 refl, p.1)))

told_is : (line tick : ℕ) (fs : List (List ℕ)) → line ≤ max32 → tick ≤ max32 → IfOk (told_at line tick fs) (SpellsNote (decimal line ∷ decimal tick ∷ fs))
told_is line tick [] hl ht = tt
told_is line tick (word ∷ fs) hl ht = step (SpellsNote (decimal line ∷ decimal tick ∷ word ∷ fs)) (answer_at word fs) _ (SpellsAnswer (word ∷ fs)) (answer_is word fs).is (λ x h. (cons refl (cons refl h.0), (hl, ht, h.1)))

line_note_is : (fs : List (List ℕ)) → IfOk (line_note_at fs) (SpellsNote fs)
unfolding line_note_at
line_note_is fs =
    then (SpellsNote fs) (counter_at fs) _ (λ line e.
    then (SpellsNote fs) (counter_at line.1) _ (λ tick d.
    let a = at_ok (counter_at fs) (Reads decimal (λ x. x ≤ max32) fs) (counter_is fs) line e in
    let b = at_ok (counter_at line.1) (Reads decimal (λ x. x ≤ max32) line.1) (counter_is line.1) tick d in
    weaken (told_at line.0 tick.0 tick.1) (SpellsNote (decimal line.0 ∷ decimal tick.0 ∷ tick.1)) (SpellsNote fs) (told_is line.0 tick.0 tick.1 a.1 b.1) (λ x h. (a.0 ∙ cons refl b.0 ∙ h.0, h.1))))

again : (word other : List ℕ) (fs : List (List ℕ)) (r : Result Note LineError) → IfOk r (SpellsNote (other ∷ fs)) → word ≡ other → IfOk r (SpellsNote (word ∷ fs))
again word other fs r h e = weaken r (SpellsNote (other ∷ fs)) (SpellsNote (word ∷ fs)) h (λ x g. (cons e refl ∙ g.0, g.1))

whole_is : (word : List ℕ) (fs : List (List ℕ)) → Holds (SpellsNote (word ∷ fs)) (whole_at word fs)
unfolding whole_at
whole_is word fs =
    let P = SpellsNote (word ∷ fs) in
    word_then word (codes "end") _ _ (λ e. step P (last_number_at max32 1 fs) _ (ReadsLast decimal (λ x. x ≤ max32) fs) (last_number_is max32 1 fs (omega arith)) (λ x h. (cons e h.0, h.1))) (
    word_then word (codes "fault") _ _ (λ e. step P (fault_at 1 fs) _ (SpellsFault fs) (fault_is 1 fs) (λ x h. (cons e h.0, h.1))) (
    word_then word (codes "checked") _ _ (λ e. again word (codes "checked") fs (checked_at 1 fs) (checked_is 1 fs) e) (
    word_then word (codes "gen") _ _ (λ e. again word (codes "gen") fs (gen_at 1 fs) (gen_is 1 fs) e)
    (record { is = line_note_is (word ∷ fs) }))))

-- a note that is read has these fields
pub fields_is : (fs : List (List ℕ)) (x : Note) → fields_note fs ≡ Ok x → (fs ≡ note_fields x) × IsNote x
fields_is [] x e = absurd cc
fields_is (word ∷ fs) x e = at_ok (whole_at word fs) (SpellsNote (word ∷ fs)) (whole_is word fs).is x e
