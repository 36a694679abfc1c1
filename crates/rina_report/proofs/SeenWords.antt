-- The same of each part of a note, word by word.
use Rattle.std.proofs.Common.{◌≡◌, ℕ, ◌+◌, Bool, true, false, cond, List, [], ◌∷◌, codes, take, Option, Some, None, Result, Err, refl, sym, ◌∙◌, arith}
use Rattle.std.proofs.lemmas.Bool.{false≢true}
use Rattle.std.proofs.lemmas.Slice.Eq.{bytes_eq-Decides}
use Rattle.std.specs.Str.{bytes_eq}
use Rattle.rina_base.specs.Classes.{class_of}
use Rattle.rina_base.specs.declared.class.Class.TheVariants as classes
use Rattle.rina_base.specs.declared.number.Key.{Key}
use Rattle.rina_iface.specs.declared.state.Role.TheVariants as roles
use Rattle.rina_iface.specs.declared.state.Why.TheVariants as whys
use Rattle.rina_schedule.specs.Gives.{or_bad}
use Rattle.rina_schedule.specs.declared.error.LineError.{LineError}
use Rattle.rina_schedule.specs.declared.error.LineError.TheVariants as errors
use Rattle.rina_report.specs.declared.answer.Answer.TheVariants as answers
use Rattle.rina_report.specs.declared.cause.CauseNote.TheVariants as causes
use Rattle.rina_report.specs.declared.note.Fault.TheVariants as faults
use Rattle.rina_report.specs.declared.note.Note.TheVariants as notes
use Rattle.rina_report.specs.declared.refusal.Refusal.{Refusal}
use Rattle.rina_report.specs.declared.refusal.Refusal.TheVariants as refusals
use Rattle.rina_report.specs.declared.state.FailNote.TheVariants as fails
use Rattle.rina_report.specs.declared.state.MemberNote.TheVariants as members
use Rattle.rina_report.specs.declared.state.StateNote.TheVariants as states
use Rattle.rina_report.specs.declared.step.ClockNote.TheVariants as clocks
use Rattle.rina_report.specs.declared.step.TookNote.TheVariants as tooks
use Rattle.rina_report.specs.Causes.{cause_fields}
use Rattle.rina_report.specs.Fields.{max8, max32, max64}
use Rattle.rina_report.specs.Firsts.{IsNoneOf, answer_words}
use Rattle.rina_report.specs.ReadAnswers.{role_of, ok_state_of, ok_at, got_at, in_at, out_off_of, out_end_at, out_at, off_at, object_note_at, flow_note_at, entry_at, label_at, journal_word_at, step_word_at, answer_at}
use Rattle.rina_report.specs.ReadCauses.{pdu_cause_of, cause_of, cause_at, took_of, took_at, clock_of, clock_at}
use Rattle.rina_report.specs.ReadNotes.{schedule_at, fault_of, fault_at, checked_at, gen_at}
use Rattle.rina_report.specs.ReadRefusals.{bare_of, state_or_none_of, state_or_none_at, shaped_of, numbered_of, counted_of, bare_or_counted, refusal_of, refusal_at}
use Rattle.rina_report.specs.ReadStates.{why_of, why_at, gave_up_at, fail_of, fail_at, state_of, state_at}
use Rattle.rina_report.specs.Refusals.{state_or_none, refusal_fields}
use Rattle.rina_report.specs.States.{why_fields, fail_fields, state_fields}
use Rattle.rina_report.specs.Steps.{took_fields, clock_fields}
use Rattle.rina_report.proofs.Printed.{why_back, fail_back, state_back, cause_back, took_back, clock_back, state_or_none_back, refusal_back}
use Rattle.rina_report.proofs.Seen.{Fields, no_err, Known, Settled, never, chosen, end_then, known_made, made, word_in}
use Rattle.rina_report.proofs.SeenFields.{found_refuses, number_then, num_then, flow_then, port_then, name_then, app_then, object_then, worded_then, key_then, named_then, or_none, refused, last32, last64, last_two, two32, last_num, last_port, last_truth, last_bytes}

-- ---- states

why_known : (word : List ℕ) (n : ℕ) → Known (n + 1) (why_of word n)
unfolding why_of
why_known word n =
    word_in word (codes "Denied") (made _ (last32 (n + 1))) (word_in word (codes "NotHere") (end_then (n + 1) whys.NotHere) (word_in word (codes "NoIds") (made _ (last32 (n + 1)))
    (word_in word (codes "Timeout") (made _ (two32 (n + 1))) (word_in word (codes "Withdrawn") (end_then (n + 1) whys.Withdrawn) (refused n)))))

why_settled : (n : ℕ) → Settled n (why_at n)
unfolding why_at
why_settled n = chosen n (why_at n) refl (λ w. why_known w n) (record { fields = why_fields whys.NotHere; value = whys.NotHere; is = why_back n whys.NotHere tt })

gave_up_settled : (n : ℕ) → Settled n (gave_up_at n)
unfolding gave_up_at
gave_up_settled n = num_then n _ (λ num. made _ (two32 (n + 1)))

fail_known : (word : List ℕ) (n : ℕ) → Known (n + 1) (fail_of word n)
unfolding fail_of
fail_known word n = word_in word (codes "GaveUp") (gave_up_settled (n + 1)) (word_in word (codes "Below") (made _ (last_port (n + 1))) (word_in word (codes "Cut") (made _ (last32 (n + 1))) (refused n)))

fail_settled : (n : ℕ) → Settled n (fail_at n)
unfolding fail_at
fail_settled n = chosen n (fail_at n) refl (λ w. fail_known w n) (record { fields = fail_fields (fails.Cut 0); value = fails.Cut 0; is = fail_back n (fails.Cut 0) (omega arith) })

state_known : (word : List ℕ) (n : ℕ) → Known (n + 1) (state_of word n)
unfolding state_of
state_known word n =
    word_in word (codes "pending") (end_then (n + 1) states.Pending) (word_in word (codes "allocated") (end_then (n + 1) states.Allocated) (word_in word (codes "closed") (end_then (n + 1) states.Closed)
    (word_in word (codes "refused") (made _ (why_settled (n + 1))) (word_in word (codes "failed") (made _ (fail_settled (n + 1))) (refused n)))))

state_settled : (n : ℕ) → Settled n (state_at n)
unfolding state_at
state_settled n = chosen n (state_at n) refl (λ w. state_known w n) (record { fields = state_fields states.Pending; value = states.Pending; is = state_back n states.Pending tt })

-- ---- causes and steps

pdu_cause_known : (word : List ℕ) (n : ℕ) → Known (n + 1) (pdu_cause_of word n)
unfolding pdu_cause_of
pdu_cause_known word n =
    word_in word (codes "Duplicate") (made _ (last_num (n + 1))) (word_in word (codes "Behind") (made _ (last32 (n + 1))) (word_in word (codes "NoState") (made _ (last_truth (n + 1)))
    (word_in word (codes "StateGone") (made _ (last32 (n + 1))) (word_in word (codes "Broken") (made _ (last32 (n + 1))) (refused n)))))

cause_known : (word : List ℕ) (n : ℕ) → Known (n + 1) (cause_of word n)
unfolding cause_of
cause_known word n =
    word_in word (codes "Expired") (made _ (two32 (n + 1))) (word_in word (codes "NoRoute") (made _ (last32 (n + 1))) (word_in word (codes "QueueFull") (made _ (last32 (n + 1))) (word_in word (codes "NoConnection") (made _ (last32 (n + 1)))
    (word_in word (codes "NoRoom") (made _ (last32 (n + 1))) (word_in word (codes "LinkDown") (made _ (last_port (n + 1))) (pdu_cause_known word n))))))

cause_settled : (n : ℕ) → Settled n (cause_at n)
unfolding cause_at
cause_settled n = chosen n (cause_at n) refl (λ w. cause_known w n) (record { fields = cause_fields (causes.NoRoute 0); value = causes.NoRoute 0; is = cause_back n (causes.NoRoute 0) (omega arith) })

took_known : (word : List ℕ) (n : ℕ) → Known (n + 1) (took_of word n)
unfolding took_of
took_known word n = word_in word (codes "accepted") (end_then (n + 1) tooks.Accepted) (word_in word (codes "relayed") (end_then (n + 1) tooks.Relayed) (word_in word (codes "off") (made _ (cause_settled (n + 1))) (refused n)))

took_settled : (n : ℕ) → Settled n (took_at n)
unfolding took_at
took_settled n = chosen n (took_at n) refl (λ w. took_known w n) (record { fields = took_fields tooks.Accepted; value = tooks.Accepted; is = took_back n tooks.Accepted tt })

clock_known : (word : List ℕ) (n : ℕ) → Known (n + 1) (clock_of word n)
unfolding clock_of
clock_known word n =
    word_in word (codes "link-lost") (made _ (last32 (n + 1))) (word_in word (codes "link-new") (made _ (last32 (n + 1))) (word_in word (codes "gone") (made _ (last32 (n + 1))) (word_in word (codes "gave-up") (made _ (last_num (n + 1)))
    (word_in word (codes "timeout") (made _ (last_port (n + 1))) (word_in word (codes "ack") (made _ (last32 (n + 1))) (word_in word (codes "again") (made _ (last_num (n + 1))) (word_in word (codes "message") (made _ (last32 (n + 1))) (refused n))))))))

clock_settled : (n : ℕ) → Settled n (clock_at n)
unfolding clock_at
clock_settled n = chosen n (clock_at n) refl (λ w. clock_known w n) (record { fields = clock_fields (clocks.Gone 0); value = clocks.Gone 0; is = clock_back n (clocks.Gone 0) (omega arith) })

-- ---- refusals

state_or_none_known : (word : List ℕ) (n : ℕ) → Known (n + 1) (state_or_none_of word n)
unfolding state_or_none_of
state_or_none_known word n = word_in word (codes "none") (end_then (n + 1) None) (known_made _ (state_known word n))

state_or_none_settled : (n : ℕ) → Settled n (state_or_none_at n)
unfolding state_or_none_at
state_or_none_settled n = chosen n (state_or_none_at n) refl (λ w. state_or_none_known w n) (record { fields = state_or_none None; value = None; is = state_or_none_back n None tt })

shaped_known : (word : List ℕ) (n : ℕ) → Known (n + 1) (shaped_of word n)
unfolding shaped_of
shaped_known word n =
    word_in word (codes "CountSpent") (made _ (two32 (n + 1))) (word_in word (codes "WindowShut") (made _ (two32 (n + 1))) (word_in word (codes "QueueFull") (made _ (two32 (n + 1))) (word_in word (codes "TooLong") (made _ (last_two max64 (n + 1) (omega arith)))
    (word_in word (codes "NoFrame") (made _ (last64 (n + 1))) (word_in word (codes "Short") (made _ (last64 (n + 1))) (word_in word (codes "BadTag") (made _ (last64 (n + 1))) (word_in word (codes "Busy") (made _ (last_port (n + 1)))
    (word_in word (codes "NotAllocated") (made _ (state_or_none_settled (n + 1))) (word_in word (codes "Failed") (made _ (fail_settled (n + 1))) (refused n))))))))))

numbered_known : (word : List ℕ) (n : ℕ) → Known (n + 1) (numbered_of word n)
unfolding numbered_of
numbered_known word n =
    word_in word (codes "Enrolling") (made _ (last32 (n + 1))) (word_in word (codes "LinksFull") (made _ (last32 (n + 1))) (word_in word (codes "BadOp") (made _ (last32 (n + 1))) (word_in word (codes "Twice") (made _ (last32 (n + 1)))
    (word_in word (codes "Missing") (made _ (last32 (n + 1))) (word_in word (codes "BadValue") (made _ (last32 (n + 1))) (shaped_known word n))))))

counted_known : (word : List ℕ) (n : ℕ) → Known (n + 1) (counted_of word n)
unfolding counted_of
counted_known word n =
    word_in word (codes "Unknown") (made _ (last32 (n + 1))) (word_in word (codes "NoIds") (made _ (last32 (n + 1))) (word_in word (codes "NoRoute") (made _ (last32 (n + 1))) (word_in word (codes "NumbersSpent") (made _ (last32 (n + 1)))
    (word_in word (codes "EarlyHold") (made _ (last32 (n + 1))) (word_in word (codes "LateHold") (made _ (last32 (n + 1))) (numbered_known word n))))))

bare_known : (o : Option Refusal) (word : List ℕ) (n : ℕ) → Known (n + 1) (bare_or_counted o word n)
bare_known (Some why) word n = (end_then (n + 1) why).known
bare_known None word n = counted_known word n

refusal_known : (word : List ℕ) (n : ℕ) → Known (n + 1) (refusal_of word n)
unfolding refusal_of
refusal_known word n = bare_known (bare_of word) word n

refusal_settled : (n : ℕ) → Settled n (refusal_at n)
unfolding refusal_at
refusal_settled n = chosen n (refusal_at n) refl (λ w. refusal_known w n) (record { fields = refusal_fields refusals.NoWire; value = refusals.NoWire; is = refusal_back n refusals.NoWire tt })

-- ---- answers

ok_state_known : (word : List ℕ) (n : ℕ) → Known (n + 1) (ok_state_of word n)
unfolding ok_state_of
ok_state_known word n =
    word_in word (codes "outside") (end_then (n + 1) (answers.Member members.Outside)) (word_in word (codes "joining") (made _ (last32 (n + 1))) (word_in word (codes "enrolled") (end_then (n + 1) (answers.Member members.Enrolled))
    (word_in word (codes "denied") (made _ (last32 (n + 1))) (known_made _ (state_known word n)))))

ok_settled : Settled 1 (ok_at 1)
ok_settled = or_none 1 (ok_at 1) answers.Done refl (λ w. ok_state_known w 1)

got_settled : Settled 1 (got_at 1)
unfolding got_at
got_settled = number_then max32 1 _ (omega arith) (λ at. made _ (last_bytes 2))

in_settled : Settled 1 (in_at 1)
unfolding in_at
in_settled = key_then 1 _ (λ key. made _ (took_settled 3))

out_off_known : (key : Key) (word : List ℕ) (n : ℕ) → Known (n + 1) (out_off_of key word n)
unfolding out_off_of
out_off_known key word n = word_in word (codes "off") (made _ (cause_settled (n + 1))) (refused n)

out_settled : Settled 1 (out_at 1)
unfolding out_at
out_settled = key_then 1 _ (λ key. or_none 3 (out_end_at key 3) (answers.Out key) refl (λ w. out_off_known key w 3))

off_settled : Settled 1 (off_at 1)
unfolding off_at
off_settled = key_then 1 _ (λ key. made _ (cause_settled 3))

object_settled : Settled 1 (object_note_at 1)
unfolding object_note_at class_of
object_settled = object_then 1 _ (λ name. worded_then 2 (λ w. or_bad (errors.BadName 2) (class_of w)) _ (λ w e h. found_refuses 2 (errors.BadName 2) (class_of w) e refl h) (λ class. made _ (last_bytes 3)) (codes "folder") classes.Folder refl)

flow_settled : Settled 1 (flow_note_at 1)
unfolding flow_note_at role_of
flow_settled =
    flow_then 1 _ (λ flow. worded_then 2 (λ w. or_bad (errors.BadName 2) (role_of w)) _ (λ w e h. found_refuses 2 (errors.BadName 2) (role_of w) e refl h) (λ role.
    port_then 3 _ (λ port. app_then 4 _ (λ app. app_then 5 _ (λ peer. number_then max8 6 _ (omega arith) (λ cube. number_then max64 7 _ (omega arith) (λ taken. made _ (state_settled 8))))))) (codes "asker") roles.Asker refl)

entry_settled : Settled 1 (entry_at 1)
unfolding entry_at
entry_settled = number_then max32 1 _ (omega arith) (λ at. num_then 2 _ (λ num. made _ (last_bytes 3)))

label_settled : Settled 1 (label_at 1)
unfolding label_at
label_settled = name_then 1 _ (λ label. made _ (state_settled 2))

-- a word of which the first ones are known: an unknown word is none of those
pub record Words {A : Type 0} (word : List ℕ) (words : List (List ℕ)) (q : Fields → Result A LineError) : Type 0 where
  pub known : Known 1 q
  pub unknown : (t : Fields) → q t ≡ Err errors.UnknownWord → IsNoneOf words word

-- what is settled from field 1 on has a known word
pub not_unknown : {A : Type 0} (p : Fields → Result A LineError) → Settled 1 p → (t : Fields) → p t ≡ Err errors.UnknownWord → ⊥
not_unknown p h t e = (let f = h.known.fails t errors.UnknownWord e in
    no_err h.reads.value errors.UnknownWord (sym h.reads.is ∙ f.is.stays h.reads.fields (by_none f.seen (omega (arith, f.names)))))
  where
    by_none : (k : ℕ) → k ≡ 0 → take k t ≡ take k h.reads.fields
    by_none k none = rw none refl

pub other_word : (word other : List ℕ) → bytes_eq word other ≡ false → word ≡ other → ⊥
other_word word other e same = false≢true (sym e ∙ (bytes_eq-Decides word other).1 same)

word_or : {A : Type 0} {words : List (List ℕ)} {p q : Fields → Result A LineError} (word other : List ℕ) → Settled 1 p → Words word words q → Words word (other ∷ words) (λ (t : Fields). cond (bytes_eq word other) (p t) (q t))
word_or {words = words} {p = p} {q = q} word other h g = by_word (bytes_eq word other) refl
  where
    by_word : (c : Bool) → bytes_eq word other ≡ c → Words word (other ∷ words) (λ (t : Fields). cond c (p t) (q t))
    by_word true e = record { known = h.known; unknown = λ t k. absurd (not_unknown p h t k) }
    by_word false e = record { known = g.known; unknown = λ t k. (other_word word other e, g.unknown t k) }

no_word : {A : Type 0} (word : List ℕ) → Words {A = A} word [] (λ (t : Fields). Err errors.UnknownWord)
no_word word = record { known = never 0 errors.UnknownWord refl; unknown = λ t k. tt }

abbrev journal_words : List (List ℕ)
journal_words = codes "cdap" ∷ codes "obj" ∷ codes "flow" ∷ codes "s" ∷ codes "g" ∷ []

abbrev step_words : List (List ℕ)
step_words = codes "in" ∷ codes "out" ∷ codes "held" ∷ codes "clock" ∷ codes "idle" ∷ codes "off" ∷ journal_words

journal_known : (word : List ℕ) → Words word journal_words (journal_word_at word)
unfolding journal_word_at
journal_known word =
    word_or word (codes "cdap") (made _ (last_bytes 1)) (word_or word (codes "obj") object_settled (word_or word (codes "flow") (made _ flow_settled) (word_or word (codes "s") (made _ entry_settled)
    (word_or word (codes "g") (made _ entry_settled) (no_word word)))))

step_known : (word : List ℕ) → Words word step_words (step_word_at word)
unfolding step_word_at
step_known word =
    word_or word (codes "in") in_settled (word_or word (codes "out") out_settled (word_or word (codes "held") (made _ (refusal_settled 1)) (word_or word (codes "clock") (made _ (clock_settled 1))
    (word_or word (codes "idle") (end_then 1 answers.Idle) (word_or word (codes "off") off_settled (journal_known word))))))

pub answer_known : (word : List ℕ) → Words word answer_words (answer_at word)
unfolding answer_at
answer_known word =
    word_or word (codes "ok") ok_settled (word_or word (codes "none") (end_then 1 answers.Nothing) (word_or word (codes "sent") (made _ (last_num 1)) (word_or word (codes "got") got_settled
    (word_or word (codes "no") (made _ (refusal_settled 1)) (word_or word (codes "state") label_settled (step_known word))))))

-- ---- notes whose word stands in front

schedule_settled : (n : ℕ) → Settled n (schedule_at n)
unfolding schedule_at
schedule_settled n = number_then max32 n _ (omega arith) (λ line. made _ (two32 (n + 1)))

fault_known : (word : List ℕ) (n : ℕ) → Known (n + 1) (fault_of word n)
unfolding fault_of
fault_known word n =
    word_in word (codes "Usage") (made _ (last32 (n + 1))) (word_in word (codes "TooLarge") (end_then (n + 1) faults.TooLarge) (word_in word (codes "NotToml") (end_then (n + 1) faults.NotToml) (word_in word (codes "StackRule") (made _ (two32 (n + 1)))
    (word_in word (codes "Schedule") (schedule_settled (n + 1)) (word_in word (codes "ReadFault") (end_then (n + 1) faults.ReadFault) (refused n))))))

pub fault_settled : (n : ℕ) → Settled n (fault_at n)
unfolding fault_at fault_of
fault_settled n = chosen n (fault_at n) refl (λ w. fault_known w n) (record { fields = codes "TooLarge" ∷ []; value = faults.TooLarge; is = refl })

pub checked_settled : Settled 1 (checked_at 1)
unfolding checked_at
checked_settled = number_then max32 1 _ (omega arith) (λ nodes. number_then max32 2 _ (omega arith) (λ wires. made _ (two32 3)))

pub gen_settled : Settled 1 (gen_at 1)
unfolding gen_at
gen_settled =
    number_then max32 1 _ (omega arith) (λ x. named_then (codes "lines") 2 _ refl (λ lines. named_then (codes "tick") 4 _ refl (λ tick. named_then (codes "sent") 6 _ refl (λ sent.
    named_then (codes "got") 8 _ refl (λ got. named_then (codes "refused") 10 _ refl (λ refused. named_then (codes "off") 12 _ refl (λ off. named_then (codes "failed") 14 _ refl (λ failed.
    end_then 16 (notes.Gen x lines tick sent got refused off failed)))))))))
