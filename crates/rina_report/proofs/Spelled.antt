-- States, causes, steps and refusals that are read are spelled so, and in their ranges.
use Rattle.std.proofs.Common.{◌≡◌, ℕ, ◌+◌, ◌≤◌, List, [], ◌∷◌, codes, Option, Some, None, refl, sym, ◌∙◌, arith}
use Rattle.std.specs.Fmt.{decimal}
use Rattle.std.specs.Prelude.{IfOk, IfSome}
use Rattle.rina_iface.specs.declared.state.Why.{Why}
use Rattle.rina_report.specs.declared.state.FailNote.{FailNote}
use Rattle.rina_report.specs.declared.state.StateNote.{StateNote}
use Rattle.rina_report.specs.declared.cause.CauseNote.{CauseNote}
use Rattle.rina_report.specs.declared.step.TookNote.{TookNote}
use Rattle.rina_report.specs.declared.step.ClockNote.{ClockNote}
use Rattle.rina_report.specs.declared.refusal.Refusal.{Refusal}
use Rattle.rina_report.specs.Values.{num_text, port_text, truth_text}
use Rattle.rina_report.specs.States.{why_fields, fail_fields, state_fields}
use Rattle.rina_report.specs.Causes.{cause_word, cause_values, cause_fields}
use Rattle.rina_report.specs.Steps.{took_fields, clock_fields}
use Rattle.rina_report.specs.Refusals.{state_or_none, refusal_word, refusal_values, refusal_fields}
use Rattle.rina_report.specs.Fields.{max32, max64, num_at, last_number_at, last_two_at, last_num_at, last_port_at, last_truth_at}
use Rattle.rina_report.specs.ReadStates.{why_of, why_at, gave_up_at, fail_of, fail_at, state_of, state_at}
use Rattle.rina_report.specs.ReadCauses.{pdu_cause_of, cause_of, cause_at, took_of, took_at, clock_of, clock_at}
use Rattle.rina_report.specs.ReadRefusals.{bare_of, state_or_none_of, state_or_none_at, shaped_of, numbered_of, counted_of, bare_or_counted, refusal_of, refusal_at}
use Rattle.rina_report.specs.Ranges.{IsNum, IsPort, IsWhy, IsFail, IsState, IsCause, IsTook, IsClock, IsStateOrNone, IsRefusal}
use Rattle.rina_report.proofs.Readers.{then, at_ok, Any, Reads, ReadsLast, ReadsTwo, end_then, num_is, last_number_is, last_two_is, last_num_is, last_port_is, last_truth_is}
use Rattle.rina_report.proofs.Branches.{Holds, word_then, failed, step, weaken, cons, HoldsSome, word_some, none}

abbrev SpellsWhy : List (List ℕ) → Why → Type 0
SpellsWhy fs x = (fs ≡ why_fields x) × IsWhy x

why_of_is : (word : List ℕ) (n : ℕ) (fs : List (List ℕ)) → Holds (SpellsWhy (word ∷ fs)) (why_of word n fs)
unfolding why_of why_fields
why_of_is word n fs =
    word_then word (codes "Denied") _ _ (λ e. step (SpellsWhy (word ∷ fs)) (last_number_at max32 (n + 1) fs) _ (ReadsLast decimal (λ x. x ≤ max32) fs) (last_number_is max32 (n + 1) fs (omega arith)) (λ x h. (cons e h.0, h.1))) (
    word_then word (codes "NotHere") _ _ (λ e. end_then (n + 1) fs _ (SpellsWhy (word ∷ fs)) (λ d. (cons e d, tt))) (
    word_then word (codes "NoIds") _ _ (λ e. step (SpellsWhy (word ∷ fs)) (last_number_at max32 (n + 1) fs) _ (ReadsLast decimal (λ x. x ≤ max32) fs) (last_number_is max32 (n + 1) fs (omega arith)) (λ x h. (cons e h.0, h.1))) (
    word_then word (codes "Timeout") _ _ (λ e. step (SpellsWhy (word ∷ fs)) (last_two_at max32 (n + 1) fs) _ (ReadsTwo max32 fs) (last_two_is max32 (n + 1) fs (omega arith)) (λ x h. (cons e h.0, (h.1, h.2)))) (
    word_then word (codes "Withdrawn") _ _ (λ e. end_then (n + 1) fs _ (SpellsWhy (word ∷ fs)) (λ d. (cons e d, tt))) (
    failed)))))

why_is : (n : ℕ) (fs : List (List ℕ)) → IfOk (why_at n fs) (SpellsWhy fs)
unfolding why_at
why_is n [] = tt
why_is n (f ∷ fs) = (why_of_is f n fs).is

abbrev SpellsFail : List (List ℕ) → FailNote → Type 0
SpellsFail fs x = (fs ≡ fail_fields x) × IsFail x

abbrev SpellsGaveUp : List (List ℕ) → FailNote → Type 0
SpellsGaveUp fs x = (codes "GaveUp" ∷ fs ≡ fail_fields x) × IsFail x

gave_up_is : (n : ℕ) (fs : List (List ℕ)) → IfOk (gave_up_at n fs) (SpellsGaveUp fs)
unfolding gave_up_at fail_fields
gave_up_is n fs =
    then (SpellsGaveUp fs) (num_at n fs) _ (λ num e.
    let a = at_ok (num_at n fs) (Reads num_text IsNum fs) (num_is n fs) num e in
    step (SpellsGaveUp fs) (last_two_at max32 (n + 1) num.1) _ (ReadsTwo max32 num.1) (last_two_is max32 (n + 1) num.1 (omega arith)) (λ x h. (cons refl (a.0 ∙ cons refl h.0), (a.1, h.1, h.2))))

gave_up_fits : (word : List ℕ) (fs : List (List ℕ)) (x : FailNote) → word ≡ codes "GaveUp" → SpellsGaveUp fs x → SpellsFail (word ∷ fs) x
gave_up_fits word fs x e h = (cons e refl ∙ h.0, h.1)

fail_of_is : (word : List ℕ) (n : ℕ) (fs : List (List ℕ)) → Holds (SpellsFail (word ∷ fs)) (fail_of word n fs)
unfolding fail_of fail_fields
fail_of_is word n fs =
    word_then word (codes "GaveUp") _ _ (λ e. weaken (gave_up_at (n + 1) fs) (SpellsGaveUp fs) (SpellsFail (word ∷ fs)) (gave_up_is (n + 1) fs) (λ fail h. gave_up_fits word fs fail e h)) (
    word_then word (codes "Below") _ _ (λ e. step (SpellsFail (word ∷ fs)) (last_port_at (n + 1) fs) _ (ReadsLast port_text IsPort fs) (last_port_is (n + 1) fs) (λ x h. (cons e h.0, h.1))) (
    word_then word (codes "Cut") _ _ (λ e. step (SpellsFail (word ∷ fs)) (last_number_at max32 (n + 1) fs) _ (ReadsLast decimal (λ x. x ≤ max32) fs) (last_number_is max32 (n + 1) fs (omega arith)) (λ x h. (cons e h.0, h.1))) (
    failed)))

fail_is : (n : ℕ) (fs : List (List ℕ)) → IfOk (fail_at n fs) (SpellsFail fs)
unfolding fail_at
fail_is n [] = tt
fail_is n (f ∷ fs) = (fail_of_is f n fs).is

abbrev pub SpellsState : List (List ℕ) → StateNote → Type 0
SpellsState fs x = (fs ≡ state_fields x) × IsState x

pub state_of_is : (word : List ℕ) (n : ℕ) (fs : List (List ℕ)) → Holds (SpellsState (word ∷ fs)) (state_of word n fs)
unfolding state_of state_fields
state_of_is word n fs =
    word_then word (codes "pending") _ _ (λ e. end_then (n + 1) fs _ (SpellsState (word ∷ fs)) (λ d. (cons e d, tt))) (
    word_then word (codes "allocated") _ _ (λ e. end_then (n + 1) fs _ (SpellsState (word ∷ fs)) (λ d. (cons e d, tt))) (
    word_then word (codes "closed") _ _ (λ e. end_then (n + 1) fs _ (SpellsState (word ∷ fs)) (λ d. (cons e d, tt))) (
    word_then word (codes "refused") _ _ (λ e. step (SpellsState (word ∷ fs)) (why_at (n + 1) fs) _ (SpellsWhy fs) (why_is (n + 1) fs) (λ x h. (cons e h.0, h.1))) (
    word_then word (codes "failed") _ _ (λ e. step (SpellsState (word ∷ fs)) (fail_at (n + 1) fs) _ (SpellsFail fs) (fail_is (n + 1) fs) (λ x h. (cons e h.0, h.1))) (
    failed)))))

pub state_is : (n : ℕ) (fs : List (List ℕ)) → IfOk (state_at n fs) (SpellsState fs)
unfolding state_at
state_is n [] = tt
state_is n (f ∷ fs) = (state_of_is f n fs).is

abbrev pub SpellsCause : List (List ℕ) → CauseNote → Type 0
SpellsCause fs x = (fs ≡ cause_fields x) × IsCause x

pdu_cause_of_is : (word : List ℕ) (n : ℕ) (fs : List (List ℕ)) → Holds (SpellsCause (word ∷ fs)) (pdu_cause_of word n fs)
unfolding pdu_cause_of cause_word cause_values
pdu_cause_of_is word n fs =
    word_then word (codes "Duplicate") _ _ (λ e. step (SpellsCause (word ∷ fs)) (last_num_at (n + 1) fs) _ (ReadsLast num_text IsNum fs) (last_num_is (n + 1) fs) (λ x h. (cons e h.0, h.1))) (
    word_then word (codes "Behind") _ _ (λ e. step (SpellsCause (word ∷ fs)) (last_number_at max32 (n + 1) fs) _ (ReadsLast decimal (λ x. x ≤ max32) fs) (last_number_is max32 (n + 1) fs (omega arith)) (λ x h. (cons e h.0, h.1))) (
    word_then word (codes "NoState") _ _ (λ e. step (SpellsCause (word ∷ fs)) (last_truth_at (n + 1) fs) _ (ReadsLast truth_text Any fs) (last_truth_is (n + 1) fs) (λ x h. (cons e h.0, h.1))) (
    word_then word (codes "StateGone") _ _ (λ e. step (SpellsCause (word ∷ fs)) (last_number_at max32 (n + 1) fs) _ (ReadsLast decimal (λ x. x ≤ max32) fs) (last_number_is max32 (n + 1) fs (omega arith)) (λ x h. (cons e h.0, h.1))) (
    word_then word (codes "Broken") _ _ (λ e. step (SpellsCause (word ∷ fs)) (last_number_at max32 (n + 1) fs) _ (ReadsLast decimal (λ x. x ≤ max32) fs) (last_number_is max32 (n + 1) fs (omega arith)) (λ x h. (cons e h.0, h.1))) (
    failed)))))

cause_of_is : (word : List ℕ) (n : ℕ) (fs : List (List ℕ)) → Holds (SpellsCause (word ∷ fs)) (cause_of word n fs)
unfolding cause_of cause_word cause_values
cause_of_is word n fs =
    word_then word (codes "Expired") _ _ (λ e. step (SpellsCause (word ∷ fs)) (last_two_at max32 (n + 1) fs) _ (ReadsTwo max32 fs) (last_two_is max32 (n + 1) fs (omega arith)) (λ x h. (cons e h.0, (h.1, h.2)))) (
    word_then word (codes "NoRoute") _ _ (λ e. step (SpellsCause (word ∷ fs)) (last_number_at max32 (n + 1) fs) _ (ReadsLast decimal (λ x. x ≤ max32) fs) (last_number_is max32 (n + 1) fs (omega arith)) (λ x h. (cons e h.0, h.1))) (
    word_then word (codes "QueueFull") _ _ (λ e. step (SpellsCause (word ∷ fs)) (last_number_at max32 (n + 1) fs) _ (ReadsLast decimal (λ x. x ≤ max32) fs) (last_number_is max32 (n + 1) fs (omega arith)) (λ x h. (cons e h.0, h.1))) (
    word_then word (codes "NoConnection") _ _ (λ e. step (SpellsCause (word ∷ fs)) (last_number_at max32 (n + 1) fs) _ (ReadsLast decimal (λ x. x ≤ max32) fs) (last_number_is max32 (n + 1) fs (omega arith)) (λ x h. (cons e h.0, h.1))) (
    word_then word (codes "NoRoom") _ _ (λ e. step (SpellsCause (word ∷ fs)) (last_number_at max32 (n + 1) fs) _ (ReadsLast decimal (λ x. x ≤ max32) fs) (last_number_is max32 (n + 1) fs (omega arith)) (λ x h. (cons e h.0, h.1))) (
    word_then word (codes "LinkDown") _ _ (λ e. step (SpellsCause (word ∷ fs)) (last_port_at (n + 1) fs) _ (ReadsLast port_text IsPort fs) (last_port_is (n + 1) fs) (λ x h. (cons e h.0, h.1))) (
    pdu_cause_of_is word n fs))))))

pub cause_is : (n : ℕ) (fs : List (List ℕ)) → IfOk (cause_at n fs) (SpellsCause fs)
unfolding cause_at
cause_is n [] = tt
cause_is n (f ∷ fs) = (cause_of_is f n fs).is

abbrev pub SpellsTook : List (List ℕ) → TookNote → Type 0
SpellsTook fs x = (fs ≡ took_fields x) × IsTook x

took_of_is : (word : List ℕ) (n : ℕ) (fs : List (List ℕ)) → Holds (SpellsTook (word ∷ fs)) (took_of word n fs)
unfolding took_of took_fields
took_of_is word n fs =
    word_then word (codes "accepted") _ _ (λ e. end_then (n + 1) fs _ (SpellsTook (word ∷ fs)) (λ d. (cons e d, tt))) (
    word_then word (codes "relayed") _ _ (λ e. end_then (n + 1) fs _ (SpellsTook (word ∷ fs)) (λ d. (cons e d, tt))) (
    word_then word (codes "off") _ _ (λ e. step (SpellsTook (word ∷ fs)) (cause_at (n + 1) fs) _ (SpellsCause fs) (cause_is (n + 1) fs) (λ x h. (cons e h.0, h.1))) (
    failed)))

pub took_is : (n : ℕ) (fs : List (List ℕ)) → IfOk (took_at n fs) (SpellsTook fs)
unfolding took_at
took_is n [] = tt
took_is n (f ∷ fs) = (took_of_is f n fs).is

abbrev pub SpellsClock : List (List ℕ) → ClockNote → Type 0
SpellsClock fs x = (fs ≡ clock_fields x) × IsClock x

clock_of_is : (word : List ℕ) (n : ℕ) (fs : List (List ℕ)) → Holds (SpellsClock (word ∷ fs)) (clock_of word n fs)
unfolding clock_of clock_fields
clock_of_is word n fs =
    word_then word (codes "link-lost") _ _ (λ e. step (SpellsClock (word ∷ fs)) (last_number_at max32 (n + 1) fs) _ (ReadsLast decimal (λ x. x ≤ max32) fs) (last_number_is max32 (n + 1) fs (omega arith)) (λ x h. (cons e h.0, h.1))) (
    word_then word (codes "link-new") _ _ (λ e. step (SpellsClock (word ∷ fs)) (last_number_at max32 (n + 1) fs) _ (ReadsLast decimal (λ x. x ≤ max32) fs) (last_number_is max32 (n + 1) fs (omega arith)) (λ x h. (cons e h.0, h.1))) (
    word_then word (codes "gone") _ _ (λ e. step (SpellsClock (word ∷ fs)) (last_number_at max32 (n + 1) fs) _ (ReadsLast decimal (λ x. x ≤ max32) fs) (last_number_is max32 (n + 1) fs (omega arith)) (λ x h. (cons e h.0, h.1))) (
    word_then word (codes "gave-up") _ _ (λ e. step (SpellsClock (word ∷ fs)) (last_num_at (n + 1) fs) _ (ReadsLast num_text IsNum fs) (last_num_is (n + 1) fs) (λ x h. (cons e h.0, h.1))) (
    word_then word (codes "timeout") _ _ (λ e. step (SpellsClock (word ∷ fs)) (last_port_at (n + 1) fs) _ (ReadsLast port_text IsPort fs) (last_port_is (n + 1) fs) (λ x h. (cons e h.0, h.1))) (
    word_then word (codes "ack") _ _ (λ e. step (SpellsClock (word ∷ fs)) (last_number_at max32 (n + 1) fs) _ (ReadsLast decimal (λ x. x ≤ max32) fs) (last_number_is max32 (n + 1) fs (omega arith)) (λ x h. (cons e h.0, h.1))) (
    word_then word (codes "again") _ _ (λ e. step (SpellsClock (word ∷ fs)) (last_num_at (n + 1) fs) _ (ReadsLast num_text IsNum fs) (last_num_is (n + 1) fs) (λ x h. (cons e h.0, h.1))) (
    word_then word (codes "message") _ _ (λ e. step (SpellsClock (word ∷ fs)) (last_number_at max32 (n + 1) fs) _ (ReadsLast decimal (λ x. x ≤ max32) fs) (last_number_is max32 (n + 1) fs (omega arith)) (λ x h. (cons e h.0, h.1))) (
    failed))))))))

pub clock_is : (n : ℕ) (fs : List (List ℕ)) → IfOk (clock_at n fs) (SpellsClock fs)
unfolding clock_at
clock_is n [] = tt
clock_is n (f ∷ fs) = (clock_of_is f n fs).is

abbrev SpellsStateOrNone : List (List ℕ) → Option StateNote → Type 0
SpellsStateOrNone fs x = (fs ≡ state_or_none x) × IsStateOrNone x

state_or_none_of_is : (word : List ℕ) (n : ℕ) (fs : List (List ℕ)) → Holds (SpellsStateOrNone (word ∷ fs)) (state_or_none_of word n fs)
unfolding state_or_none_of state_or_none
state_or_none_of_is word n fs =
    word_then word (codes "none") _ _ (λ e. end_then (n + 1) fs _ (SpellsStateOrNone (word ∷ fs)) (λ d. (cons e d, tt)))
    (record { is = step (SpellsStateOrNone (word ∷ fs)) (state_of word n fs) _ (SpellsState (word ∷ fs)) (state_of_is word n fs).is (λ x h. h) })

state_or_none_is : (n : ℕ) (fs : List (List ℕ)) → IfOk (state_or_none_at n fs) (SpellsStateOrNone fs)
unfolding state_or_none_at
state_or_none_is n [] = tt
state_or_none_is n (f ∷ fs) = (state_or_none_of_is f n fs).is

abbrev IsBare : List ℕ → Refusal → Type 0
IsBare word x = (word ≡ refusal_word x) × (refusal_values x ≡ []) × IsRefusal x

bare_is : (word : List ℕ) → HoldsSome (IsBare word) (bare_of word)
unfolding bare_of refusal_word refusal_values
bare_is word =
    word_some word (codes "NoWire") _ _ (λ e. (e, refl, tt)) (
    word_some word (codes "NoPolicy") _ _ (λ e. (e, refl, tt)) (
    word_some word (codes "LabelUsed") _ _ (λ e. (e, refl, tt)) (
    word_some word (codes "ClockSpent") _ _ (λ e. (e, refl, tt)) (
    word_some word (codes "NoIpc") _ _ (λ e. (e, refl, tt)) (
    word_some word (codes "Already") _ _ (λ e. (e, refl, tt)) (
    word_some word (codes "NoMember") _ _ (λ e. (e, refl, tt)) (
    word_some word (codes "NotThere") _ _ (λ e. (e, refl, tt)) (
    word_some word (codes "NoCube") _ _ (λ e. (e, refl, tt)) (
    word_some word (codes "NoSuchApp") _ _ (λ e. (e, refl, tt)) (
    word_some word (codes "SameSystem") _ _ (λ e. (e, refl, tt)) (
    word_some word (codes "NoPort") _ _ (λ e. (e, refl, tt)) (
    word_some word (codes "NoLink") _ _ (λ e. (e, refl, tt)) (
    word_some word (codes "NoRank") _ _ (λ e. (e, refl, tt)) (
    word_some word (codes "NotYours") _ _ (λ e. (e, refl, tt)) (
    none)))))))))))))))

abbrev pub SpellsRefusal : List (List ℕ) → Refusal → Type 0
SpellsRefusal fs x = (fs ≡ refusal_fields x) × IsRefusal x

shaped_of_is : (word : List ℕ) (n : ℕ) (fs : List (List ℕ)) → Holds (SpellsRefusal (word ∷ fs)) (shaped_of word n fs)
unfolding shaped_of refusal_word refusal_values
shaped_of_is word n fs =
    word_then word (codes "CountSpent") _ _ (λ e. step (SpellsRefusal (word ∷ fs)) (last_two_at max32 (n + 1) fs) _ (ReadsTwo max32 fs) (last_two_is max32 (n + 1) fs (omega arith)) (λ x h. (cons e h.0, (h.1, h.2)))) (
    word_then word (codes "WindowShut") _ _ (λ e. step (SpellsRefusal (word ∷ fs)) (last_two_at max32 (n + 1) fs) _ (ReadsTwo max32 fs) (last_two_is max32 (n + 1) fs (omega arith)) (λ x h. (cons e h.0, (h.1, h.2)))) (
    word_then word (codes "QueueFull") _ _ (λ e. step (SpellsRefusal (word ∷ fs)) (last_two_at max32 (n + 1) fs) _ (ReadsTwo max32 fs) (last_two_is max32 (n + 1) fs (omega arith)) (λ x h. (cons e h.0, (h.1, h.2)))) (
    word_then word (codes "TooLong") _ _ (λ e. step (SpellsRefusal (word ∷ fs)) (last_two_at max64 (n + 1) fs) _ (ReadsTwo max64 fs) (last_two_is max64 (n + 1) fs (omega arith)) (λ x h. (cons e h.0, (h.1, h.2)))) (
    word_then word (codes "NoFrame") _ _ (λ e. step (SpellsRefusal (word ∷ fs)) (last_number_at max64 (n + 1) fs) _ (ReadsLast decimal (λ x. x ≤ max64) fs) (last_number_is max64 (n + 1) fs (omega arith)) (λ x h. (cons e h.0, h.1))) (
    word_then word (codes "Short") _ _ (λ e. step (SpellsRefusal (word ∷ fs)) (last_number_at max64 (n + 1) fs) _ (ReadsLast decimal (λ x. x ≤ max64) fs) (last_number_is max64 (n + 1) fs (omega arith)) (λ x h. (cons e h.0, h.1))) (
    word_then word (codes "BadTag") _ _ (λ e. step (SpellsRefusal (word ∷ fs)) (last_number_at max64 (n + 1) fs) _ (ReadsLast decimal (λ x. x ≤ max64) fs) (last_number_is max64 (n + 1) fs (omega arith)) (λ x h. (cons e h.0, h.1))) (
    word_then word (codes "Busy") _ _ (λ e. step (SpellsRefusal (word ∷ fs)) (last_port_at (n + 1) fs) _ (ReadsLast port_text IsPort fs) (last_port_is (n + 1) fs) (λ x h. (cons e h.0, h.1))) (
    word_then word (codes "NotAllocated") _ _ (λ e. step (SpellsRefusal (word ∷ fs)) (state_or_none_at (n + 1) fs) _ (SpellsStateOrNone fs) (state_or_none_is (n + 1) fs) (λ x h. (cons e h.0, h.1))) (
    word_then word (codes "Failed") _ _ (λ e. step (SpellsRefusal (word ∷ fs)) (fail_at (n + 1) fs) _ (SpellsFail fs) (fail_is (n + 1) fs) (λ x h. (cons e h.0, h.1))) (
    failed))))))))))

numbered_of_is : (word : List ℕ) (n : ℕ) (fs : List (List ℕ)) → Holds (SpellsRefusal (word ∷ fs)) (numbered_of word n fs)
unfolding numbered_of refusal_word refusal_values
numbered_of_is word n fs =
    word_then word (codes "Enrolling") _ _ (λ e. step (SpellsRefusal (word ∷ fs)) (last_number_at max32 (n + 1) fs) _ (ReadsLast decimal (λ x. x ≤ max32) fs) (last_number_is max32 (n + 1) fs (omega arith)) (λ x h. (cons e h.0, h.1))) (
    word_then word (codes "LinksFull") _ _ (λ e. step (SpellsRefusal (word ∷ fs)) (last_number_at max32 (n + 1) fs) _ (ReadsLast decimal (λ x. x ≤ max32) fs) (last_number_is max32 (n + 1) fs (omega arith)) (λ x h. (cons e h.0, h.1))) (
    word_then word (codes "BadOp") _ _ (λ e. step (SpellsRefusal (word ∷ fs)) (last_number_at max32 (n + 1) fs) _ (ReadsLast decimal (λ x. x ≤ max32) fs) (last_number_is max32 (n + 1) fs (omega arith)) (λ x h. (cons e h.0, h.1))) (
    word_then word (codes "Twice") _ _ (λ e. step (SpellsRefusal (word ∷ fs)) (last_number_at max32 (n + 1) fs) _ (ReadsLast decimal (λ x. x ≤ max32) fs) (last_number_is max32 (n + 1) fs (omega arith)) (λ x h. (cons e h.0, h.1))) (
    word_then word (codes "Missing") _ _ (λ e. step (SpellsRefusal (word ∷ fs)) (last_number_at max32 (n + 1) fs) _ (ReadsLast decimal (λ x. x ≤ max32) fs) (last_number_is max32 (n + 1) fs (omega arith)) (λ x h. (cons e h.0, h.1))) (
    word_then word (codes "BadValue") _ _ (λ e. step (SpellsRefusal (word ∷ fs)) (last_number_at max32 (n + 1) fs) _ (ReadsLast decimal (λ x. x ≤ max32) fs) (last_number_is max32 (n + 1) fs (omega arith)) (λ x h. (cons e h.0, h.1))) (
    shaped_of_is word n fs))))))

counted_of_is : (word : List ℕ) (n : ℕ) (fs : List (List ℕ)) → Holds (SpellsRefusal (word ∷ fs)) (counted_of word n fs)
unfolding counted_of refusal_word refusal_values
counted_of_is word n fs =
    word_then word (codes "Unknown") _ _ (λ e. step (SpellsRefusal (word ∷ fs)) (last_number_at max32 (n + 1) fs) _ (ReadsLast decimal (λ x. x ≤ max32) fs) (last_number_is max32 (n + 1) fs (omega arith)) (λ x h. (cons e h.0, h.1))) (
    word_then word (codes "NoIds") _ _ (λ e. step (SpellsRefusal (word ∷ fs)) (last_number_at max32 (n + 1) fs) _ (ReadsLast decimal (λ x. x ≤ max32) fs) (last_number_is max32 (n + 1) fs (omega arith)) (λ x h. (cons e h.0, h.1))) (
    word_then word (codes "NoRoute") _ _ (λ e. step (SpellsRefusal (word ∷ fs)) (last_number_at max32 (n + 1) fs) _ (ReadsLast decimal (λ x. x ≤ max32) fs) (last_number_is max32 (n + 1) fs (omega arith)) (λ x h. (cons e h.0, h.1))) (
    word_then word (codes "NumbersSpent") _ _ (λ e. step (SpellsRefusal (word ∷ fs)) (last_number_at max32 (n + 1) fs) _ (ReadsLast decimal (λ x. x ≤ max32) fs) (last_number_is max32 (n + 1) fs (omega arith)) (λ x h. (cons e h.0, h.1))) (
    word_then word (codes "EarlyHold") _ _ (λ e. step (SpellsRefusal (word ∷ fs)) (last_number_at max32 (n + 1) fs) _ (ReadsLast decimal (λ x. x ≤ max32) fs) (last_number_is max32 (n + 1) fs (omega arith)) (λ x h. (cons e h.0, h.1))) (
    word_then word (codes "LateHold") _ _ (λ e. step (SpellsRefusal (word ∷ fs)) (last_number_at max32 (n + 1) fs) _ (ReadsLast decimal (λ x. x ≤ max32) fs) (last_number_is max32 (n + 1) fs (omega arith)) (λ x h. (cons e h.0, h.1))) (
    numbered_of_is word n fs))))))

refusal_of_is : (word : List ℕ) (n : ℕ) (fs : List (List ℕ)) → Holds (SpellsRefusal (word ∷ fs)) (refusal_of word n fs)
unfolding refusal_of
refusal_of_is word n fs = by_name (bare_of word) (bare_is word).is
  where
    by_name : (o : Option Refusal) → IfSome o (IsBare word) → Holds (SpellsRefusal (word ∷ fs)) (bare_or_counted o word n fs)
    by_name None h = counted_of_is word n fs
    by_name (Some why) h = record { is = end_then (n + 1) fs why (SpellsRefusal (word ∷ fs)) (λ d. (cons h.0 (d ∙ sym h.1), h.2)) }

pub refusal_is : (n : ℕ) (fs : List (List ℕ)) → IfOk (refusal_at n fs) (SpellsRefusal fs)
unfolding refusal_at
refusal_is n [] = tt
refusal_is n (f ∷ fs) = (refusal_of_is f n fs).is
