-- Each answer of a far end has the numbers of an answer.
use Rattle.std.proofs.Common.{◌≡◌, ℕ, Bool, true, false, Option, Some, None, IsSome, refl, subst}
use Rattle.rina_alloc.specs.declared.asked.Asked.{Asked}
use Rattle.rina_alloc.specs.declared.event.Pair.{Pair}
use Rattle.rina_alloc.specs.declared.event.AskEvent.{AskEvent}
use Rattle.rina_alloc.specs.declared.event.AskEvent.TheVariants as events
use Rattle.rina_alloc.specs.declared.event.AskDo.{AskDo}
use Rattle.rina_alloc.specs.declared.event.AskDo.TheVariants as does
use Rattle.rina_alloc.specs.Machines.{given_up, yes_or_no_ids, unless_denied, answer_of, asked_does}
use Rattle.rina_alloc.specs.Words.{answer_at}

-- it can be told, where it is an answer
abbrev CanBeTold : AskDo → Type 0
CanBeTold (does.Answer code dcep number) = IsSome (answer_at code dcep number)
CanBeTold other = Unit {0}

yes_told : (drawn : Option ℕ) (used scep : ℕ) → CanBeTold (yes_or_no_ids drawn used scep)
unfolding answer_at
yes_told (Some id) used scep = refl
yes_told None used scep = refl

denied_told : (denied drawn : Option ℕ) (used scep : ℕ) → CanBeTold (unless_denied denied (yes_or_no_ids drawn used scep))
unfolding answer_at
denied_told (Some rule) drawn used scep = refl
denied_told None drawn used scep = yes_told drawn used scep

answer_told : (here aged : Bool) (denied drawn : Option ℕ) (used scep : ℕ) → CanBeTold (answer_of here aged denied drawn used scep)
unfolding answer_at
answer_told true true denied drawn used scep = refl
answer_told true false denied drawn used scep = denied_told denied drawn used scep
answer_told false aged denied drawn used scep = refl

ended_told : (bound : Option Pair) → CanBeTold (given_up bound)
ended_told (Some pair) = tt
ended_told None = tt

does_told : (a : Asked) (event : AskEvent) → CanBeTold (asked_does a event)
does_told a (events.Ask here aged denied drawn used scep) = answer_told here aged denied drawn used scep
does_told a (events.Answer result dcep number) = tt
does_told a events.Delete = tt
does_told a events.Ended = ended_told a.bound
does_told a (events.Clock late) = tt

pub told : (a : Asked) (event : AskEvent) (code dcep number : ℕ) → asked_does a event ≡ does.Answer code dcep number → IsSome (answer_at code dcep number)
told a event code dcep number e = subst CanBeTold e (does_told a event)
