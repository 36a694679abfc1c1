-- What holds of an end of an ask whatever events come.
use Rattle.std.specs.Prelude.{◌≡◌, ℕ, ◌+◌, ◌≤◌, ◌⊎◌, true, List, [], ◌∷◌, Some, None}
use Rattle.rina_alloc.specs.declared.event.Pair.{Pair}
use Rattle.rina_alloc.specs.declared.event.AskEvent.{AskEvent}
use Rattle.rina_alloc.specs.declared.event.AskEvent.TheVariants as events
use Rattle.rina_alloc.specs.declared.event.AskDo.{AskDo}
use Rattle.rina_alloc.specs.declared.event.AskDo.TheVariants as does
use Rattle.rina_alloc.specs.declared.asking.Asking.{Asking}
use Rattle.rina_alloc.specs.declared.asked.Asked.{Asked}
use Rattle.rina_alloc.specs.Machines.{new_asking, asking_does, asking_after, asking_run, new_asked, asked_does, asked_after, asked_run}

-- one of these events is so
abbrev pub SomeIs : (AskEvent → Type 0) → List AskEvent → Type 0
SomeIs P [] = ⊥
SomeIs P (e ∷ es) = P e ⊎ SomeIs P es

-- the end that asks is bound only by an answer of result 0, which names both CEP-ids
abbrev pub IsBoundByYes : Type 0
IsBoundByYes = (es : List AskEvent) (pair : Pair) → (asking_run new_asking es).bound ≡ Some pair → SomeIs (λ e. e ≡ events.Answer 0 pair.far pair.own) es

-- and the far end only by its own, which names both
abbrev pub IsBoundByOwnYes : Type 0
IsBoundByOwnYes = (es : List AskEvent) (pair : Pair) → (asked_run new_asked es).bound ≡ Some pair → SomeIs (λ e. asked_does new_asked e ≡ does.Answer 0 pair.own pair.far) es

-- an ask that waited in vain, or whose end was freed, is never bound
abbrev pub IsNeverBound : AskEvent → Type 0
IsNeverBound event = (before after : List AskEvent) → (asking_run new_asking before).waits ≡ true → (asking_run (asking_after (asking_run new_asking before) event) after).bound ≡ None

-- How often an end gives its flow up

abbrev pub once_if : AskEvent → AskDo → ℕ
once_if events.Ended (does.Delete dcep scep) = 1
once_if event answer = 0

abbrev pub times_asking_ends : Asking → List AskEvent → ℕ
times_asking_ends a [] = 0
times_asking_ends a (e ∷ es) = once_if e (asking_does a e) + times_asking_ends (asking_after a e) es

abbrev pub times_asked_ends : Asked → List AskEvent → ℕ
times_asked_ends a [] = 0
times_asked_ends a (e ∷ es) = once_if e (asked_does a e) + times_asked_ends (asked_after a e) es

abbrev pub times_asked : List AskEvent → ℕ
times_asked [] = 0
times_asked (events.Ask here aged denied drawn used scep ∷ es) = 1 + times_asked es
times_asked (e ∷ es) = times_asked es

-- the end that asks, at most once
abbrev pub IsGivenUpOnce : Type 0
IsGivenUpOnce = (es : List AskEvent) → times_asking_ends new_asking es ≤ 1

-- the far end, at most once for each ask
abbrev pub IsGivenUpOnceAnAsk : Type 0
IsGivenUpOnceAnAsk = (es : List AskEvent) → times_asked_ends new_asked es ≤ times_asked es
