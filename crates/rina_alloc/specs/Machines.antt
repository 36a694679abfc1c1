-- What each end of an ask does at an event, and what it is after it.
use Rattle.std.specs.Prelude.{ℕ, zero, suc, Bool, true, false, ◌||◌, not, if◌then◌else◌, List, [], ◌∷◌, Option, Some, None}
use Rattle.rina_alloc.specs.declared.event.Pair.{Pair}
use Rattle.rina_alloc.specs.declared.event.AskEvent.{AskEvent}
use Rattle.rina_alloc.specs.declared.event.AskEvent.TheVariants as events
use Rattle.rina_alloc.specs.declared.event.AskDo.{AskDo}
use Rattle.rina_alloc.specs.declared.event.AskDo.TheVariants as does
use Rattle.rina_alloc.specs.declared.asking.Asking.{Asking}
use Rattle.rina_alloc.specs.declared.asked.Asked.{Asked}

-- a flow is given up, where there is one
abbrev pub given_up : Option Pair → AskDo
given_up (Some pair) = does.Delete pair.far pair.own
given_up None = does.Nothing

-- The end that asks

abbrev pub new_asking : Asking
new_asking = record { waits = true; bound = None }

-- it waits, or it does so no more and may be bound
abbrev pub asking_answers : Bool → Option Pair → AskEvent → AskDo
asking_answers true bound (events.Clock true) = does.TimedOut
asking_answers false bound (events.Answer zero dcep number) = does.Delete dcep number
asking_answers false bound events.Ended = given_up bound
asking_answers waits bound event = does.Nothing

abbrev pub asking_does : Asking → AskEvent → AskDo
asking_does a event = asking_answers a.waits a.bound event

-- bound by an answer of result 0 alone
abbrev pub bound_by : ℕ → ℕ → ℕ → Option Pair
bound_by zero dcep number = Some (record { far = dcep; own = number })
bound_by (suc result) dcep number = None

abbrev pub asking_becomes : Bool → Option Pair → AskEvent → Asking
asking_becomes true bound (events.Answer result dcep number) = record { waits = false; bound = bound_by result dcep number }
asking_becomes waits bound (events.Clock true) = record { waits = false; bound = bound }
asking_becomes waits bound events.Ended = record { waits = false; bound = None }
asking_becomes waits bound events.Delete = record { waits = waits; bound = None }
asking_becomes waits bound event = record { waits = waits; bound = bound }

abbrev pub asking_after : Asking → AskEvent → Asking
asking_after a event = asking_becomes a.waits a.bound event

-- The far end

abbrev pub new_asked : Asked
new_asked = record { bound = None }

abbrev pub yes_or_no_ids : Option ℕ → ℕ → ℕ → AskDo
yes_or_no_ids (Some id) used scep = does.Answer 0 id scep
yes_or_no_ids None used scep = does.Answer 3 0 used

abbrev pub unless_denied : Option ℕ → AskDo → AskDo
unless_denied (Some rule) rest = does.Answer 1 0 rule
unless_denied None rest = rest

-- the first of these that applies: not here, or too old; denied by a rule; no id is free; else yes
abbrev pub answer_of : (here aged : Bool) (denied drawn : Option ℕ) (used scep : ℕ) → AskDo
answer_of here aged denied drawn used scep = if not here || aged then does.Answer 2 0 0 else unless_denied denied (yes_or_no_ids drawn used scep)

abbrev pub asked_does : Asked → AskEvent → AskDo
asked_does a (events.Ask here aged denied drawn used scep) = answer_of here aged denied drawn used scep
asked_does a events.Ended = given_up a.bound
asked_does a event = does.Nothing

-- bound by its own answer of result 0
abbrev pub bound_after : AskDo → Option Pair → Option Pair
bound_after (does.Answer zero id scep) bound = Some (record { far = scep; own = id })
bound_after answer bound = bound

abbrev pub asked_after : Asked → AskEvent → Asked
asked_after a (events.Ask here aged denied drawn used scep) = record { bound = bound_after (answer_of here aged denied drawn used scep) a.bound }
asked_after a events.Ended = record { bound = None }
asked_after a events.Delete = record { bound = None }
asked_after a event = a

-- Events that come one after the other

abbrev pub asking_run : Asking → List AskEvent → Asking
asking_run a [] = a
asking_run a (event ∷ events) = asking_run (asking_after a event) events

abbrev pub asked_run : Asked → List AskEvent → Asked
asked_run a [] = a
asked_run a (event ∷ events) = asked_run (asked_after a event) events
