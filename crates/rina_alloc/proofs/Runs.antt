-- Runs of the two machines.
use Rattle.std.proofs.Common.{◌≡◌, ℕ, zero, suc, ◌+◌, ◌≤◌, ◌⊎◌, inl, inr, Bool, true, false, List, [], ◌∷◌, Option, Some, None, refl, ap, arith}
use Rattle.rina_alloc.specs.declared.event.Pair.{Pair}
use Rattle.rina_alloc.specs.declared.event.AskEvent.{AskEvent}
use Rattle.rina_alloc.specs.declared.event.AskEvent.TheVariants as events
use Rattle.rina_alloc.specs.declared.event.AskDo.{AskDo}
use Rattle.rina_alloc.specs.declared.event.AskDo.TheVariants as does
use Rattle.rina_alloc.specs.Laws.{SomeIs, IsBoundByOwnYes, IsNeverBound, IsGivenUpOnceAnAsk, times_asking_ends, times_asked_ends, times_asked}
use Rattle.rina_alloc.specs.Machines.{asking_becomes, asking_run, new_asked, asked_does, bound_after, answer_of, asked_run}

-- The end that asks

-- once it neither waits nor is bound, it is never bound
over : (es : List AskEvent) → (asking_run (record { waits = false; bound = None }) es).bound ≡ None
over [] = refl
over (events.Clock true ∷ es) = over es
over (events.Clock false ∷ es) = over es
over (event ∷ es) = over es

-- nor does it wait again
shut : (es : List AskEvent) (b : Option Pair) → (asking_run (record { waits = false; bound = b }) es).waits ≡ false
shut [] b = refl
shut (events.Clock true ∷ es) b = shut es b
shut (events.Clock false ∷ es) b = shut es b
shut (events.Ended ∷ es) b = shut es None
shut (events.Delete ∷ es) b = shut es None
shut (event ∷ es) b = shut es b

-- while it is bound, it is so to the same
held : (es : List AskEvent) (p pair : Pair) → (asking_run (record { waits = false; bound = Some p }) es).bound ≡ Some pair → p ≡ pair
held [] p pair h = grind (arith, h)
held (events.Clock true ∷ es) p pair h = held es p pair h
held (events.Clock false ∷ es) p pair h = held es p pair h
held (events.Ended ∷ es) p pair h = let o = over es in grind (arith, o, h)
held (events.Delete ∷ es) p pair h = let o = over es in grind (arith, o, h)
held (event ∷ es) p pair h = held es p pair h

pub bound_by_yes : (es : List AskEvent) (pair : Pair) → (asking_run (record { waits = true; bound = None }) es).bound ≡ Some pair → SomeIs (λ e. e ≡ events.Answer 0 pair.far pair.own) es
bound_by_yes [] pair h = grind (arith, h)
bound_by_yes (events.Answer zero d n ∷ es) pair h = let e : record { far = d; own = n } ≡ pair = held es (record { far = d; own = n }) pair h in inl (ap (λ (p : Pair). events.Answer 0 p.far p.own) e)
bound_by_yes (events.Answer (suc r) d n ∷ es) pair h = let o = over es in grind (arith, o, h)
bound_by_yes (events.Clock true ∷ es) pair h = let o = over es in grind (arith, o, h)
bound_by_yes (events.Ended ∷ es) pair h = let o = over es in grind (arith, o, h)
bound_by_yes (events.Clock false ∷ es) pair h = inr (bound_by_yes es pair h)
bound_by_yes (event ∷ es) pair h = inr (bound_by_yes es pair h)

-- while it waits it is not bound
waiting : (es : List AskEvent) → (asking_run (record { waits = true; bound = None }) es).waits ≡ true → (asking_run (record { waits = true; bound = None }) es).bound ≡ None
waiting [] h = refl
waiting (events.Answer zero d n ∷ es) h = let o = shut es (Some (record { far = d; own = n })) in grind (arith, o, h)
waiting (events.Answer (suc r) d n ∷ es) h = let o = shut es None in grind (arith, o, h)
waiting (events.Clock true ∷ es) h = let o = shut es None in grind (arith, o, h)
waiting (events.Ended ∷ es) h = let o = shut es None in grind (arith, o, h)
waiting (events.Clock false ∷ es) h = waiting es h
waiting (event ∷ es) h = waiting es h

late_from : (waits : Bool) (bound : Option Pair) (after : List AskEvent) → waits ≡ true → bound ≡ None → (asking_run (asking_becomes waits bound (events.Clock true)) after).bound ≡ None
late_from true None after w b = over after
late_from true (Some p) after w b = grind (arith, b)
late_from false bound after w b = grind (arith, w)

freed_from : (waits : Bool) (bound : Option Pair) (after : List AskEvent) → waits ≡ true → (asking_run (asking_becomes waits bound events.Ended) after).bound ≡ None
freed_from true bound after w = over after
freed_from false bound after w = grind (arith, w)

pub late : IsNeverBound (events.Clock true)
late before after w = late_from (asking_run (record { waits = true; bound = None }) before).waits (asking_run (record { waits = true; bound = None }) before).bound after w (waiting before w)

pub freed : IsNeverBound events.Ended
freed before after w = freed_from (asking_run (record { waits = true; bound = None }) before).waits (asking_run (record { waits = true; bound = None }) before).bound after w

none_over : (es : List AskEvent) → times_asking_ends (record { waits = false; bound = None }) es ≡ 0
none_over [] = refl
none_over (events.Clock true ∷ es) = omega (arith, none_over es)
none_over (events.Clock false ∷ es) = omega (arith, none_over es)
none_over (events.Answer zero d n ∷ es) = omega (arith, none_over es)
none_over (events.Answer (suc r) d n ∷ es) = omega (arith, none_over es)
none_over (event ∷ es) = omega (arith, none_over es)

once_held : (es : List AskEvent) (p : Pair) → times_asking_ends (record { waits = false; bound = Some p }) es ≤ 1
once_held [] p = omega arith
once_held (events.Clock true ∷ es) p = omega (arith, once_held es p)
once_held (events.Clock false ∷ es) p = omega (arith, once_held es p)
once_held (events.Answer zero d n ∷ es) p = omega (arith, once_held es p)
once_held (events.Answer (suc r) d n ∷ es) p = omega (arith, once_held es p)
once_held (events.Ended ∷ es) p = omega (arith, none_over es)
once_held (events.Delete ∷ es) p = omega (arith, none_over es)
once_held (event ∷ es) p = omega (arith, once_held es p)

pub once : (es : List AskEvent) → times_asking_ends (record { waits = true; bound = None }) es ≤ 1
once [] = omega arith
once (events.Answer zero d n ∷ es) = omega (arith, once_held es (record { far = d; own = n }))
once (events.Answer (suc r) d n ∷ es) = omega (arith, none_over es)
once (events.Clock true ∷ es) = omega (arith, none_over es)
once (events.Clock false ∷ es) = omega (arith, once es)
once (events.Ended ∷ es) = omega (arith, none_over es)
once (event ∷ es) = omega (arith, once es)

-- The far end

after_answer : (d : AskDo) (b : Option Pair) (pair : Pair) → bound_after d b ≡ Some pair → (b ≡ Some pair) ⊎ (d ≡ does.Answer 0 pair.own pair.far)
after_answer (does.Answer zero id scep) b pair h = let e : record { far = scep; own = id } ≡ pair = grind (arith, h) in inr (ap (λ (p : Pair). does.Answer 0 p.own p.far) e)
after_answer (does.Answer (suc r) id scep) b pair h = inl h
after_answer d b pair h = inl h

pub bound_by_own_yes : (es : List AskEvent) (b : Option Pair) (pair : Pair) → (asked_run (record { bound = b }) es).bound ≡ Some pair → (b ≡ Some pair) ⊎ SomeIs (λ e. asked_does new_asked e ≡ does.Answer 0 pair.own pair.far) es
bound_by_own_yes [] b pair h = inl h
bound_by_own_yes (events.Ask here aged denied drawn used scep ∷ es) b pair h =
    elim (bound_by_own_yes es (bound_after (answer_of here aged denied drawn used scep) b) pair h) [
      | inl e ↦ elim (after_answer (answer_of here aged denied drawn used scep) b pair e) [ inl o ↦ inl o | inr y ↦ inr (inl y) ]
      | inr s ↦ inr (inr s)
    ]
bound_by_own_yes (events.Ended ∷ es) b pair h = elim (bound_by_own_yes es None pair h) [ inl e ↦ grind (arith, e) | inr s ↦ inr (inr s) ]
bound_by_own_yes (events.Delete ∷ es) b pair h = elim (bound_by_own_yes es None pair h) [ inl e ↦ grind (arith, e) | inr s ↦ inr (inr s) ]
bound_by_own_yes (event ∷ es) b pair h = elim (bound_by_own_yes es b pair h) [ inl e ↦ inl e | inr s ↦ inr (inr s) ]

pub own_yes : IsBoundByOwnYes
own_yes es pair h = elim (bound_by_own_yes es None pair h) [ inl e ↦ grind (arith, e) | inr s ↦ s ]

abbrev weight : Option Pair → ℕ
weight None = 0
weight (Some p) = 1

weight_most : (b : Option Pair) → weight b ≤ 1
weight_most None = omega arith
weight_most (Some p) = omega arith

counted : (es : List AskEvent) (b : Option Pair) → times_asked_ends (record { bound = b }) es ≤ weight b + times_asked es
counted [] b = omega arith
counted (events.Ask here aged denied drawn used scep ∷ es) b =
    let next = bound_after (answer_of here aged denied drawn used scep) b in
    omega (arith, counted es next, weight_most next)
counted (events.Ended ∷ es) None = omega (arith, counted es None)
counted (events.Ended ∷ es) (Some p) = omega (arith, counted es None)
counted (events.Delete ∷ es) b = omega (arith, counted es None)
counted (event ∷ es) b = omega (arith, counted es b)

pub once_an_ask : IsGivenUpOnceAnAsk
once_an_ask es = omega (arith, counted es None)
