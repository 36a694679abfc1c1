-- Each far end that was not there at the opening was made in a step of the run, in which it was asked for.
use Rattle.std.proofs.Common.{◌≡◌, ◌≢◌, ◌∙◌, ℕ, ◌+◌, suc, nat_lt, true, false, List, [], ◌∷◌, ◌++◌, map, slice_get, Option, Some, None, option_and_then, Result, Ok, Err, refl, sym, ap, subst, inl, inr}
use Rattle.rina_iface.specs.declared.ends.End.{End}
use Rattle.rina_iface.specs.declared.state.Role.TheVariants.{Far}
use Rattle.rina_policy.specs.Slots.{Slot}
use Rattle.rina_report.specs.declared.answer.Answer.{Answer}
use Rattle.rina_report.specs.declared.note.Note.{Note}
use Rattle.rina_schedule.specs.declared.event.Event.{Event}
use Rattle.rina_schedule.specs.declared.event.Event.TheVariants as events
use Rattle.rina_stack.specs.declared.plan.Plan.{Plan}
use Rattle.rina_data.specs.declared.step.ClockStep.{ClockStep}
use Rattle.rina_data.specs.declared.step.InStep.{InStep}
use Rattle.rina_data.specs.declared.step.OutStep.{OutStep}
use Rattle.rina_data.specs.declared.step.StepError.{StepError}
use Rattle.rina_data.specs.declared.step.StepError.TheVariants.{Memory, NoIpc}
use Rattle.rina_dif.specs.declared.dif.Dif.{Dif}
use Rattle.rina_tower.specs.declared.places.LinkPlace.{LinkPlace}
use Rattle.rina_tower.specs.declared.places.MemberPlace.{MemberPlace}
use Rattle.rina_tower.specs.declared.tower.Tower.{Tower}
use Rattle.rina_tower.specs.Bystanders.{is_ipc}
use Rattle.rina_tower.specs.Calls.{RegistersAtTop}
use Rattle.rina_tower.specs.Ledgers.{dif_at, dif_of}
use Rattle.rina_tower.specs.Ranks.{now_of}
use Rattle.rina_tower.specs.Rounds.{AllClockSteps, AllInSteps, AllMove, AllOutSteps, Anything, ClockMove, InMove, InTurn, IsRound, Move, Moves, OutMove, has_taken, links_downward, links_upward, members_upward, takes_no_more}
use Rattle.rina_tower.specs.Stands.{IsTower}
use Rattle.rina_tower.specs.Steps.{ClocksAtTop, InStepsAtTop, OutStepsAtTop}
use Rattle.rina_notes.specs.declared.site.Site.{Site}
use Rattle.rina_notes.specs.Sites.{dif_site_at, site_at}
use Rattle.rina_words.specs.declared.run.Run.{Run}
use Rattle.rina_words.specs.Step.{Acts, AtSite, CallsIn, CallsRegister, Stage, link_of}
use Rattle.rina_laws.specs.Named.{MakesFarEnd, end_at}
use Rattle.rina_laws.specs.SomeStep.{FarEndsAreAskedFor, SomeMove, SomeOfRound, SomeOfWord}
use Rattle.rina_laws.proofs.Leading.{Leads, TicksLead, leads_on, leads_same, runs, ticking}
use Rattle.rina_laws.proofs.NamedAsks.{ByAsk, takes_ends}
use Rattle.rina_laws.proofs.NamedComes.{CameAt, Comes, HoldsAt, Never, at_rank, came_at, never_at}
use Rattle.rina_laws.proofs.NamedEnds.{HasEnd, ends_stay, ipcs_make_none, one_refl, registers_ends}
use Rattle.rina_laws.proofs.NamedSteps as steps
use Rattle.rina_laws.proofs.NamedWords as named
use Rattle.rina_laws.proofs.WrittenGrows.{Never as NoneWritten}
use Rattle.rina_laws.proofs.WrittenSteps.{moves as move_goes, ticks as tick_goes}
use Rattle.rina_laws.proofs.WrittenWords.{lets, words}

-- ---- no step of a round finds no memory

-- a step that takes what came found memory
abbrev FoundMemory : Move → Type 0
FoundMemory (InMove p result) = result ≢ Err Memory
FoundMemory (ClockMove p result) = Unit {0}
FoundMemory (OutMove p result) = Unit {0}

abbrev AllFound : List Move → Type 0
AllFound [] = Unit {0}
AllFound (m ∷ ms) = FoundMemory m × AllFound ms

all_append : (xs ys : List Move) → AllFound xs → AllFound ys → AllFound (xs ++ ys)
all_append [] ys f g = g
all_append (x ∷ xs) ys f g = (f.0, all_append xs ys f.1 g)

-- at one place after the other
found_in_turn : {P : Type 0} (At : P → List Move → Type 0) → ((p : P) (ms : List Move) → At p ms → AllFound ms) → (ps : List P) (ms : List Move) → InTurn At ps ms → AllFound ms
found_in_turn At each [] ms t = subst AllFound (sym t) tt
found_in_turn At each (p ∷ ps) ms (first, rest, one, others, is) = subst AllFound (sym is) (all_append first rest (each p first one) (found_in_turn At each ps rest others))

taken_not : (answer : Result InStep StepError) → has_taken answer ≡ true → answer ≢ Err Memory
taken_not answer taken is = (let no : false ≡ true = sym (ap has_taken is) ∙ taken in cc)

ended_not : (answer : Result InStep StepError) → takes_no_more answer ≡ true → answer ≢ Err Memory
ended_not answer ended is = (let no : false ≡ true = sym (ap takes_no_more is) ∙ ended in cc)

before_found : (p : LinkPlace) (answers : List (Result InStep StepError)) → ((k : ℕ) (x : Result InStep StepError) → slice_get answers k ≡ Some x → has_taken x ≡ true) → AllFound (map (InMove p) answers)
before_found p [] on = tt
before_found p (x ∷ xs) on = (taken_not x (on 0 x refl), before_found p xs (λ k y at. on (suc k) y at))

until_found : (p : LinkPlace) (before : List (Result InStep StepError)) (last : Result InStep StepError) → ((k : ℕ) (x : Result InStep StepError) → slice_get before k ≡ Some x → has_taken x ≡ true) → takes_no_more last ≡ true → AllFound (map (InMove p) (before ++ last ∷ []))
until_found p [] last on end = (ended_not last end, tt)
until_found p (x ∷ xs) last on end = (taken_not x (on 0 x refl), until_found p xs last (λ k y at. on (suc k) y at) end)

in_found : (p : LinkPlace) (ms : List Move) → AllInSteps p ms → AllFound ms
in_found p ms (answers, until, is) = subst AllFound (sym (is ∙ ap (map (InMove p)) until.all)) (until_found p until.before until.last until.on until.end)

clocks_found : (p : MemberPlace) (answers : List (Result ClockStep StepError)) → AllFound (map (ClockMove p) answers)
clocks_found p [] = tt
clocks_found p (x ∷ xs) = (tt, clocks_found p xs)

clock_found : (p : MemberPlace) (ms : List Move) → AllClockSteps p ms → AllFound ms
clock_found p ms (answers, until, is) = subst AllFound (sym is) (clocks_found p answers)

outs_found : (p : LinkPlace) (answers : List (Result OutStep StepError)) → AllFound (map (OutMove p) answers)
outs_found p [] = tt
outs_found p (x ∷ xs) = (tt, outs_found p xs)

out_found : (p : LinkPlace) (ms : List Move) → AllOutSteps p ms → AllFound ms
out_found p ms (answers, until, is) = subst AllFound (sym is) (outs_found p answers)

-- ---- a far end, by its places

record Spot : Type 0 where
  rank : ℕ
  dif : ℕ
  place : ℕ
  end : End
  far : end.role ≡ Far

-- it is there
abbrev At : Spot → Tower → Type 0
At x t = HoldsAt (HasEnd x.end x.place) x.rank x.dif t

-- a step makes it
abbrev Is : Spot → Tower → Tower → Type 0
Is x t t' = MakesFarEnd x.rank x.dif x.place x.end t t'

quiet : (x : Spot) (S : Type 0) (t t' : Tower) → IsTower t' → Comes (HasEnd x.end x.place) Never t t' → Leads (At x) S t t'
quiet x S t t' v c = record { valid = v; back = λ h. inl (never_at (HasEnd x.end x.place) t t' x.rank x.dif c h) }

-- no end stands at a place of a DIF of which none is
none_by : (t : Tower) (r n i : ℕ) (d : Dif) → dif_at t r n ≡ Some d → end_at t r n i ≡ slice_get d.flows.journal.ends i
none_by t r n i d is = ap (option_and_then (λ (z : Dif). slice_get z.flows.journal.ends i)) is

-- the DIF of a place, by the tower up to its rank
came_dif : (t : Tower) (r n : ℕ) (e : End) (i : ℕ) (c : CameAt (ByAsk e i) r n t) → dif_at t r n ≡ Some c.dif
came_dif t r n e i c = ap (λ (o : Option Tower). option_and_then (λ (u : Tower). dif_of u n) o) c.is_rank ∙ c.is_dif

makes : (x : Spot) (t t' : Tower) → IsTower t' → Comes (HasEnd x.end x.place) (ByAsk x.end x.place) t t' → Leads (At x) (Is x t t') t t'
makes x t t' v comes = record {
  valid = v;
  back = λ h. elim (came_at (HasEnd x.end x.place) (ByAsk x.end x.place) t t' x.rank x.dif comes h) [
    | inl o ↦ inl o
    | inr c ↦ inr (record {
      none = none_by t x.rank x.dif x.place c.dif (came_dif t x.rank x.dif x.end x.place c) ∙ c.why.none;
      made = h.holds.end;
      stands = none_by t' x.rank x.dif x.place h.dif h.is_dif ∙ h.holds.stands;
      same = h.holds.same;
      rank = c.rank;
      is_rank = c.is_rank;
      below = c.below;
      is_below = c.is_below;
      dif = c.dif;
      is_dif = c.is_dif;
      registered = c.why.registered;
      takes = c.why.takes;
    })
  ];
}

-- ---- rounds

one_move : (x : Spot) (m : Move) (slots slots' : List Slot) (t t' : Tower) → FoundMemory m → IsTower t → Moves m slots t slots' t' → Leads (At x) (Is x t t') t t'
one_move x (InMove p result) slots slots' t t' found v d =
    let F = HasEnd x.end x.place in
    makes x t t' (move_goes (InMove p result) slots slots' t t' v d).valid
    (at_rank F (ByAsk x.end x.place) p.rank (InStepsAtTop p.dif p.node p.link result) _ t t' v (λ u u' h w c. steps.takes F (ends_stay x.end x.place x.far) (ByAsk x.end x.place) p.dif p.node p.link result (takes_ends x.end x.place result found) u u' w c) d.1)
one_move x (ClockMove p result) slots slots' t t' found v d =
    let F = HasEnd x.end x.place in
    quiet x _ t t' (move_goes (ClockMove p result) slots slots' t t' v d).valid
    (at_rank F Never p.rank (ClocksAtTop p.dif p.node result) _ t t' v (λ u u' h w c. steps.does_due F (ends_stay x.end x.place x.far) p.dif p.node result u u' c) d.1)
one_move x (OutMove p result) slots slots' t t' found v d =
    let F = HasEnd x.end x.place in
    quiet x _ t t' (move_goes (OutMove p result) slots slots' t t' v d).valid
    (at_rank F Never p.rank (OutStepsAtTop Anything slots slots' p.dif p.node p.link result) _ t t' v (λ u u' h w c. steps.lets_out F (ends_stay x.end x.place x.far) slots slots' p.dif p.node p.link result u u' c) d)

all_move : (x : Spot) (ms : List Move) (slots : List Slot) (t : Tower) (slots' : List Slot) (t' : Tower) → AllFound ms → IsTower t → (d : AllMove ms slots t slots' t') → Leads (At x) (SomeMove (Is x) ms slots t slots' t' d) t t'
all_move x [] slots t slots' t' found v d = leads_same (At x) ⊥ t t' v d.1
all_move x (m ∷ ms) slots t slots' t' found v (mid, between, one, others) =
    let first = one_move x m slots mid t between found.0 v one in
    leads_on (At x) (Is x t between) (SomeMove (Is x) ms mid between slots' t' others) t between t' first (all_move x ms mid between slots' t' found.1 first.valid others)

round : (x : Spot) (slots slots' : List Slot) (t t' : Tower) → IsTower t → (d : IsRound slots slots' t t') → Leads (At x) (SomeOfRound (Is x) slots slots' t t' d) t t'
round x slots slots' t t' v d =
    let taken = all_move x d.takes slots t slots d.taken (found_in_turn AllInSteps in_found (links_upward t) d.takes d.takes_are) v d.do_take in
    let clocked = all_move x d.dues slots d.taken slots d.clocked (found_in_turn AllClockSteps clock_found (members_upward d.taken) d.dues d.dues_are) taken.valid d.do_dues in
    let left = all_move x d.leaves slots d.clocked slots' t' (found_in_turn AllOutSteps out_found (links_downward d.clocked) d.leaves d.leaves_are) clocked.valid d.do_leave in
    leads_on (At x) _ _ t d.taken t' taken (leads_on (At x) _ _ d.taken d.clocked t' clocked left)

-- ---- ticks

tick : (x : Spot) → TicksLead (At x)
tick x t t' v d = quiet x ⊥ t t' (tick_goes NoneWritten (Ok tt) t t' v d).valid (steps.ticks (HasEnd x.end x.place) (ends_stay x.end x.place x.far) (Ok tt) t t' d)

-- ---- words and lines

taking : (x : Spot) (plan : Plan) (link : ℕ) (found : Result Site ℕ) (w : Run) (says : Option Answer) (w' : Run) → IsTower w.tower → IsTower w'.tower → AtSite found (CallsIn plan link w) w says w' → Leads (At x) (Is x w.tower w'.tower) w.tower w'.tower
taking x plan link (Err field) w says w' v v' d = leads_same (At x) _ w.tower w'.tower v (ap (λ (z : Run). z.tower) d.run)
taking x plan link (Ok site) w says w' v v' d =
    let F = HasEnd x.end x.place in
    makes x w.tower w'.tower v'
    (at_rank F (ByAsk x.end x.place) site.rank (InStepsAtTop site.fac site.node (link_of link) d.result) (d.result ≡ Err NoIpc) w.tower w'.tower v (λ u u' h z c. steps.takes F (ends_stay x.end x.place x.far) (ByAsk x.end x.place) site.fac site.node (link_of link) d.result (takes_ends x.end x.place d.result d.memory) u u' z c) d.does)

registering : (x : Spot) (name : List ℕ) (found : Result Site ℕ) (w : Run) (says : Option Answer) (w' : Run) → IsTower w.tower → AtSite found (CallsRegister name w) w says w' → Comes (HasEnd x.end x.place) Never w.tower w'.tower
registering x name found w says w' v d =
    let F = HasEnd x.end x.place in
    named.at_site F found (CallsRegister name w) w says w' (λ site c.
    named.at_app F site.rank (λ u. is_ipc name) (RegistersAtTop site.fac site.node name) c.result w.tower w'.tower v (λ y u u' z e. registers_ends x.end x.place x.far site.fac site.node name y u u' e) c.does) d

word : (x : Spot) (plan : Plan) (line : ℕ) (event : Event) (s : Stage) (ns : List Note) (s' : Stage) → IsTower s.run.tower → (d : Acts plan line event s ns s') → Leads (At x) (SomeOfWord (Is x) plan line event s ns s' d) s.run.tower s'.run.tower
word x plan line (events.Tick count) s ns s' v d = ticking (At x) (Is x) (round x) (tick x) (nat_lt 10000000 (now_of s.run.tower + count)) plan line count s ns s' v d
word x plan line events.Round s ns s' v d = round x s.shelf s'.shelf s.run.tower s'.run.tower v d.does
word x plan line (events.In dif node link) s ns s' v d = taking x plan link (dif_site_at plan dif node) s.run d.0.says s'.run v (words plan line (events.In dif node link) s.run ns s'.run v d.0).valid d.0.does
word x plan line (events.Out dif node link) s ns s' v d =
    quiet x _ s.run.tower s'.run.tower (lets plan line dif node link s ns s' v d).valid (named.letting (HasEnd x.end x.place) (ends_stay x.end x.place x.far) plan (dif_site_at plan dif node) link s d.says s' v d.does)
word x plan line (events.Retire policy) s ns s' v d = leads_same (At x) ⊥ s.run.tower s'.run.tower v (ap (λ (w : Run). w.tower) d.run)
word x plan line (events.Register name node app) s ns s' v d =
    quiet x _ s.run.tower s'.run.tower (words plan line (events.Register name node app) s.run ns s'.run v d.0).valid (registering x app (site_at plan 1 name node) s.run d.0.says s'.run v d.0.does)
word x plan line (events.Publish dif node fac) s ns s' v d =
    quiet x _ s.run.tower s'.run.tower (words plan line (events.Publish dif node fac) s.run ns s'.run v d.0).valid (named.publishing (HasEnd x.end x.place) plan dif node fac s.run d.0.says s'.run (ipcs_make_none x.end x.place x.far) v d.0.does)
word x plan line event s ns s' v d =
    quiet x _ s.run.tower s'.run.tower (words plan line event s.run ns s'.run v d.0).valid (named.words (HasEnd x.end x.place) (ends_stay x.end x.place x.far) plan line event s.run ns s'.run v tt d.0)

-- ---- the law

end_in : (o : Option Dif) (i : ℕ) (e : End) → option_and_then (λ (d : Dif). slice_get d.flows.journal.ends i) o ≡ Some e → (d : Dif) × (o ≡ Some d) × (slice_get d.flows.journal.ends i ≡ Some e)
end_in None i e h = cc
end_in (Some d) i e h = (d, refl, h)

stands_there : (t : Tower) (r n i : ℕ) (e : End) → end_at t r n i ≡ Some e → HoldsAt (HasEnd e i) r n t
stands_there t r n i e h = (let x = end_in (dif_at t r n) i e h in record { dif = x.0; is_dif = x.1; holds = record { end = e; stands = x.2; same = one_refl e } })

none_stood : (t : Tower) (r n i : ℕ) (e : End) → end_at t r n i ≡ None → HoldsAt (HasEnd e i) r n t → ⊥
none_stood t r n i e none h = (let no : None ≡ Some h.holds.end = sym none ∙ none_by t r n i h.dif h.is_dif ∙ h.holds.stands in cc)

pub far_ends_are_asked_for : FarEndsAreAskedFor
far_ends_are_asked_for plan shelf start lines ns s o d r n i e h far none =
    let x : Spot = record { rank = r; dif = n; place = i; end = e; far = far } in
    elim ((runs (At x) (Is x) (round x) (word x) plan 1 start lines ns s o.stands d).back (stands_there s.run.tower r n i e h)) [
      | inl old ↦ absurd (none_stood start.run.tower r n i e none old)
      | inr step ↦ step
    ]
