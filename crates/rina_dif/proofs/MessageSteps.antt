-- A clock step offers a message where nothing else is due.
use Rattle.std.proofs.Common.{◌≡◌, ◌∙◌, ℕ, ◌<◌, Bool, List, length, Option, Some, None, Result, Ok, Err, OnErr, refl, sym, ap, subst, arith, inl, inr}
use Rattle.std.proofs.lemmas.Option.{slice_get_within}
use Rattle.rina_base.specs.declared.number.Port.{Port}
use Rattle.rina_iface.specs.declared.error.FreeError.{FreeError}
use Rattle.rina_iface.specs.Seen.{Seen}
use Rattle.rina_law.specs.Direction.{Direction}
use Rattle.rina_data.specs.declared.step.ClockStep.{ClockStep}
use Rattle.rina_data.specs.declared.step.ClockStep.TheVariants as step
use Rattle.rina_data.specs.declared.step.StepError.{StepError}
use Rattle.rina_data.specs.declared.step.StepError.TheVariants as why
use Rattle.rina_data.specs.Configs.{config_of}
use Rattle.rina_data.proofs.Finding.{there}
use Rattle.rina_dif_law.specs.Sending.{home}
use Rattle.rina_flows.specs.declared.due.Item.{Item}
use Rattle.rina_dif.specs.declared.dif.Dif.{Dif}
use Rattle.rina_dif.specs.FlowEnds.{ManagesStep}
use Rattle.rina_dif.specs.Clocking.{IsStill, Serves, ServesAnyHere, ServesHere, item_of}
use Rattle.rina_dif.specs.Holding.{Holds, LinksStand, Stands}
use Rattle.rina_dif.specs.Lower.{FreesBelow}
use Rattle.rina_dif.specs.MessageSteps.{IfIdle, NoMessageAt}
use Rattle.rina_dif.specs.Messaging.{IsMessageDue, OffersAmong}
use Rattle.rina_dif.specs.Shown.{seen_of}
use Rattle.rina_dif.specs.Telling.{TellShort}
use Rattle.rina_dif.proofs.Leaves.{has_process}

same_some : {X : Type 0} (o : Option X) (a b : X) → o ≡ Some a → o ≡ Some b → a ≡ b
same_some o a b h g = cc

-- What the members tell

-- the members of a DIF that stands tell short messages
pub tell_short : (d : Dif) (below : Seen) → Stands d below → TellShort d.managements
tell_short d below st k g is =
    let within = slice_get_within d.managements k g is in
    let aligned = st.1.managed.aligned in
    let lt : k < length d.settings.members = omega (arith, within, aligned) in
    let m = there d.settings.members k lt in
    let p = has_process d below k st lt in
    (st.1.managed.each k m.0 p.0 g m.1 p.1 is).tells

-- Where nothing else is due

never_told : (item : Item) → None ≡ Some item → ⊥
never_told item e = absurd cc

-- what a link does is something
pub told_none_idle : (done : ClockStep) (item : Item) (P : Type 0) → item_of done ≡ Some item → IfIdle done P
told_none_idle step.Idle item P told = absurd (never_told item told)
told_none_idle (step.Gone cep) item P told = tt
told_none_idle (step.GaveUp num) item P told = tt
told_none_idle (step.Ack cep) item P told = tt
told_none_idle (step.Again num) item P told = tt
told_none_idle (step.LinkLost link) item P told = tt
told_none_idle (step.LinkNew link) item P told = tt
told_none_idle (step.Timeout port) item P told = tt
told_none_idle (step.Message link) item P told = tt

not_idle : (done : ClockStep) (P : Type 0) → (done ≡ step.Idle → ⊥) → IfIdle done P
not_idle step.Idle P other = absurd (other refl)
not_idle (step.Gone cep) P other = tt
not_idle (step.GaveUp num) P other = tt
not_idle (step.Ack cep) P other = tt
not_idle (step.Again num) P other = tt
not_idle (step.LinkLost link) P other = tt
not_idle (step.LinkNew link) P other = tt
not_idle (step.Timeout port) P other = tt
not_idle (step.Message link) P other = tt

-- where nothing was due, what holds then holds
pub idle_same : (done : ClockStep) (P : Type 0) → done ≡ step.Idle → IfIdle done P → P
idle_same done P is h = subst (λ (z : ClockStep). IfIdle z P) is h

-- and nothing changes below
pub idle_below : (same : Type 0) (frees : Port → Result (Unit {0}) FreeError → Type 0) (done : ClockStep) → done ≡ step.Idle → FreesBelow same frees (Ok done) → same
idle_below same frees done is h = subst (λ (z : ClockStep). FreesBelow same frees (Ok z)) is h

still_so : (d : Dif) (lines : List Direction) (below : Seen) (node : ℕ) (d1 : Dif) (lines' : List Direction) (below' : Seen) → LinksStand d below → Serves d lines below node step.Idle d1 lines' below' → IsStill d lines below node
still_so d lines below node d1 lines' below' links (inl flow) = record { flows = flow.does.0; links = flow.first; asks = flow.no_ask }
still_so d lines below node d1 lines' below' links (inr (inl link)) = (let x = link.0.does links in absurd (never_told x.item x.told))
still_so d lines below node d1 lines' below' links (inr (inr ask)) = (let told = ask.0.told in absurd cc)

-- Something else is done

pub serves_more : (d : Dif) (lines : List Direction) (below : Seen) (node : ℕ) (done : ClockStep) (d' : Dif) (below' : Seen) → (done ≡ step.Idle → ⊥) → ServesHere d lines below node (Ok done) d' below' → ServesAnyHere d lines below node (Ok done) d' below'
serves_more d lines below node done d' below' other s = (record { lines' = s.0.lines'; does = inl (s.0.does, not_idle done (NoMessageAt d below node) other); holds = s.0.holds }, tt)

-- A message is offered, or none is due

-- nothing but an IPC process, the management connections and the managements changes
abbrev pub IsOnMessages : Dif → Dif → Type 0
IsOnMessages d d' = d' ≡ record d { processes = d'.processes; connections = record d.connections { flows = d'.connections.flows }; managements = d'.managements }

pub message_serves : (d : Dif) (lines : List Direction) (below below' : Seen) (i node number : ℕ) (d1 d' : Dif) → home node (config_of d.settings).members ≡ Some i → d1 ≡ d → below' ≡ below → IsOnMessages d1 d' → Holds d lines below → ServesHere d lines below node (Ok step.Idle) d1 below' → OffersAmong d1 lines below i (Ok (Some number)) d' → ServesAnyHere d lines below node (Ok (step.Message number)) d' below'
message_serves d lines below below' i node number d1 d' here same same_below only h s offers =
    let only' : IsOnMessages d d' = subst (λ (z : Dif). IsOnMessages z d') same only in
    let o = subst (λ (z : Dif). OffersAmong z lines below i (Ok (Some number)) d') same offers in
    let failed : d'.failed ≡ d.failed = ap (λ (z : Dif). z.failed) only' in (
      record {
        lines' = lines;
        does = inr (
          record {
            number = number;
            told = refl;
            still = still_so d lines below node d1 s.0.lines' below' h.connected s.0.does;
            sends = record {
              i = i;
              at_home = here;
              only = only' ∙ ap (λ (b : Bool). record d { processes = d'.processes; connections = record d.connections { flows = d'.connections.flows }; managements = d'.managements; failed = b }) (sym failed);
              offers = o.0;
            };
          },
          refl,
          same_below,
        );
        holds = subst (Holds d' lines) (sym same_below) o.1;
      },
      tt,
    )

pub none_serves : (d : Dif) (lines : List Direction) (below below' : Seen) (i node : ℕ) (d1 d' : Dif) → home node (config_of d.settings).members ≡ Some i → d1 ≡ d → ServesHere d lines below node (Ok step.Idle) d1 below' → OffersAmong d1 lines below i (Ok None) d' → ServesAnyHere d lines below node (Ok step.Idle) d' below'
none_serves d lines below below' i node d1 d' here same s offers =
    let o = subst (λ (z : Dif). OffersAmong z lines below i (Ok None) d') same offers in
    let none : NoMessageAt d below node = λ k at_home links place number due. (let place_is = same_some (home node (config_of d.settings).members) i k here at_home in o.0 links place number (subst (λ (n : ℕ). IsMessageDue d below links.lines n place number) (sym place_is) due)) in
    let stays : d1 ≡ d' = same ∙ sym o.1 in
    subst (λ (z : Dif). ServesAnyHere d lines below node (Ok step.Idle) z below') stays (record { lines' = s.0.lines'; does = inl (s.0.does, none); holds = s.0.holds }, tt)

-- memory was not found for the message, and nothing changes
pub serves_none : (d : Dif) (lines : List Direction) (below below' : Seen) (node : ℕ) (r : Result ClockStep StepError) (e : StepError) (d' : Dif) → e ≡ why.Memory → r ≡ Err e → d' ≡ d → below' ≡ below → Holds d lines below → ServesAnyHere d lines below node r d' below'
serves_none d lines below below' node r e d' is err same low h =
    let holds : Holds d' lines below' = subst (Holds d' lines) (sym low) (subst (λ (z : Dif). Holds z lines below) (sym same) h) in
    subst (λ (v : Result ClockStep StepError). ServesAnyHere d lines below node v d' below') (sym (err ∙ ap (λ (z : StepError). Err z) is)) ((ap seen_of same, holds), low)

pub stays_none : (d d' : Dif) (r : Result ClockStep StepError) (e : StepError) → r ≡ Err e → d' ≡ d → OnErr r (d'.connections ≡ d.connections)
stays_none d d' r e err same = subst (λ (v : Result ClockStep StepError). OnErr v (d'.connections ≡ d.connections)) (sym err) (ap (λ (z : Dif). z.connections) same)

no_change : (d d' : Dif) (below : Seen) (at : Option ℕ) (node : ℕ) (e : StepError) → d' ≡ d → ManagesStep (Err e) at d below node d'.managements
no_change d d' below (Some at) node why.Memory same = inl (ap (λ (z : Dif). z.managements) same)
no_change d d' below None node why.Memory same = ap (λ (z : Dif). z.managements) same
no_change d d' below at node why.NoIpc same = ap (λ (z : Dif). z.managements) same
no_change d d' below at node why.NoLink same = ap (λ (z : Dif). z.managements) same
no_change d d' below at node (why.CountSpent need left) same = ap (λ (z : Dif). z.managements) same

pub manages_none : (d d' : Dif) (below : Seen) (at : Option ℕ) (node : ℕ) (r : Result ClockStep StepError) (e : StepError) → r ≡ Err e → d' ≡ d → ManagesStep r at d below node d'.managements
manages_none d d' below at node r e err same = subst (λ (v : Result ClockStep StepError). ManagesStep v at d below node d'.managements) (sym err) (no_change d d' below at node e same)

-- and the management of the member that sent it has it no more
pub message_manages : (d : Dif) (lines : List Direction) (below : Seen) (i node number : ℕ) (d1 d' : Dif) → d1 ≡ d → Holds d lines below → OffersAmong d1 lines below i (Ok (Some number)) d' → ManagesStep (Ok (step.Message number)) (Some i) d below node d'.managements
message_manages d lines below i node number d1 d' same h offers =
    let o = subst (λ (z : Dif). OffersAmong z lines below i (Ok (Some number)) d') same offers in
    (o.0 h.connected).offers.managements
