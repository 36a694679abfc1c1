-- A clock step serves the link that goes first, or the flows.
use Rattle.std.proofs.Common.{◌≡◌, ◌∙◌, ℕ, Bool, List, Option, Some, None, Result, Ok, Err, refl, sym, ap, subst, inl, inr}
use Rattle.std.specs.Prelude.{nat_lt}
use Rattle.rina_base.specs.declared.number.Num.{Num}
use Rattle.rina_base.specs.declared.number.Port.{Port}
use Rattle.rina_iface.specs.Seen.{Seen}
use Rattle.rina_law.specs.Direction.{Direction}
use Rattle.rina_data.specs.declared.step.ClockStep.{ClockStep}
use Rattle.rina_data.specs.declared.step.ClockStep.TheVariants as step
use Rattle.rina_data.specs.declared.step.StepError.{StepError}
use Rattle.rina_data.specs.declared.step.StepError.TheVariants as why
use Rattle.rina_data.specs.Configs.{config_of}
use Rattle.rina_dif_law.specs.Dif.{DifSeen}
use Rattle.rina_dif_law.specs.Sending.{home}
use Rattle.rina_flows.specs.declared.due.Item.{Item}
use Rattle.rina_flows.specs.declared.due.Item.TheVariants.{Ack, Again, GiveUp, Gone}
use Rattle.rina_dif.specs.declared.dif.Dif.{Dif}
use Rattle.rina_dif.specs.declared.links_due.NextLink.{NextLink}
use Rattle.rina_dif.specs.FlowEnds.{ManagesStep}
use Rattle.rina_dif.specs.Clocking.{FindsAskFirst, FindsLinkFirst, IsLinkFirst, IsTurn, NoAskFirst, NoFlowEnds, NoLinkEnds, NoLinkFirst, NothingEnds, ServesHere, StepsFlow, StepsFlowHere, TellsEnding, item_of}
use Rattle.rina_dif.specs.Holding.{Holds, LinksStand}
use Rattle.rina_dif.specs.LinkDue.{IsLinkTurn, rank_of}
use Rattle.rina_dif.specs.LinkSteps.{DoesLink}
use Rattle.rina_dif.specs.Shown.{seen_of}
use Rattle.rina_dif.specs.WaitingAsks.{NoneLate, TimesOut}

same_some : {X : Type 0} (o : Option X) (a b : X) → o ≡ Some a → o ≡ Some b → a ≡ b
same_some o a b h g = cc

-- The flows

no_link_first : (d : Dif) (lines links : List Direction) (i node : ℕ) (done : ClockStep) (new : DifSeen) (lines' : List Direction) → FindsLinkFirst d lines links i node None → StepsFlow d lines node done new lines' → NoLinkFirst (item_of done) d links i
no_link_first d lines links i node step.Idle new lines' none s = none None s.0
no_link_first d lines links i node (step.Gone cep) new lines' none s = none (Some (record { item = Gone; turn = record { place = s.at; cep = cep } })) s.turn
no_link_first d lines links i node (step.GaveUp num) new lines' none s = none (Some (record { item = GiveUp; turn = record { place = s.at; cep = num.cep } })) s.turn
no_link_first d lines links i node (step.Ack cep) new lines' none s = none (Some (record { item = Ack; turn = record { place = s.at; cep = cep } })) s.turn
no_link_first d lines links i node (step.Again num) new lines' none s = none (Some (record { item = Again; turn = record { place = s.at; cep = num.cep } })) s.turn
no_link_first d lines links i node (step.LinkLost link) new lines' none s = absurd s
no_link_first d lines links i node (step.LinkNew link) new lines' none s = absurd s
no_link_first d lines links i node (step.Timeout port) new lines' none s = absurd s
no_link_first d lines links i node (step.Message link) new lines' none s = absurd s

-- no ask goes first

late_none : (d : Dif) (lines links : List Direction) (i node : ℕ) → FindsAskFirst d lines links i node None → NothingEnds d lines links i node → NoneLate d node
late_none d lines links i node (inl none) ends = none
late_none d lines links i node (inr some) ends = absurd (some ends)

flow_no_ask : (d : Dif) (lines links : List Direction) (i node : ℕ) (done : ClockStep) (new : DifSeen) (lines' : List Direction) → FindsAskFirst d lines links i node None → NoLinkFirst (item_of done) d links i → StepsFlow d lines node done new lines' → NoAskFirst (item_of done) d node
flow_no_ask d lines links i node step.Idle new lines' none first s = late_none d lines links i node none ((s.0.gone, s.0.give_up), (first.0.0, first.0.1))
flow_no_ask d lines links i node (step.Gone cep) new lines' none first s = tt
flow_no_ask d lines links i node (step.GaveUp num) new lines' none first s = tt
flow_no_ask d lines links i node (step.Ack cep) new lines' none first s = late_none d lines links i node none ((s.turn.before.0, s.turn.before.1), (first.0.0, first.0.1))
flow_no_ask d lines links i node (step.Again num) new lines' none first s = late_none d lines links i node none ((s.turn.before.0, s.turn.before.1), (first.0.0, first.0.1))
flow_no_ask d lines links i node (step.LinkLost link) new lines' none first s = absurd s
flow_no_ask d lines links i node (step.LinkNew link) new lines' none first s = absurd s
flow_no_ask d lines links i node (step.Timeout port) new lines' none first s = absurd s
flow_no_ask d lines links i node (step.Message link) new lines' none first s = absurd s

link_no_ask : (item : Item) (d : Dif) (lines links : List Direction) (i node place number : ℕ) → FindsAskFirst d lines links i node None → IsLinkFirst item d lines links i node place number → NoAskFirst (Some item) d node
link_no_ask Gone d lines links i node place number none first = tt
link_no_ask GiveUp d lines links i node place number none first = tt
link_no_ask Ack d lines links i node place number none first = late_none d lines links i node none ((first.flows.0, first.flows.1), (first.turn.before.0, first.turn.before.1))
link_no_ask Again d lines links i node place number none first = late_none d lines links i node none ((first.flows.0, first.flows.1), (first.turn.before.0, first.turn.before.1))

-- no link goes first
pub flow_serves : (d : Dif) (lines : List Direction) (below : Seen) (i node : ℕ) (r : Result ClockStep StepError) (d' : Dif) → home node (config_of d.settings).members ≡ Some i → d'.connections ≡ d.connections → ((links : LinksStand d below) → FindsLinkFirst d lines links.lines i node None) → ((links : LinksStand d below) → FindsAskFirst d lines links.lines i node None) → LinksStand d below → StepsFlowHere d lines below node r d' → ServesHere d lines below node r d' below
flow_serves d lines below i node (Ok done) d' here same none no_ask stand s = (
  record {
    lines' = s.lines';
    does = inl (record {
      does = s.does;
      same = same;
      same_below = refl;
      first = λ k there links. subst (λ (n : ℕ). NoLinkFirst (item_of done) d links.lines n) (same_some (home node (config_of d.settings).members) i k here there) (no_link_first d lines links.lines i node done (seen_of d') s.lines' (none links) s.does);
      no_ask = flow_no_ask d lines stand.lines i node done (seen_of d') s.lines' (no_ask stand) (no_link_first d lines stand.lines i node done (seen_of d') s.lines' (none stand) s.does) s.does;
    });
    holds = s.holds;
  },
  tt,
)
flow_serves d lines below i node (Err why.Memory) d' here same none no_ask stand s = (s, refl)
flow_serves d lines below i node (Err why.NoIpc) d' here same none no_ask stand s = absurd s
flow_serves d lines below i node (Err why.NoLink) d' here same none no_ask stand s = absurd s
flow_serves d lines below i node (Err (why.CountSpent need left)) d' here same none no_ask stand s = absurd s

-- The link that goes first

-- what is done there, and told
abbrev pub DoesNext : Dif → Seen → ℕ → NextLink → Dif → Seen → ClockStep → List Direction → Type 0
DoesNext d below i next d' below' done links = (item_of done ≡ Some next.item) × DoesLink d links below i next.turn.place done (seen_of d') d'.connections.flows below'

-- nothing but the IPC processes and the management connections changes
abbrev pub IsOnLinks : Dif → Dif → Type 0
IsOnLinks d d' = d' ≡ record d { processes = d'.processes; connections = record d.connections { flows = d'.connections.flows } }

pub link_serves : (d : Dif) (lines : List Direction) (below below' : Seen) (i node : ℕ) (next : NextLink) (done : ClockStep) (d' : Dif) → home node (config_of d.settings).members ≡ Some i → IsOnLinks d d' → ((links : LinksStand d below) → IsLinkFirst next.item d lines links.lines i node next.turn.place next.turn.number) → ((links : LinksStand d below) → FindsAskFirst d lines links.lines i node None) → ((links : LinksStand d below) → DoesNext d below i next d' below' done links.lines) × Holds d' lines below' → ServesHere d lines below node (Ok done) d' below'
link_serves d lines below below' i node next done d' here only first no_ask s =
    let failed : d'.failed ≡ d.failed = ap (λ (z : Dif). z.failed) only in (
      record {
        lines' = lines;
        does = inr (inl (
          record {
            i = i;
            at_home = here;
            only = only ∙ ap (λ b. record d { processes = d'.processes; connections = record d.connections { flows = d'.connections.flows }; failed = b }) (sym failed);
            does = λ links. (let x = s.0 links in record { item = next.item; told = x.0; no_ask = link_no_ask next.item d lines links.lines i node next.turn.place next.turn.number (no_ask links) (first links); place = next.turn.place; number = next.turn.number; first = first links; does = x.1 });
          },
          refl,
        ));
        holds = s.1;
      },
      tt,
    )

link_manages_done : (d : Dif) (below below' : Seen) (i node place : ℕ) (links : List Direction) (done : ClockStep) (d' : Dif) → IsOnLinks d d' → DoesLink d links below i place done (seen_of d') d'.connections.flows below' → ManagesStep (Ok done) (Some i) d below node d'.managements
link_manages_done d below below' i node place links (step.Gone cep) d' only does = ap (λ (z : Dif). z.managements) only
link_manages_done d below below' i node place links (step.Ack cep) d' only does = ap (λ (z : Dif). z.managements) only
link_manages_done d below below' i node place links (step.Again num) d' only does = ap (λ (z : Dif). z.managements) only
link_manages_done d below below' i node place links step.Idle d' only does = absurd does
link_manages_done d below below' i node place links (step.GaveUp num) d' only does = inr (ap (λ (n : Num). n.cep) does.num_is, ap (λ (z : Dif). z.managements) only)
link_manages_done d below below' i node place links (step.LinkLost link) d' only does = absurd does
link_manages_done d below below' i node place links (step.LinkNew link) d' only does = absurd does
link_manages_done d below below' i node place links (step.Timeout port) d' only does = absurd does
link_manages_done d below below' i node place links (step.Message link) d' only does = absurd does

pub link_manages : (d : Dif) (below below' : Seen) (lines : List Direction) (i node : ℕ) (next : NextLink) (done : ClockStep) (d' : Dif) → Holds d lines below → IsOnLinks d d' → ((links : LinksStand d below) → DoesNext d below i next d' below' done links.lines) × Holds d' lines below' → ManagesStep (Ok done) (Some i) d below node d'.managements
link_manages d below below' lines i node next done d' h only s = link_manages_done d below below' i node next.turn.place h.connected.lines done d' only (s.0 h.connected).1

-- The ask that goes first

pub ask_serves : (d : Dif) (lines : List Direction) (below : Seen) (i node : ℕ) (port : Port) (d' : Dif) → home node (config_of d.settings).members ≡ Some i → d' ≡ record d { flows = d'.flows; ids = d'.ids; asks = d'.asks } → ((links : LinksStand d below) → NothingEnds d lines links.lines i node) → TimesOut d node port d' → Holds d' lines below → ServesHere d lines below node (Ok (step.Timeout port)) d' below
ask_serves d lines below i node port d' here only first times h =
    let failed : d'.failed ≡ d.failed = ap (λ (z : Dif). z.failed) only in (
      record {
        lines' = lines;
        does = inr (inr (
          record {
            port = port;
            told = refl;
            i = i;
            at_home = here;
            first = first;
            times_out = times;
            only = only ∙ ap (λ (b : Bool). record d { flows = d'.flows; ids = d'.ids; asks = d'.asks; failed = b }) (sym failed);
          },
          refl,
          refl,
        ));
        holds = h;
      },
      tt,
    )

-- What goes before asks

pub links_end : (item : Item) (d : Dif) (links : List Direction) (i place number a b : ℕ) → IsLinkTurn item d links i place number → a ≡ rank_of item → b ≡ rank_of Ack → TellsEnding (NoLinkEnds d links i) (nat_lt a b)
links_end item d links i place number a b turn is_a is_b = subst (λ (n : ℕ). TellsEnding (NoLinkEnds d links i) (nat_lt n b)) (sym is_a) (subst (λ (n : ℕ). TellsEnding (NoLinkEnds d links i) (nat_lt (rank_of item) n)) (sym is_b) (go item turn))
  where
    go : (item : Item) → IsLinkTurn item d links i place number → TellsEnding (NoLinkEnds d links i) (nat_lt (rank_of item) 2)
    go Gone turn = λ none. none.0 place number turn.first.due
    go GiveUp turn = λ none. none.1 place number turn.first.due
    go Ack turn = turn.before
    go Again turn = (turn.before.0, turn.before.1)

pub flows_end : (item : Item) (d : Dif) (lines : List Direction) (node at cep a b : ℕ) → IsTurn item d lines node at cep → a ≡ rank_of item → b ≡ rank_of Ack → TellsEnding (NoFlowEnds d lines node) (nat_lt a b)
flows_end item d lines node at cep a b turn is_a is_b = subst (λ (n : ℕ). TellsEnding (NoFlowEnds d lines node) (nat_lt n b)) (sym is_a) (subst (λ (n : ℕ). TellsEnding (NoFlowEnds d lines node) (nat_lt (rank_of item) n)) (sym is_b) (go item turn))
  where
    go : (item : Item) → IsTurn item d lines node at cep → TellsEnding (NoFlowEnds d lines node) (nat_lt (rank_of item) 2)
    go Gone turn = λ none. none.0 at turn.first.due
    go GiveUp turn = λ none. none.1 at turn.first.due
    go Ack turn = turn.before
    go Again turn = (turn.before.0, turn.before.1)

-- By its turn

pub turn_is : (item : Item) (d : Dif) (i : ℕ) (next : NextLink) → next.item ≡ item → ((below : Seen) (links : LinksStand d below) → IsLinkTurn next.item d links.lines i next.turn.place next.turn.number) → (below : Seen) (links : LinksStand d below) → IsLinkTurn item d links.lines i next.turn.place next.turn.number
turn_is item d i next is turn below links = subst (λ (z : Item). IsLinkTurn z d links.lines i next.turn.place next.turn.number) is (turn below links)

-- an allocation failed
pub link_serves_none : (d : Dif) (lines : List Direction) (below below' : Seen) (node : ℕ) (r : Result ClockStep StepError) (e : StepError) (d' : Dif) → e ≡ why.Memory → r ≡ Err e → (seen_of d' ≡ seen_of d) × Holds d' lines below' → below' ≡ below → ServesHere d lines below node r d' below'
link_serves_none d lines below below' node r e d' is err same lower = subst (λ (v : Result ClockStep StepError). ServesHere d lines below node v d' below') (sym (err ∙ ap (λ (z : StepError). Err z) is)) (same, lower)
