-- A management connection gives a number up: the flow below of its link is freed.
use Rattle.std.proofs.Common.{◌≡◌, ◌∙◌, ℕ, ◌≤◌, List, length, option_map, arith, slice_get, Option, Some, None, Result, Ok, Err, refl, sym, ap, subst, inl}
use Rattle.std.specs.Prelude.{IsSome, OnErr}
use Rattle.std.proofs.lemmas.Option.{slice_get_within}
use Rattle.rina_base.specs.declared.number.Num.{Num}
use Rattle.rina_iface.specs.Journal.{AreKept}
use Rattle.rina_iface.specs.Later.{IsLater}
use Rattle.rina_data.specs.declared.step.ClockStep.{ClockStep}
use Rattle.rina_data.specs.declared.step.ClockStep.TheVariants as step
use Rattle.rina_data.specs.declared.step.StepError.{StepError}
use Rattle.rina_data.specs.declared.step.StepError.TheVariants as why
use Rattle.rina_base.specs.declared.number.Port.{Port}
use Rattle.rina_iface.specs.declared.error.FreeError.{FreeError}
use Rattle.rina_flows.specs.declared.due.Item.{Item}
use Rattle.rina_dif.specs.declared.links_due.NextLink.{NextLink}
use Rattle.rina_dif.specs.Clocking.{item_of}
use Rattle.rina_dif.specs.Holding.{Holds}
use Rattle.rina_dif.specs.LinkSteps.{DoesLink, GivesUpLink}
use Rattle.rina_dif.specs.Lower.{FreesBelow, FreesNone, FreesOver}
use Rattle.rina_dif.specs.Shown.{seen_of}
use Rattle.rina_dif.proofs.FlowIds.{TellsFlow}
use Rattle.rina_dif.proofs.FreedBelow.{holds_freed}
use Rattle.std.proofs.lemmas.Bool.{false≢true}
use Rattle.rina_conn.specs.declared.conn.Conn.{Conn}
use Rattle.rina_conn.specs.Carrying.{carry}
use Rattle.rina_conn.specs.Sending.{TellsGivenUp}
use Rattle.rina_dtcp.specs.declared.sent.GaveUp.{GaveUp}
use Rattle.rina_dtcp.specs.Rows.{gave_up_of}
use Rattle.rina_iface.specs.Seen.{Seen, end_of}
use Rattle.rina_law.specs.Constants.{Constants}
use Rattle.rina_law.specs.Direction.{Direction}
use Rattle.rina_law.specs.Sender.{Sender, given_up}
use Rattle.rina_data.specs.Configs.{Config, config_of}
use Rattle.rina_flows.specs.declared.due.Item.TheVariants.{GiveUp}
use Rattle.rina_flows.specs.Calls.{Tells}
use Rattle.rina_flows.specs.Tied.{outward}
use Rattle.rina_flows.proofs.Timed.{give_up_due}
use Rattle.rina_channel.specs.declared.channel.Attachment.{Attachment}
use Rattle.rina_channel.specs.declared.channel.Channel.{Channel}
use Rattle.rina_channel.specs.Names.{link_config}
use Rattle.rina_channel.proofs.Below.{end_by, on_link}
use Rattle.rina_dif.specs.declared.dif.Dif.{Dif}
use Rattle.rina_dif.specs.Connected.{channels_seen}
use Rattle.rina_dif.specs.Holding.{LinksStand}
use Rattle.rina_dif.specs.LinkDue.{IsLinkDue}

pub same_some : {X : Type 0} (o : Option X) (a b : X) → o ≡ Some a → o ≡ Some b → a ≡ b
same_some o a b h g = cc

some_mapped : {X Y : Type 0} (f : X → Y) (o : Option X) (y : Y) → Some y ≡ option_map f o → (x : X) × (o ≡ Some x) × (y ≡ f x)
some_mapped f None y e = absurd cc
some_mapped f (Some x) y e = (x, refl, cc)

-- what is due is told
pub none_given_up : (d : Dif) (below : Seen) (i place number : ℕ) (links : LinksStand d below) → IsLinkDue GiveUp d links.lines i place number → Tells (λ k. TellsGivenUp d.clock k.sending None) place d.connections.flows.conns → ⊥
none_given_up d below i place number links due tells =
    false≢true ((give_up_due d.clock place d.connections.flows.journal.ends d.connections.flows.conns None tells (link_config (config_of d.settings) d.connections.manage) links.lines due.here.end links.standing.journal links.tied due.here.is_end due.here.allocated).1 due.due)

-- by its number
pub given_up_number : (d : Dif) (below : Seen) (i place number : ℕ) (conn : Conn) (by : GaveUp) (links : LinksStand d below) (due : IsLinkDue GiveUp d links.lines i place number) → slice_get d.connections.flows.conns place ≡ Some conn → TellsGivenUp d.clock conn.sending (Some by) → by.num.seq ≡ due.due.number
given_up_number d below i place number conn by links due is tells =
    let g : Config = link_config (config_of d.settings) d.connections.manage in
    let x = due.due in
    let same : conn ≡ x.conn = same_some (slice_get d.connections.flows.conns place) conn x.conn is x.is_conn in
    let sends = links.tied.sends place x.conn x.line x.is_conn x.is_line in
    let c : Constants = outward g x.conn in
    let m : Sender = x.line.line.sender in
    let told = subst (λ (k : Conn). TellsGivenUp d.clock k.sending (Some by)) same tells c m sends.sender in
    let found = some_mapped (gave_up_of (carry x.conn.sending.form.peer x.conn.sending.form.cube.id) d.clock m) (given_up c d.clock m) by told in
    let now : given_up c d.clock m ≡ Some x.number = ap (λ k. given_up c k m) (sym sends.clock) ∙ x.is_due in
    ap (λ (z : GaveUp). z.num.seq) found.2 ∙ same_some (given_up c d.clock m) found.0 x.number found.1 now

-- the port below of its link was drawn
pub port_there : (d : Dif) (below : Seen) (place : ℕ) (channel : Channel) (a : Attachment) → LinksStand d below → slice_get d.connections.channels place ≡ Some channel → channel.link ≡ Some a → IsSome (end_of below a.port)
port_there d below place channel a links stands attached =
    let end = end_by (channels_seen (config_of d.settings) d.clock d.connections) below place channel a.port (links.standing.channels.joined place channel stands) (on_link channel a attached) in
    subst (λ o. IsSome o) (sym end.1) refl

-- and it has a link
pub no_link : (d : Dif) (below : Seen) (i place number : ℕ) (channel : Channel) (links : LinksStand d below) → IsLinkDue GiveUp d links.lines i place number → slice_get d.connections.channels place ≡ Some channel → channel.link ≡ None → ⊥
no_link d below i place number channel links due stands none =
    let same : due.here.channel ≡ channel = same_some (slice_get d.connections.channels place) due.here.channel channel due.here.stands stands in
    let is : Some due.here.live.link ≡ None = sym due.here.live.link_is ∙ ap (λ (z : Channel). z.link) same ∙ none in
    cc

pub no_channel : (d : Dif) (below : Seen) (i place number : ℕ) (links : LinksStand d below) → IsLinkDue GiveUp d links.lines i place number → length d.connections.channels ≤ place → ⊥
no_channel d below i place number links due past = (let within = slice_get_within d.connections.channels place due.here.channel due.here.stands in omega (arith, within, past))

-- the DIF holds once it is freed
pub gives_up_link : (d : Dif) (lines : List Direction) (below below' : Seen) (i : ℕ) (next : NextLink) (num : Num) → next.item ≡ GiveUp → AreKept below → AreKept below' → IsLater below below' → LinksStand d below → ((links : LinksStand d below) → GivesUpLink d links.lines below next.turn.place num (seen_of d) d.connections.flows below') → Holds d lines below
    → ((links : LinksStand d below) → (item_of (step.GaveUp num) ≡ Some next.item) × DoesLink d links.lines below i next.turn.place (step.GaveUp num) (seen_of d) d.connections.flows below') × Holds d lines below'
gives_up_link d lines below below' i next num is kept kept' later links gives h =
    let f = gives links in (
      λ there. (ap (λ (item : Item). Some item) (sym is), gives there),
      holds_freed d lines f.both below below' f.attached.port kept kept' later f.freed h,
    )

-- What is done below

pub on_err : {T E : Type 0} (r : Result T E) (P : Type 0) → P → OnErr r P
on_err (Ok x) P p = tt
on_err (Err e) P p = p

-- nothing, where no management connection gave a number up
pub frees_none : (same : Type 0) (frees : Port → Result (Unit {0}) FreeError → Type 0) (r : Result ClockStep StepError) → TellsFlow r → same → FreesBelow same frees r
frees_none same frees (Ok step.Idle) flow s = s
frees_none same frees (Ok (step.Gone cep)) flow s = s
frees_none same frees (Ok (step.GaveUp num)) flow s = inl (flow, s)
frees_none same frees (Ok (step.Ack cep)) flow s = s
frees_none same frees (Ok (step.Again num)) flow s = s
frees_none same frees (Ok (step.LinkLost link)) flow s = s
frees_none same frees (Ok (step.LinkNew link)) flow s = s
frees_none same frees (Ok (step.Timeout port)) flow s = s
frees_none same frees (Ok (step.Message link)) flow s = s
frees_none same frees (Err why.Memory) flow s = inl s
frees_none same frees (Err why.NoIpc) flow s = s
frees_none same frees (Err why.NoLink) flow s = s
frees_none same frees (Err (why.CountSpent need left)) flow s = s

-- without memory
pub frees_over_err : {E : Type 0} (same : Type 0) (frees : Port → Result (Unit {0}) FreeError → Type 0) (r : Result ClockStep E) (e : E) → r ≡ Err e → FreesNone same frees → FreesOver same frees r
frees_over_err same frees r e is s = subst (λ v. FreesOver same frees v) (sym is) s

pub frees_below_err : (same : Type 0) (frees : Port → Result (Unit {0}) FreeError → Type 0) (r : Result ClockStep StepError) (e : StepError) → e ≡ why.Memory → r ≡ Err e → FreesNone same frees → FreesBelow same frees r
frees_below_err same frees r e is err s = subst (λ (v : Result ClockStep StepError). FreesBelow same frees v) (sym (err ∙ ap (λ (z : StepError). Err z) is)) s

-- as a step at an IPC process, so at its node
pub frees_home : (same : Type 0) (frees : Port → Result (Unit {0}) FreeError → Type 0) (r r' : Result ClockStep StepError) → r' ≡ r → FreesBelow same frees r → FreesBelow same frees r'
frees_home same frees r r' is s = subst (λ (v : Result ClockStep StepError). FreesBelow same frees v) (sym is) s
