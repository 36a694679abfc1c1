-- An SDU comes on a link.
use Rattle.std.proofs.Common.{◌+◌, ◌≡◌, ◌⊎◌, ◌∙◌, inl, inr, ⊎_elim, ℕ, ◌<◌, Bool, List, [], ◌++◌, Contains, length, slice_get, slice_set, Option, Some, None, Result, Ok, Err, refl, sym, ap, subst, arith}
use Rattle.std.specs.Prelude.{◌==◌}
use Rattle.std.proofs.lemmas.List.{length-map}
use Rattle.std.proofs.lemmas.List.Quantifiers.{position-Some}
use Rattle.std.proofs.lemmas.Option.{same_Some}
use Rattle.rina_agent.specs.declared.message.ManagementMessage.TheVariants.{ToMember}
use Rattle.rina_alloc.specs.declared.message.FlowMessage.{FlowMessage}
use Rattle.rina_base.specs.declared.cause.Cause.{Cause}
use Rattle.rina_base.specs.declared.cause.Cause.TheVariants as causes
use Rattle.rina_base.specs.declared.memory.Memory.{Memory as NoMemory}
use Rattle.rina_base.specs.declared.number.Port.{Port}
use Rattle.rina_base.specs.declared.pdu.Pdu.{Pdu}
use Rattle.rina_channel.specs.Changes.{LeavesLinks}
use Rattle.rina_channel.proofs.Putting.{leaves_same}
use Rattle.rina_data.specs.declared.link.Link.{Link}
use Rattle.rina_data.specs.declared.process.IpcProcess.{IpcProcess}
use Rattle.rina_data.specs.declared.step.InStep.{InStep}
use Rattle.rina_data.specs.declared.step.InStep.TheVariants as in_
use Rattle.rina_data.specs.declared.step.StepError.{StepError}
use Rattle.rina_data.specs.declared.step.StepError.TheVariants as step
use Rattle.rina_data.specs.declared.step.Took.{Took}
use Rattle.rina_data.specs.declared.step.Took.TheVariants as took
use Rattle.rina_base.specs.declared.number.Key.{Key}
use Rattle.rina_data.specs.Configs.{Config, Member, config_of, member_of}
use Rattle.rina_data.specs.Deciding.{process_of}
use Rattle.rina_data.specs.Hops.{Hop, opened}
use Rattle.rina_data.specs.Process.{Process, link_by, with_offs}
use Rattle.rina_dif_law.specs.Dif.{DifSeen}
use Rattle.rina_dif_law.specs.Ids.{Ids}
use Rattle.rina_dif_law.specs.Incoming.{Ins, Settles, SettlesFlow, SettlesOff, cause_told, lines_for}
use Rattle.rina_dif_law.specs.Sending.{home}
use Rattle.rina_dif_law.proofs.Upper.{ins_silent, silent_same}
use Rattle.rina_flows.specs.Tied.{conns_of}
use Rattle.rina_iface.specs.Journal.{AreKept}
use Rattle.rina_iface.specs.Pass.{IsPassed}
use Rattle.rina_iface.specs.Seen.{Seen, unpassed}
use Rattle.rina_law.specs.declared.entry.Entry.{Entry}
use Rattle.rina_law.specs.Direction.{Direction}
use Rattle.rina_member.specs.declared.management.Management.{Management}
use Rattle.rina_dif.specs.declared.dif.Dif.{Dif}
use Rattle.rina_dif.specs.Connected.{channels_seen}
use Rattle.rina_dif.specs.FlowMessages.{BringsMessages, HandlesFlows}
use Rattle.rina_dif.specs.Handling.{HandlesAll, HandlesInTurn, unpassed_sdus}
use Rattle.rina_dif.specs.Holding.{Holds, LinksStand}
use Rattle.rina_dif.specs.Routing.{MayReroute}
use Rattle.rina_dif.specs.Shown.{seen_of}
use Rattle.rina_dif.specs.Steps.{AtHome}
use Rattle.rina_dif.specs.Taking.{AreBrought, BringsFlows, BringsOldest, EndsAs, Handles, HandlesOldest, HandlesPiece, InsAt, IsForLink, IsOldest, IsTakenOnLink, TakesHome, TakesLinks, TakesOldest, TakesOwnPiece, TellsFlows, TellsNothing}
use Rattle.rina_dif.proofs.Flooding.{taken_said}
use Rattle.rina_dif.proofs.FlowWalk.{silent_rerouted}
use Rattle.rina_dif.proofs.Hearing.{side_across}
use Rattle.rina_dif.proofs.Leaves.{shown_at}
use Rattle.rina_asked.specs.Alone.{AreAlone}
use Rattle.rina_asked.specs.Ends.{HaveEnds}
use Rattle.rina_asked.specs.Single.{AreSingle}
use Rattle.rina_asked.specs.Calls.{InKeeps}
use Rattle.rina_asked.specs.Messages.{IsMessage, IsOnLink}
use Rattle.rina_asked.proofs.Askers.{KeepAskers, askers_keep, askers_same, names_same}
use Rattle.rina_asked.proofs.Brought.{all_came, brought_among, brought_fewer, still_stand}
use Rattle.rina_asked.proofs.Fewer.{Balanced, FewerWith, balanced_later, fewer_both, fewer_none}
use Rattle.rina_asked.proofs.OnceWalk.{flows_single, single_with}
use Rattle.rina_asked.proofs.Once.{single_lasts}
use Rattle.rina_asked.proofs.Walk.{alone_with, flows_alone}
use Rattle.rina_asked.proofs.Flows.{AllOf, all_on, all_so, flows_asked}
use Rattle.rina_asked.proofs.Keeps.{asked_flow, stays}
use Rattle.rina_asked.proofs.Quiet.{Lasts, alone_lasts, as_long, ends_last, ends_flows, ends_seen, quiet_by}
use Rattle.rina_asked.proofs.Links.{more_links, NoMoreOnLinks, handled_links, links_on, links_same, said_links}
use Rattle.rina_asked.proofs.Texts.{IsAskedFlow}
use Rattle.rina_asked.proofs.Turns.{turns_add}
use Rattle.rina_asked.proofs.Waiting.{Adds, IsOther, near_set, none_added, same_added}

-- The flows

-- what neither the taking of an SDU nor other next hops change
abbrev still : DifSeen → Config × List Ids
still d = (d.config, d.conns)

off_still : (cause : Cause) (d : DifSeen) (lines : List Direction) (i : ℕ) (member : Member) (process : Process) (at : ℕ) (hop : Hop) (d' : DifSeen) (lines' : List Direction) → SettlesOff d lines i member process at hop cause d' lines' → still d' ≡ still d
off_still (causes.Expired left charge) d lines i member process at hop d' lines' s = ap still s.3
off_still (causes.NoRoute dst) d lines i member process at hop d' lines' s = ap still s.4
off_still (causes.QueueFull cap) d lines i member process at hop d' lines' s = ap still s.4
off_still (causes.NoConnection cep) d lines i member process at hop d' lines' s = ap still s.4
off_still (causes.Duplicate num) d lines i member process at hop d' lines' s = ap still s.2.new_is
off_still (causes.Behind top) d lines i member process at hop d' lines' s = ap still s.2.new_is
off_still (causes.NoState drf) d lines i member process at hop d' lines' s = ap still s.2.new_is
off_still (causes.NoRoom cap) d lines i member process at hop d' lines' s = ap still s.2.new_is
off_still (causes.StateGone last_in) d lines i member process at hop d' lines' s = ap still s.2.new_is
off_still (causes.Broken missing) d lines i member process at hop d' lines' s = ap still s.2.new_is
off_still (causes.LinkDown down) d lines i member process at hop d' lines' s = absurd s

flow_still : (end : Took) (d : DifSeen) (lines : List Direction) (i : ℕ) (member : Member) (process : Process) (at : ℕ) (hop : Hop) (d' : DifSeen) (lines' : List Direction) → SettlesFlow d lines i member process at hop end d' lines' → still d' ≡ still d
flow_still took.Accepted d lines i member process at hop d' lines' s = ⊎_elim (λ arrived. ap still arrived.new_is) (λ told. ap still told.new_is) s.2
flow_still took.Relayed d lines i member process at hop d' lines' s = ap still s.2.new_is
flow_still (took.Off cause) d lines i member process at hop d' lines' s = off_still cause d lines i member process at hop d' lines' s

settled_still : (d : DifSeen) (lines : List Direction) (i : ℕ) (member : Member) (process : Process) (at : ℕ) (hop : Hop) (end : Took) (d' : DifSeen) (lines' : List Direction) → Settles d lines i member process at hop end d' lines' → still d' ≡ still d
settled_still d lines i member process at hop end d' lines' (inl s) = flow_still end d lines i member process at hop d' lines' s.1
settled_still d lines i member process at hop end d' lines' (inr s) = ap still s.new_is

ins_still : (d : DifSeen) (lines : List Direction) (below : Seen) (i n : ℕ) (r : Result InStep StepError) (d' : DifSeen) (lines' : List Direction) (below' : Seen) → Ins d lines below i n r d' lines' below' → still d' ≡ still d
ins_still d lines below i n (Ok in_.Idle) d' lines' below' s = ap still s.1
ins_still d lines below i n (Ok (in_.Took key end)) d' lines' below' s = settled_still d lines i s.member s.process s.entry.tick s.hop end d' lines' s.settled
ins_still d lines below i n (Err step.Memory) d' lines' below' s = ap still s.0
ins_still d lines below i n (Err (step.CountSpent need left)) d' lines' below' s = ap still s.0
ins_still d lines below i n (Err step.NoIpc) d' lines' below' s = ap still s.1
ins_still d lines below i n (Err step.NoLink) d' lines' below' s = ap still s.1

rerouted_still : (d d' : DifSeen) → MayReroute d d' → still d' ≡ still d
rerouted_still d d' (inl same) = ap still same
rerouted_still d d' (inr r) = ap still r.is

module _ (d : Dif) (lines : List Direction) (below : Seen) (i n : ℕ) (r : Result InStep StepError) (taken : Dif) (between : List Direction) (below' : Seen) (handled : Dif) (does : Ins (seen_of d) lines below i n r (seen_of taken) between below') (rerouted : MayReroute (seen_of taken) (seen_of handled)) where
  same : still (seen_of handled) ≡ still (seen_of d)
  same = rerouted_still (seen_of taken) (seen_of handled) rerouted ∙ ins_still (seen_of d) lines below i n r (seen_of taken) between below' does

  pub handled_askers : Holds d lines below → KeepAskers d handled
  handled_askers h =
      let silent = silent_rerouted (seen_of d) (seen_of taken) (seen_of handled) rerouted (ins_silent (seen_of d) lines below i n r (seen_of taken) between below' h.standing does) in
      askers_keep d handled d.clock handled.clock silent.later.ends (names_same (conns_of d.flows.conns) (conns_of handled.flows.conns) (ap (λ (x : Config × List Ids). x.1) same))

  pub handled_ends : Holds d lines below → Holds handled between below' → Balanced d.flows.journal.ends handled.flows.journal.ends
  handled_ends h stood =
      let silent = silent_rerouted (seen_of d) (seen_of taken) (seen_of handled) rerouted (ins_silent (seen_of d) lines below i n r (seen_of taken) between below' h.standing does) in
      balanced_later d.clock handled.clock d.flows.journal.ends handled.flows.journal.ends silent.later.ends (as_long d handled lines between below below' h stood (ap (λ (x : Config × List Ids). x.1) same))

  -- the members are as many as before
  pub as_many : length handled.settings.members ≡ length d.settings.members
  as_many = sym (length-map handled.settings.members member_of) ∙ ap (λ (x : Config × List Ids). length x.0.members) same ∙ length-map d.settings.members member_of

-- The SDU that was taken

-- the oldest SDU of a link
record Came (d : Dif) (below : Seen) (i n : ℕ) : Type 0 where
  process : IpcProcess
  is_process : slice_get d.processes i ≡ Some process
  link : Link
  is_link : link_by n process.links ≡ Some link
  since : ℕ
  hop : Hop
  is_oldest : IsOldest (config_of d.settings) below link.port since hop

-- is one
module _ (d : Dif) (below : Seen) (i n : ℕ) (a b : Came d below i n) where
  same_link : a.link ≡ b.link
  same_link =
      let process : a.process ≡ b.process = same_Some a.process b.process (sym a.is_process ∙ b.is_process) in
      same_Some a.link b.link (sym a.is_link ∙ ap (λ (p : IpcProcess). link_by n p.links) process ∙ b.is_link)

  same_entry : a.is_oldest.entry ≡ b.is_oldest.entry
  same_entry = same_Some a.is_oldest.entry b.is_oldest.entry (sym a.is_oldest.oldest ∙ ap (λ (l : Link). unpassed below l.port) same_link ∙ b.is_oldest.oldest)

  same_since : a.since ≡ b.since
  same_since = sym a.is_oldest.tick ∙ ap (λ (x : Entry). x.tick) same_entry ∙ b.is_oldest.tick

  same_hop : a.hop ≡ b.hop
  same_hop = same_Some a.hop b.hop (sym a.is_oldest.opens ∙ ap (λ (x : Entry). opened d.settings.widths x.bytes) same_entry ∙ b.is_oldest.opens)

  moved : (P : ℕ → Port → Hop → Type 0) → P a.since a.link.port a.hop → P b.since b.link.port b.hop
  moved P p = subst (λ (l : Link). P b.since l.port b.hop) same_link (subst (λ (x : ℕ). P x a.link.port b.hop) same_since (subst (λ (x : Hop). P a.since a.link.port x) same_hop p))

-- a member handled texts that were on a link, and no other member did anything
pub record HandlesOnLink (d handled : Dif) : Type 0 where
  pub place : ℕ
  pub management : Management
  pub is_management : slice_get d.managements place ≡ Some management
  pub after : Management
  pub now : ℕ
  pub number : ℕ
  pub texts : List (List ℕ)
  pub on_link : (text : List ℕ) → Contains texts text → IsOnLink d text
  pub handles : HandlesInTurn now number texts management after
  pub are : handled.managements ≡ slice_set d.managements place after

abbrev pub MayHandle : Dif → Dif → Type 0
MayHandle d handled = (handled.managements ≡ d.managements) ⊎ HandlesOnLink d handled

-- What the member makes of it

module _ (d : Dif) (lines : List Direction) (below : Seen) (h : Holds d lines below) (kept : AreKept below) (i n : ℕ) (key : Key) (end : Took) (taken : Dif) (between : List Direction) (below' : Seen) (kept' : AreKept below') (handled : Dif)
    (does : Ins (seen_of d) lines below i n (Ok (in_.Took key end)) (seen_of taken) between below') (links : TakesOldest d h.connected.lines below i n end taken) (managed : taken.managements ≡ d.managements) (handles : HandlesOldest d below i n taken below' handled) where
  abbrev first : Came d below i n
  first = record { process = links.process; is_process = links.is_process; link = links.link; is_link = links.is_link; since = links.since; hop = links.hop; is_oldest = links.is_oldest }

  abbrev port : Port
  port = links.link.port

  abbrev hop : Hop
  hop = links.hop

  abbrev since : ℕ
  since = links.since

  -- as the laws see it
  process_is : does.process ≡ process_of links.process
  process_is = same_Some does.process (process_of links.process) (sym does.is_process.is_process ∙ shown_at d i links.process links.is_process)

  abbrev seen : Came d below i n
  seen = record {
    process = links.process;
    is_process = links.is_process;
    link = does.link;
    is_link = ap (λ (p : Process). link_by n p.links) (sym process_is) ∙ does.is_link;
    since = does.entry.tick;
    hop = does.hop;
    is_oldest = record { entry = does.entry; oldest = does.oldest; tick = refl; opens = does.opens };
  }

  settled : Settles (seen_of d) lines i does.member does.process since hop end (seen_of taken) between
  settled = moved d below i n seen first (λ x p y. Settles (seen_of d) lines i does.member does.process x y end (seen_of taken) between) does.settled

  passed : IsPassed below port below'
  passed = moved d below i n seen first (λ x p y. IsPassed below p below') does.passed

  leaves : IsForLink d since hop → LeavesLinks (seen_of d).processes (seen_of taken).processes
  leaves link = elim (settled) [
    | inl flow ↦ absurd (flow.0 link.0 link.1)
    | inr on ↦ subst (λ (z : DifSeen). LeavesLinks (seen_of d).processes z.processes) (sym on.new_is) (leaves_same (seen_of d).processes i does.process (with_offs does.process (on.dropped ++ lines_for hop.pdu (cause_told end))) does.is_process.is_process refl refl)
  ]

  taken_links : NoMoreOnLinks d taken
  taken_links = elim (links.settled) [
    | inl flow ↦ links_same d taken flow.1
    | inr on ↦ said_links d taken (taken_said (channels_seen (config_of d.settings) d.clock d.connections) h.connected.lines (seen_of d).processes below h.connected.standing port hop.pdu on.dropped (channels_seen (config_of taken.settings) taken.clock taken.connections) links.links' end on.takes)
  ]

  on_link : IsForLink d since hop → IsTakenOnLink d h.connected.lines since port hop end taken links.links'
  on_link link = elim (links.settled) [
    | inl flow ↦ absurd (flow.0 link)
    | inr on ↦ on
  ]

  stand : (place : ℕ) (its : Pdu) → TakesOwnPiece d since port hop place its → LinksStand taken below'
  stand place its own =
      let on = on_link own.for_link in
      still_stand d i since port hop lines below h kept links.is_oldest place its own end on.dropped taken links.links' on.takes (leaves own.for_link) below' kept' passed links.tied

  -- where its piece is handled
  module _ (place : ℕ) (its : Pdu) (own : TakesOwnPiece d since port hop place its) (all : (links' : LinksStand taken below') → HandlesAll taken links'.lines i place n handled) where
    abbrev stands : LinksStand taken below'
    stands = stand place its own

    a : HandlesAll taken stands.lines i place n handled
    a = all stands

    own_adds : Adds IsOther d.managements handled.managements
    own_adds =
        let ms : handled.managements ≡ slice_set d.managements i a.after = ap (λ (z : Dif). z.managements) a.only ∙ ap (λ (x : List Management). slice_set x i a.after) managed in
        subst (Adds IsOther d.managements) (sym ms) (near_set d.managements i a.management a.after (ap (λ (x : List Management). slice_get x i) (sym managed) ∙ a.is_management) (turns_add taken.clock n (unpassed_sdus a.here.end) a.management a.after a.handles))

    own_handles : (ms : List FlowMessage) → BringsMessages d place its ms → HandlesOnLink d handled
    own_handles ms brings =
        let on = on_link own.for_link in
        record {
          place = i;
          management = a.management;
          is_management = ap (λ (x : List Management). slice_get x i) (sym managed) ∙ a.is_management;
          after = a.after;
          now = taken.clock;
          number = n;
          texts = unpassed_sdus a.here.end;
          on_link = all_came d i since port hop lines below h kept links.is_oldest place its own end on.dropped taken links.links' on.takes (leaves own.for_link) below' stands ms brings a.here.end a.here.is_end;
          handles = a.handles;
          are = ap (λ (z : Dif). z.managements) a.only ∙ ap (λ (x : List Management). slice_set x i a.after) managed;
        }

    own_links : NoMoreOnLinks d handled
    own_links =
        let p = a.passes in
        let le = (stands.standing.journal.whole place p.end p.is_end).taken in
        links_on d taken handled taken_links (handled_links taken handled place p.end (record p.end { taken = length p.end.got }) p.is_end p.ends refl le (omega arith) le)

    -- the messages that it makes whole are on the link no more
    own_fewer : (ms : List FlowMessage) → BringsMessages d place its ms → FewerWith d handled ms
    own_fewer ms brings F G other same least =
        let p = a.passes in
        let k : ℕ = least + ((side_across place).0 + 1) in
        let on = on_link own.for_link in
        let waits = own_adds.fewer F other in
        let fewer = brought_fewer d i since port hop lines below h kept links.is_oldest place its own end on.dropped taken links.links' on.takes (leaves own.for_link) below' stands handled p.end p.is_end p.ends (λ m. F (ToMember m)) G (λ m text is. same (ToMember m) text is) ms brings k (omega arith) in
        let more = more_links G handled least k (omega arith) in
        (k, omega (arith, waits, fewer, more))

  -- be it or not
  moved_handles : HandlesPiece d i n since port hop taken below' handled
  moved_handles =
      let it : Came d below i n = record { process = handles.process; is_process = handles.is_process; link = handles.link; is_link = handles.is_link; since = handles.since; hop = handles.hop; is_oldest = handles.is_oldest } in
      moved d below i n it first (λ x p y. HandlesPiece d i n x p y taken below' handled) handles.handles

  took_adds : Adds IsOther d.managements handled.managements
  took_adds = elim (moved_handles) [
    | inl own ↦ own_adds own.0 own.1 own.2 own.3
    | inr none ↦ same_added IsOther d.managements handled.managements (ap (λ (z : Dif). z.managements) none.1 ∙ managed)
  ]

  took_links : NoMoreOnLinks d handled
  took_links = elim (moved_handles) [
    | inl own ↦ own_links own.0 own.1 own.2 own.3
    | inr none ↦ subst (NoMoreOnLinks d) (sym none.1) taken_links
  ]

  took_handles : (ms : List FlowMessage) → BringsOldest d below i n ms → MayHandle d handled
  took_handles ms brings =
      let it : Came d below i n = record { process = brings.process; is_process = brings.is_process; link = brings.link; is_link = brings.is_link; since = brings.since; hop = brings.hop; is_oldest = brings.is_oldest } in
      both moved_handles (moved d below i n it first (λ x p y. BringsFlows d x p y ms) brings.brings)
    where
      both : HandlesPiece d i n since port hop taken below' handled → BringsFlows d since port hop ms → MayHandle d handled
      both (inr none) brought = inl (ap (λ (z : Dif). z.managements) none.1 ∙ managed)
      both (inl does) (inr none) = absurd (none.0 does.0 does.1 does.2)
      both (inl does) (inl own) =
          let same : does.0 ≡ own.0 = same_Some does.0 own.0 (sym does.2.taker.at ∙ own.2.taker.at) in
          inr (own_handles own.0 own.1 own.2 (subst (λ (k : ℕ). (links' : LinksStand taken below') → HandlesAll taken links'.lines i k n handled) same does.3) ms own.3)

  -- what it brings
  took_fewer : (ms : List FlowMessage) → BringsOldest d below i n ms → FewerWith d handled ms
  took_fewer ms brings =
      let it : Came d below i n = record { process = brings.process; is_process = brings.is_process; link = brings.link; is_link = brings.is_link; since = brings.since; hop = brings.hop; is_oldest = brings.is_oldest } in
      both moved_handles (moved d below i n it first (λ x p y. BringsFlows d x p y ms) brings.brings)
    where
      both : HandlesPiece d i n since port hop taken below' handled → BringsFlows d since port hop ms → FewerWith d handled ms
      both does (inr none) = subst (FewerWith d handled) (sym none.1) (fewer_none d handled (fewer_both d handled took_adds took_links))
      both (inr none) (inl own) = absurd (none.0 own.0 own.1 own.2)
      both (inl does) (inl own) =
          let same : does.0 ≡ own.0 = same_Some does.0 own.0 (sym does.2.taker.at ∙ own.2.taker.at) in
          own_fewer own.0 own.1 own.2 (subst (λ (k : ℕ). (links' : LinksStand taken below') → HandlesAll taken links'.lines i k n handled) same does.3) ms own.3

  -- each message that it brings is among those of the DIF
  took_among : (ms : List FlowMessage) → BringsOldest d below i n ms → AllOf (IsMessage d) ms
  took_among ms brings =
      let it : Came d below i n = record { process = brings.process; is_process = brings.is_process; link = brings.link; is_link = brings.is_link; since = brings.since; hop = brings.hop; is_oldest = brings.is_oldest } in
      elim (moved d below i n it first (λ x p y. BringsFlows d x p y ms) brings.brings) [
        | inl own ↦
            (let on = on_link own.2.for_link in
            brought_among d i since port hop lines below h kept links.is_oldest own.0 own.1 own.2 end on.dropped taken links.links' on.takes (leaves own.2.for_link) below' (stand own.0 own.1 own.2) ms own.3)
        | inr none ↦ subst (AllOf (IsMessage d)) (sym none.1) tt
      ]

-- By the answer

-- as the DIF is behind all but the messages about flows
pub record IsHandled (d : Dif) (handled : Dif) (ms : List FlowMessage) : Type 0 where
  pub handles : MayHandle d handled
  pub adds : Adds IsOther d.managements handled.managements
  pub links : NoMoreOnLinks d handled
  pub among : AllOf (IsMessage d) ms
  pub fewer : FewerWith d handled ms

pub plain : (d taken handled : Dif) (ms : List FlowMessage) → taken.connections ≡ d.connections → taken.managements ≡ d.managements → handled ≡ taken → ms ≡ [] → IsHandled d handled ms
plain d taken handled ms connections managed same none =
    let adds : Adds IsOther d.managements handled.managements = same_added IsOther d.managements handled.managements (ap (λ (z : Dif). z.managements) same ∙ managed) in
    let links : NoMoreOnLinks d handled = links_same d handled (ap (λ (z : Dif). z.connections) same ∙ connections) in
    record {
      handles = inl (ap (λ (z : Dif). z.managements) same ∙ managed);
      adds = adds;
      links = links;
      among = subst (AllOf (IsMessage d)) (sym none) tt;
      fewer = subst (FewerWith d handled) (sym none) (fewer_none d handled (fewer_both d handled adds links));
    }

pub by_answer : (d : Dif) (lines : List Direction) (below : Seen) (h : Holds d lines below) → AreKept below → (i n : ℕ) (answer : Result InStep StepError) (taken : Dif) (between : List Direction) (below' : Seen) → AreKept below' → (handled : Dif) (ms : List FlowMessage) → Ins (seen_of d) lines below i n answer (seen_of taken) between below' → TakesLinks d h.connected.lines below i n answer taken → taken.managements ≡ d.managements → Handles d below i n answer taken below' handled → AreBrought d below i n answer ms → IsHandled d handled ms
by_answer d lines below h kept i n (Ok (in_.Took key end)) taken between below' kept' handled ms does links managed handles brought = record {
  handles = took_handles d lines below h kept i n key end taken between below' kept' handled does links managed handles ms brought;
  adds = took_adds d lines below h kept i n key end taken between below' kept' handled does links managed handles;
  links = took_links d lines below h kept i n key end taken between below' kept' handled does links managed handles;
  among = took_among d lines below h kept i n key end taken between below' kept' handled does links managed handles ms brought;
  fewer = took_fewer d lines below h kept i n key end taken between below' kept' handled does links managed handles ms brought;
}
by_answer d lines below h kept i n (Ok in_.Idle) taken between below' kept' handled ms does links managed handles brought = plain d taken handled ms links managed handles brought
by_answer d lines below h kept i n (Err step.Memory) taken between below' kept' handled ms does links managed handles brought = plain d taken handled ms links managed handles brought
by_answer d lines below h kept i n (Err (step.CountSpent need left)) taken between below' kept' handled ms does links managed handles brought = plain d taken handled ms links managed handles.1 brought
by_answer d lines below h kept i n (Err step.NoIpc) taken between below' kept' handled ms does links managed handles brought = plain d taken handled ms links managed handles brought
by_answer d lines below h kept i n (Err step.NoLink) taken between below' kept' handled ms does links managed handles brought = plain d taken handled ms links managed handles brought

-- memory did not run out behind it
pub not_stopped : (stopped : Result (Unit {0}) NoMemory) (answer result : Result InStep StepError) → EndsAs stopped answer result → (result ≡ Err step.Memory → ⊥) → stopped ≡ Ok tt
not_stopped (Ok done) answer result ends some = refl
not_stopped (Err e) (Ok (in_.Took key end)) result ends some = absurd (some ends)
not_stopped (Err e) (Ok in_.Idle) result ends some = absurd ends
not_stopped (Err e) (Err other) result ends some = absurd ends

-- noting a failure is nothing to them
noted : (P : Dif → Type 0) → Lasts P → (d : Dif) (failed : Bool) → P (record d { failed = failed }) → P d
noted P lasts d failed = lasts (record d { failed = failed }) d (quiet_by (record d { failed = failed }) d (askers_same (record d { failed = failed }) d refl) (ends_flows (record d { failed = failed }) d refl) (none_added IsOther d.managements) (links_same (record d { failed = failed }) d refl))

-- what lasts while the messages about flows are handled
abbrev pub Walks : (Dif → Type 0) → Type 0
Walks P = (d handled end : Dif) (lines' lines : List Direction) (below : Seen) (i : ℕ) (ms : List FlowMessage) → KeepAskers d handled → Balanced d.flows.journal.ends handled.flows.journal.ends → IsHandled d handled ms → Holds handled lines below → i < length handled.settings.members → HandlesFlows handled lines below i ms (Ok tt) end lines' → P d → P end

asked_walks : Walks HaveEnds
asked_walks d handled end lines' lines below i ms keeps balanced b stood lt walk asked = flows_asked handled lines below stood i ms end lines' lt (all_on d handled ms keeps (all_so (IsMessage d) (IsAskedFlow d) (asked_flow d asked) ms b.among)) walk (ends_last d handled (quiet_by d handled keeps balanced b.adds b.links) asked)

alone_walks : Walks AreAlone
alone_walks d handled end lines' lines below i ms keeps balanced b stood lt walk alone = flows_alone handled lines below stood i ms end lines' lt walk (alone_with d handled ms b.fewer balanced alone)

single_walks : Walks AreSingle
single_walks d handled end lines' lines below i ms keeps balanced b stood lt walk single = flows_single handled lines below stood i ms end lines' lt walk (single_with d handled ms b.fewer b.adds.ids single)

told_kept : (P : Dif → Type 0) → Lasts P → Walks P → (d : Dif) (lines : List Direction) (below : Seen) → Holds d lines below → AreKept below → (i n : ℕ) (answer : Result InStep StepError) (taken : Dif) (between : List Direction) (below' : Seen) → AreKept below' → (handled : Dif) (result : Result InStep StepError) (d' : Dif) (lines' : List Direction) → Ins (seen_of d) lines below i n answer (seen_of taken) between below'
    → ((links : LinksStand d below) → TakesLinks d links.lines below i n answer taken) → taken.managements ≡ d.managements → Handles d below i n answer taken below' handled → MayReroute (seen_of taken) (seen_of handled) → Holds handled between below' → TellsFlows d below i n answer handled between below' result d' lines' → i < length handled.settings.members → (result ≡ Err step.Memory → ⊥) → P d → P d'
told_kept P lasts walks d lines below h kept i n answer taken between below' kept' handled result d' lines' does links managed handles rerouted stood told lt some holds =
    let b = by_answer d lines below h kept i n answer taken between below' kept' handled told.messages does (links h.connected) managed handles told.are in
    let keeps = handled_askers d lines below i n answer taken between below' handled does rerouted h in
    let balanced = handled_ends d lines below i n answer taken between below' handled does rerouted h stood in
    let end : Dif = record d' { failed = handled.failed } in
    let walk = subst (λ (r : Result (Unit {0}) NoMemory). HandlesFlows handled between below' i told.messages r end lines') (not_stopped told.stopped answer result told.ends some) told.handles in
    noted P lasts d' handled.failed (walks d handled end lines' between below' i told.messages keeps balanced b stood lt walk holds)

-- By node

pub at_some : (o : Option ℕ) (i : ℕ) (P : ℕ → Type 0) (Q : Type 0) → o ≡ Some i → AtHome o P Q → P i
at_some o i P Q here p = subst (λ (z : Option ℕ). AtHome z P Q) here p

pub at_none : (o : Option ℕ) (P : ℕ → Type 0) (Q : Type 0) → o ≡ None → AtHome o P Q → Q
at_none o P Q none p = subst (λ (z : Option ℕ). AtHome z P Q) none p

-- what a step does at a node without a member
abbrev Nowhere : DifSeen → List Direction → Seen → Result InStep StepError → DifSeen → List Direction → Seen → Type 0
Nowhere d lines below answer d' lines' below' = (answer ≡ Err step.NoIpc) × (d' ≡ d) × (lines' ≡ lines) × (below' ≡ below)

pub ins_at : (d : DifSeen) (lines : List Direction) (below : Seen) (node n i : ℕ) (answer : Result InStep StepError) (d' : DifSeen) (lines' : List Direction) (below' : Seen) → home node d.config.members ≡ Some i → InsAt d lines below node n answer d' lines' below' → Ins d lines below i n answer d' lines' below'
ins_at d lines below node n i (Ok done) d' lines' below' here s = at_some (home node d.config.members) i (λ k. Ins d lines below k n (Ok done) d' lines' below') (Nowhere d lines below (Ok done) d' lines' below') here s
ins_at d lines below node n i (Err step.Memory) d' lines' below' here s = s
ins_at d lines below node n i (Err (step.CountSpent need left)) d' lines' below' here s = at_some (home node d.config.members) i (λ k. Ins d lines below k n (Err (step.CountSpent need left)) d' lines' below') (Nowhere d lines below (Err (step.CountSpent need left)) d' lines' below') here s
ins_at d lines below node n i (Err step.NoIpc) d' lines' below' here s = at_some (home node d.config.members) i (λ k. Ins d lines below k n (Err step.NoIpc) d' lines' below') (Nowhere d lines below (Err step.NoIpc) d' lines' below') here s
ins_at d lines below node n i (Err step.NoLink) d' lines' below' here s = at_some (home node d.config.members) i (λ k. Ins d lines below k n (Err step.NoLink) d' lines' below') (Nowhere d lines below (Err step.NoLink) d' lines' below') here s

none_at : (d : DifSeen) (lines : List Direction) (below : Seen) (node n : ℕ) (answer : Result InStep StepError) (d' : DifSeen) (lines' : List Direction) (below' : Seen) → home node d.config.members ≡ None → InsAt d lines below node n answer d' lines' below' → d' ≡ d
none_at d lines below node n (Ok done) d' lines' below' none s = (at_none (home node d.config.members) (λ k. Ins d lines below k n (Ok done) d' lines' below') (Nowhere d lines below (Ok done) d' lines' below') none s).1
none_at d lines below node n (Err step.Memory) d' lines' below' none s = s.0
none_at d lines below node n (Err (step.CountSpent need left)) d' lines' below' none s = (at_none (home node d.config.members) (λ k. Ins d lines below k n (Err (step.CountSpent need left)) d' lines' below') (Nowhere d lines below (Err (step.CountSpent need left)) d' lines' below') none s).1
none_at d lines below node n (Err step.NoIpc) d' lines' below' none s = (at_none (home node d.config.members) (λ k. Ins d lines below k n (Err step.NoIpc) d' lines' below') (Nowhere d lines below (Err step.NoIpc) d' lines' below') none s).1
none_at d lines below node n (Err step.NoLink) d' lines' below' none s = (at_none (home node d.config.members) (λ k. Ins d lines below k n (Err step.NoLink) d' lines' below') (Nowhere d lines below (Err step.NoLink) d' lines' below') none s).1

pub member_within : (d : Dif) (lines : List Direction) (below : Seen) (node n i : ℕ) (answer : Result InStep StepError) (taken : Dif) (between : List Direction) (below' : Seen) (handled : Dif) → home node (config_of d.settings).members ≡ Some i → Ins (seen_of d) lines below i n answer (seen_of taken) between below' → MayReroute (seen_of taken) (seen_of handled) → i < length handled.settings.members
member_within d lines below node n i answer taken between below' handled here does rerouted =
    let within : i < length d.settings.members = (let p = position-Some (λ (x : Member). x.node == node) (config_of d.settings).members i (record { addr = 0; name = []; node = 0 }) here in let lt = p.0 in let long = length-map d.settings.members member_of in omega (arith, lt, long)) in
    subst (λ (k : ℕ). i < k) (sym (as_many d lines below i n answer taken between below' handled does rerouted)) within

home_kept : (P : Dif → Type 0) → Lasts P → Walks P → (o : Option ℕ) (d : Dif) (lines : List Direction) (below : Seen) (node n : ℕ) (result : Result InStep StepError) (d' : Dif) (below' : Seen) → home node (config_of d.settings).members ≡ o → Holds d lines below → AreKept below → AreKept below' → TakesHome d lines below node n result d' below' → (result ≡ Err step.Memory → ⊥) → P d → P d'
home_kept P lasts walks (Some i) d lines below node n result d' below' here h kept kept' t some holds =
    let o : Option ℕ = home node (config_of d.settings).members in
    let does = ins_at (seen_of d) lines below node n i t.answer (seen_of t.taken) t.between below' here t.does in
    told_kept P lasts walks d lines below h kept i n t.answer t.taken t.between below' kept' t.handled result d' t.lines' does
    (λ links. at_some o i (λ k. TakesLinks d links.lines below k n t.answer t.taken) (t.taken.connections ≡ d.connections) here (t.links links)) t.managed
    (at_some o i (λ k. Handles d below k n t.answer t.taken below' t.handled) (t.handled ≡ t.taken) here t.handles) t.rerouted t.stood
    (at_some o i (λ k. TellsFlows d below k n t.answer t.handled t.between below' result d' t.lines') (TellsNothing t.answer t.handled t.between result d' t.lines') here t.told)
    (member_within d lines below node n i t.answer t.taken t.between below' t.handled here does t.rerouted) some holds
home_kept P lasts walks None d lines below node n result d' below' none h kept kept' t some holds =
    let o : Option ℕ = home node (config_of d.settings).members in
    let same : t.handled ≡ t.taken = at_none o (λ k. Handles d below k n t.answer t.taken below' t.handled) (t.handled ≡ t.taken) none t.handles in
    let connections : t.taken.connections ≡ d.connections = at_none o (λ k. TakesLinks d h.connected.lines below k n t.answer t.taken) (t.taken.connections ≡ d.connections) none (t.links h.connected) in
    let told = at_none o (λ k. TellsFlows d below k n t.answer t.handled t.between below' result d' t.lines') (TellsNothing t.answer t.handled t.between result d' t.lines') none t.told in
    let seen : seen_of t.handled ≡ seen_of d = ap seen_of same ∙ none_at (seen_of d) lines below node n t.answer (seen_of t.taken) t.between below' none t.does in
    let silent = silent_same (seen_of d) (seen_of t.handled) (ap (λ (z : DifSeen). z.ends) seen) (ap (λ (z : DifSeen). z.config) seen) (ap (λ (z : DifSeen). z.clock) seen) in
    let keeps = askers_keep d t.handled d.clock t.handled.clock silent.later.ends (names_same (conns_of d.flows.conns) (conns_of t.handled.flows.conns) (ap (λ (z : DifSeen). z.conns) seen)) in
    let p = plain d t.taken t.handled [] connections t.managed same refl in
    noted P lasts d' t.handled.failed (subst P (sym told.1) (lasts d t.handled (quiet_by d t.handled keeps (ends_seen d t.handled seen) p.adds p.links) holds))

pub in_keeps : (P : Dif → Type 0) → Lasts P → Walks P → InKeeps P
in_keeps P lasts walks d d' below below' node link result kept kept' st does notes = stays P d d' result (Err step.Memory) notes (λ some.
    home_kept P lasts walks _ d st.0 below node link result d' below' refl st.1 kept kept' (does st.0 st.1) some)

pub in_keeps_ends : InKeeps HaveEnds
in_keeps_ends = in_keeps HaveEnds ends_last asked_walks

pub in_keeps_alone : InKeeps AreAlone
in_keeps_alone = in_keeps AreAlone alone_lasts alone_walks

pub in_keeps_single : InKeeps AreSingle
in_keeps_single = in_keeps AreSingle single_lasts single_walks
