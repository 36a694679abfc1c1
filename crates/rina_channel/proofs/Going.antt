-- A PDU goes out on a link, or is written off there.
use Rattle.std.proofs.Common.{◌≡◌, ℕ, ◌≤◌, true, List, [], ◌∷◌, get_or, length, slice_get, slice_set, Some, None, Ok, Err, Option, Result, option_and_then, refl, sym, ◌∙◌, ap, subst, arith, inl, inr}
use Rattle.std.specs.Prelude.{position}
use Rattle.std.proofs.lemmas.List.Quantifiers.{position-Some}
use Rattle.std.proofs.lemmas.Option.{get_or_from_slice_get}
use Rattle.rina_base.specs.declared.cause.Cause.{Cause}
use Rattle.rina_base.specs.declared.cause.Cause.TheVariants as causes
use Rattle.rina_base.specs.declared.number.Key.{Key}
use Rattle.rina_base.specs.declared.number.Port.{Port}
use Rattle.rina_iface.specs.declared.error.SendError.{SendError}
use Rattle.rina_iface.specs.Journal.{AreKept}
use Rattle.rina_iface.specs.Seen.{Seen}
use Rattle.rina_iface.proofs.Changed.{slice_set-same}
use Rattle.rina_iface.proofs.LaterCalls.{later_sends}
use Rattle.rina_law.specs.declared.entry.Entry.{Entry}
use Rattle.rina_law.specs.Backed.{Covers}
use Rattle.rina_law.specs.Direction.{Direction}
use Rattle.rina_queue.specs.declared.queue.Queued.{Queued}
use Rattle.rina_data.specs.declared.link.Link.{Link}
use Rattle.rina_data.specs.declared.step.OutStep.{OutStep}
use Rattle.rina_data.specs.declared.step.OutStep.TheVariants as out
use Rattle.rina_data.specs.declared.step.StepError.{StepError}
use Rattle.rina_data.specs.declared.step.StepError.TheVariants.{CountSpent, Memory, NoIpc, NoLink}
use Rattle.rina_data.specs.Configs.{Config}
use Rattle.rina_data.specs.Outgoing.{Goes, IsForwarded, IsWrittenOff, Offs, sent_bytes}
use Rattle.rina_data.specs.Process.{Process, Queue, is_link, link_by, with_offs, with_taken}
use Rattle.rina_dif_law.specs.Dif.{DifSeen}
use Rattle.rina_dif_law.specs.Outgoing.{IsStep, Outs}
use Rattle.rina_dif_law.specs.Standing.{IsConfig, IsItem, IsStanding as DifStands}
use Rattle.rina_dif_law.proofs.After.{Just, after_sent}
use Rattle.rina_dif_law.proofs.Clouds.{NoItem}
use Rattle.rina_dif_law.proofs.Going.{given_dies, head_waits}
use Rattle.rina_dif_law.proofs.Queues.{requeued_taken}
use Rattle.rina_channel.specs.declared.channel.Attachment.{Attachment}
use Rattle.rina_channel.specs.Changes.{LeavesLinks}
use Rattle.rina_channel.specs.Channels.{ChannelsSeen, HasLive}
use Rattle.rina_channel.specs.LinkCloud.{LinkCloud}
use Rattle.rina_channel.specs.Names.{link_config}
use Rattle.rina_channel.specs.Standing.{IsStanding}
use Rattle.rina_channel.proofs.Below.{GoesOn, ends_go_on, just_on, stay_unsent}
use Rattle.rina_channel.proofs.Frame.{held, link_limits, other_pdus_stand, stands_with}
use Rattle.rina_channel.proofs.LinkClouds.{link_after}
use Rattle.rina_channel.proofs.Putting.{live_same}
use Rattle.rina_channel.proofs.Rows.{holds_covered}

-- the link that is found by its number is live
live_of : (number : ℕ) (l : Link) → is_link number l ≡ true → (l.live ≡ true) × (l.number ≡ number)
unfolding is_link
live_of number l h = grind arith

link_at : (number : ℕ) (links : List Link) (o : Option ℕ) (link : Link) → position (is_link number) links ≡ o → option_and_then (λ i. slice_get links i) o ≡ Some link → (k : ℕ) × (slice_get links k ≡ Some link) × (is_link number link ≡ true)
link_at number links None link p h = cc
link_at number links (Some k) link p h =
    let at : get_or links k link ≡ link = get_or_from_slice_get links k link link h in
    (k, h, rw at at ((position-Some (is_link number) links k link p).1))

pub live_by : (ps : List Process) (i n : ℕ) (process : Process) (link : Link) → slice_get ps i ≡ Some process → link_by n process.links ≡ Some link → HasLive ps i n link.port
live_by ps i n process link is h =
    let l = link_at n process.links (position (is_link n) process.links) link refl h in
    let live = live_of n link l.2 in
    record { process = process; is_process = is; place = l.0; link = link; stands = l.1; live = live.0; number_is = live.1; port_is = refl }

-- the first PDU of a queue is gone from it
taken_leaves : (ps : List Process) (i place : ℕ) (p p' : Process) (q : Queue) → slice_get ps i ≡ Some p → slice_get p.queues place ≡ Some q → p'.links ≡ p.links → p'.queues ≡ (with_taken p place q).queues → LeavesLinks ps (slice_set ps i p')
taken_leaves ps i place p p' q is is_queue links queues = record {
  waits = λ j n item w. elim (requeued_taken ps i place p p' q is is_queue queues j n item w) [ inl o ↦ inl o | inr none ↦ absurd none ];
  live = live_same ps i p p' is links;
}

module _ (refuses : Port → ℕ → Option SendError) (m : ChannelsSeen) (lines : List Direction) (d : DifSeen) (flows : List Direction) (below : Seen) (i n : ℕ) (process : Process) (below' : Seen) (stands : DifStands d flows below) (config : m.config ≡ d.config) (clock : m.clock ≡ d.clock) (st : IsStanding m lines d.processes below) (is_process : slice_get d.processes i ≡ Some process) where
  forwarded_stands : (key : Key) (process' : Process) → AreKept below → AreKept below' → IsForwarded refuses m.config m.clock process below n key process' below' → IsStanding m lines (slice_set d.processes i process') below'
  forwarded_stands key process' kept kept' s =
      let g : Config = m.config in
      let ps : List Process = d.processes in
      let taken : Process = with_taken process s.place s.queue in
      let ps' : List Process = slice_set ps i taken in
      let bytes = sent_bytes g m.clock s.item s.promise in
      let x : Entry = record { tick = below.now; num = s.num; bytes = bytes } in
      let later = later_sends (refuses s.link.port (length bytes)) below s.link.port bytes (Ok s.num) below' s.sent in
      let after = after_sent g below s.link.port bytes s.num below' kept kept' later s.sent.1 in
      let waits = head_waits ps i n process s.link s.place s.queue s.item is_process s.head in
      let fit = subst (λ (z : Config). IsItem z m.clock s.item) (sym config) (subst (λ (t : ℕ). IsItem d.config t s.item) (sym clock) (stands.items i n s.item waits)) in
      let settings = subst IsConfig (sym config) stands.config in
      let live_here : HasLive ps i n s.link.port = live_by ps i n process s.link is_process s.head.is_link in
      let go : GoesOn g ps below below' = record { ends = ends_go_on below below' later kept'; unsent = stay_unsent g (Just s.link.port x) ps below below' after (just_on ps s.link.port x i n live_here) } in
      let covers : Covers m.clock (LinkCloud g m.channels ps below) (LinkCloud g m.channels ps' below') = λ death pdu there alive.
      elim (link_after g m.channels NoItem (Just s.link.port x) ps ps' below below' (λ k t p. (older : ℕ) × (t ≤ older) × LinkCloud g m.channels ps below older p) death pdu
      (requeued_taken ps i s.place process taken s.queue is_process s.head.is_queue refl) (live_same ps i process taken is_process refl) after
      (λ k channel t plain is of_link new. elim (new.made) [
        | inl none ↦ absurd none.1.new
        | inr given ↦
            let own : Attachment = new.link in
            let dies = given_dies g m.clock below s.link.port s.item s.promise t plain s.num _ settings (sym st.clock) fit s.promised s.in_time given in
            let port : s.link.port ≡ own.port = sym given.new.0 ∙ given.within in
            let here : HasLive ps i n own.port = subst (HasLive ps i n) port live_here in
            let same = st.channels.matched i n k channel own is new.link_is here in
            let live : HasLive ps channel.member own.number own.port = subst (λ (a : ℕ). HasLive ps a own.number own.port) (sym same.0) (subst (λ (a : ℕ). HasLive ps i a own.port) (sym same.1) here) in
            let dies_at = dies.0 in (
              t,
              omega arith,
              record {
                place = k;
                channel = channel;
                stands = is;
                plain = plain;
                of_link = of_link;
                here = record { link = own; link_is = new.link_is; here = inl (live, record { process = i; link = n; within = (sym same.0, sym same.1); item = s.item; waits = waits; dies = dies.0; is = dies.1 }) };
                is = refl;
              },
            )
      ]) there) [
        | inl o ↦ (death, omega arith, o)
        | inr o ↦ o.1
      ] in
      let now : below'.now ≡ below.now = ap (λ (z : Seen). z.now) s.sent.1.new_is in
      subst (λ (z : Process). IsStanding m lines (slice_set ps i z) below') (sym s.new_is)
      (stands_with m lines lines m.clock m.ends ps ps' below below' st (st.clock ∙ sym now) refl (live_same ps i process taken is_process refl) go
      (holds_covered (link_config g m.manage) m.clock (LinkCloud g m.channels ps below) (LinkCloud g m.channels ps' below') m.ends m.ids lines (link_limits g m.manage st.managed) (held m lines ps below st) covers))

  written_off_stands : (holds : Link → Queued → ℕ → Type 0) (cause : Cause) (key : Key) (process' : Process) → IsWrittenOff holds cause process below n key process' below' → IsStanding m lines (slice_set d.processes i process') below'
  written_off_stands holds cause key process' s =
      let off : Process = with_offs (with_taken process s.place s.queue) (record { key = key; cause = cause } ∷ []) in
      subst (λ (z : Process). IsStanding m lines (slice_set d.processes i z) below') (sym s.new_is) (subst (IsStanding m lines (slice_set d.processes i off)) (sym s.below_is)
      (other_pdus_stand m lines d.processes (slice_set d.processes i off) below st (taken_leaves d.processes i s.place process off s.queue is_process s.head.is_queue refl refl)))

  idle_stands : (process' : Process) → process' ≡ process → below' ≡ below → IsStanding m lines (slice_set d.processes i process') below'
  idle_stands process' same below_is =
      let is : slice_set d.processes i process' ≡ d.processes = ap (slice_set d.processes i) same ∙ slice_set-same d.processes i process is_process in
      subst (λ (ps : List Process). IsStanding m lines ps below') (sym is) (subst (IsStanding m lines d.processes) (sym below_is) st)

  offs_stand : (key : Key) (cause : Cause) (process' : Process) → Offs refuses m.config m.clock process below n key cause process' below' → IsStanding m lines (slice_set d.processes i process') below'
  offs_stand key (causes.Expired left charge) process' s = written_off_stands _ (causes.Expired left charge) key process' s
  offs_stand key (causes.LinkDown port) process' s = written_off_stands _ (causes.LinkDown port) key process' s
  offs_stand key (causes.NoRoute dst) process' s = absurd s
  offs_stand key (causes.QueueFull full) process' s = absurd s
  offs_stand key (causes.NoConnection cep) process' s = absurd s
  offs_stand key (causes.Duplicate num) process' s = absurd s
  offs_stand key (causes.Behind highest) process' s = absurd s
  offs_stand key (causes.NoState drf) process' s = absurd s
  offs_stand key (causes.NoRoom room) process' s = absurd s
  offs_stand key (causes.StateGone last_in) process' s = absurd s
  offs_stand key (causes.Broken missing) process' s = absurd s

  goes_stand : (r : Result OutStep StepError) (process' : Process) → AreKept below → AreKept below' → Goes refuses m.config m.clock process below n r process' below' → IsStanding m lines (slice_set d.processes i process') below'
  goes_stand (Ok out.Idle) process' kept kept' s = idle_stands process' s.2 s.3
  goes_stand (Ok (out.Sent key)) process' kept kept' s = forwarded_stands key process' kept kept' s
  goes_stand (Ok (out.Off key cause)) process' kept kept' s = offs_stand key cause process' s
  goes_stand (Ok (out.Held why)) process' kept kept' s = idle_stands process' s.1 s.2
  goes_stand (Err Memory) process' kept kept' s = idle_stands process' s.0 s.1
  goes_stand (Err NoIpc) process' kept kept' s = absurd s
  goes_stand (Err NoLink) process' kept kept' s = idle_stands process' s.1 s.2
  goes_stand (Err (CountSpent need left)) process' kept kept' s = absurd s

goes_at : (refuses : Port → ℕ → Option SendError) (m : ChannelsSeen) (d : DifSeen) (process : Process) (below : Seen) (n : ℕ) (r : Result OutStep StepError) (process' : Process) (below' : Seen) → m.config ≡ d.config → m.clock ≡ d.clock → Goes refuses d.config d.clock process below n r process' below' → Goes refuses m.config m.clock process below n r process' below'
goes_at refuses m d process below n r process' below' config clock s = subst (λ (g : Config). Goes refuses g m.clock process below n r process' below') (sym config) (subst (λ (t : ℕ). Goes refuses d.config t process below n r process' below') (sym clock) s)

step_stands : (refuses : Port → ℕ → Option SendError) (m : ChannelsSeen) (lines : List Direction) (d : DifSeen) (flows : List Direction) (below : Seen) (i n : ℕ) (r : Result OutStep StepError) (d' : DifSeen) (below' : Seen) → AreKept below → AreKept below' → DifStands d flows below → m.config ≡ d.config → m.clock ≡ d.clock → IsStanding m lines d.processes below → IsStep (λ process process'. Goes refuses d.config d.clock process below n r process' below') d i d' → IsStanding m lines d'.processes below'
step_stands refuses m lines d flows below i n r d' below' kept kept' stands config clock st s =
    subst (λ (z : DifSeen). IsStanding m lines z.processes below') (sym s.new_is)
    (goes_stand refuses m lines d flows below i n s.process below' stands config clock st s.is_process r s.process' kept kept' (goes_at refuses m d s.process below n r s.process' below' config clock s.done))

pub outs_stand : (refuses : Port → ℕ → Option SendError) (m : ChannelsSeen) (lines : List Direction) (d : DifSeen) (flows : List Direction) (below : Seen) (i n : ℕ) (r : Result OutStep StepError) (d' : DifSeen) (below' : Seen) → AreKept below → AreKept below' → DifStands d flows below → m.config ≡ d.config → m.clock ≡ d.clock → IsStanding m lines d.processes below → Outs refuses d below i n r d' below' → IsStanding m lines d'.processes below'
outs_stand refuses m lines d flows below i n (Err NoIpc) d' below' kept kept' stands config clock st s = subst (λ (z : DifSeen). IsStanding m lines z.processes below') (sym s.1) (subst (IsStanding m lines d.processes) (sym s.2) st)
outs_stand refuses m lines d flows below i n r d' below' kept kept' stands config clock st s = step_stands refuses m lines d flows below i n r d' below' kept kept' stands config clock st s
