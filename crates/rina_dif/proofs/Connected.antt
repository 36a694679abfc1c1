-- The management connections of a DIF's links go on to stand.
use Rattle.std.proofs.Common.{◌≡◌, ◌∙◌, ℕ, ◌-◌, ◌≤◌, Bool, List, [], ◌∷◌, length, map, slice_get, slice_set, option_map, Option, Some, Result, Ok, Err, refl, sym, ap, subst, arith, inl, inr}
use Rattle.std.proofs.lemmas.List.{length-map}
use Rattle.std.proofs.lemmas.Option.{slice_get-map, slice_get_within}
use Rattle.rina_base.specs.declared.cause.Cause.{Cause}
use Rattle.rina_base.specs.declared.cause.Cause.TheVariants as causes
use Rattle.rina_base.specs.declared.memory.Memory.{Memory as NoMemory}
use Rattle.rina_base.specs.declared.number.Port.{Port}
use Rattle.rina_iface.specs.declared.ends.End.{End}
use Rattle.rina_iface.specs.declared.error.SendError.{SendError}
use Rattle.rina_iface.specs.Journal.{AreKept}
use Rattle.rina_iface.specs.Pass.{IsPassed as PassesBelow}
use Rattle.rina_iface.specs.Seen.{Seen, end_of}
use Rattle.rina_law.specs.Direction.{Direction}
use Rattle.rina_plan.specs.declared.dif.LinkPlan.{LinkPlan}
use Rattle.rina_queue.specs.declared.queue.Queued.{Queued}
use Rattle.rina_data.specs.declared.process.IpcProcess.{IpcProcess}
use Rattle.rina_data.specs.declared.settings.Member.{Member as Kept}
use Rattle.rina_data.specs.declared.step.Decision.{Decision}
use Rattle.rina_data.specs.declared.step.Decision.TheVariants as decision
use Rattle.rina_data.specs.declared.step.OutStep.{OutStep}
use Rattle.rina_data.specs.declared.step.StepError.{StepError}
use Rattle.rina_data.specs.Configs.{Config, member_of}
use Rattle.rina_data.specs.Deciding.{Decides, process_of}
use Rattle.rina_data.specs.Hops.{Hop}
use Rattle.rina_data.specs.Process.{Process, next_hop, with_offs, with_put}
use Rattle.rina_data.specs.Queueing.{IsPassedOn, line_for}
use Rattle.rina_data.proofs.Finding.{there}
use Rattle.rina_dif_law.specs.Dif.{DifSeen}
use Rattle.rina_dif_law.specs.Ids.{IsOfLink}
use Rattle.rina_dif_law.specs.Lifting.{IsLifted, ticked}
use Rattle.rina_dif_law.specs.Outgoing.{Outs}
use Rattle.rina_dif_law.specs.Standing.{IsStanding as DifStands}
use Rattle.rina_dif_law.proofs.After.{IsAfter, NoMore}
use Rattle.rina_dif_law.proofs.Queues.{requeued_put}
use Rattle.rina_channel.specs.Changes.{LeavesLinks}
use Rattle.rina_channel.specs.Channels.{HasLive}
use Rattle.rina_channel.specs.FlowLaws.{HasNoZero}
use Rattle.rina_channel.specs.Names.{link_config}
use Rattle.rina_channel.specs.Standing.{IsStanding}
use Rattle.rina_channel.proofs.Below.{EndsGoOn}
use Rattle.rina_channel.proofs.Frame.{beside_stands, other_pdus_stand, still_stands, taking_stands, time_stands}
use Rattle.rina_channel.proofs.Going.{outs_stand}
use Rattle.rina_channel.proofs.LinkClouds.{leaves_refl}
use Rattle.rina_channel.proofs.Linking.{none_stand}
use Rattle.rina_channel.proofs.Putting.{leaves_same, live_same}
use Rattle.rina_flood.specs.Static.{end_place}
use Rattle.rina_flows.proofs.Lasting.{tied_later}
use Rattle.rina_flows.specs.Tied.{conns_of}
use Rattle.rina_dif.specs.declared.connections.Connections.{Connections}
use Rattle.rina_dif.specs.Connected.{AreConnected, ArePaired, CanManage, channels_seen}
use Rattle.rina_dif.specs.Managing.{AreManagedBy}
use Rattle.rina_member.specs.declared.management.Management.{Management}
use Rattle.rina_dif.proofs.Managed.{routed_at}
use Rattle.rina_dif.proofs.Routed.{to_member}
use Rattle.rina_flows.specs.Calls.{AreTied}

-- While the DIF serves its flows

pub kept_by : (g : Config) (now : ℕ) (c : Connections) (ps ps' : List Process) (below : Seen) → (CanManage g c.manage → LeavesLinks ps ps') → AreConnected g now c ps below → AreConnected g now c ps' below
kept_by g now c ps ps' below leaves h = record {
  may = h.may;
  lines = h.lines;
  tied = h.tied;
  standing = other_pdus_stand (channels_seen g now c) h.lines ps ps' below h.standing (leaves h.may);
  paired = h.paired;
  named = h.named;
  each = λ i n port live. h.each i n port ((leaves h.may).live i n port live);
}

-- As the rank below goes on

pub later_connected : (g : Config) (now now' : ℕ) (c : Connections) (ps : List Process) (below below' : Seen) → now ≤ now' → AreKept below' → IsLifted g below below' → below'.now ≡ now' → AreConnected g now c ps below → AreConnected g now' c ps below'
later_connected g now now' c ps below below' le kept lifted clock h = record {
  may = h.may;
  lines = map (ticked (now' - now)) h.lines;
  tied = tied_later (link_config g c.manage) now now' c.flows.journal.ends c.flows.conns h.lines le h.tied;
  standing = subst (λ (t : ℕ). IsStanding (channels_seen g t c) (map (ticked (t - now)) h.lines) ps below') clock (time_stands (channels_seen g now c) h.lines ps below below' kept h.standing lifted);
  paired = h.paired;
  named = h.named;
  each = h.each;
}

pub beside_connected : (g : Config) (now : ℕ) (c : Connections) (ps : List Process) (below below' : Seen) → AreKept below' → IsLifted g below below' → below'.now ≡ below.now → AreConnected g now c ps below → AreConnected g now c ps below'
beside_connected g now c ps below below' kept lifted clock h = record { may = h.may; lines = h.lines; tied = h.tied; standing = beside_stands (channels_seen g now c) h.lines ps below below' kept h.standing lifted clock; paired = h.paired; named = h.named; each = h.each }

pub aside_connected : (g : Config) (now : ℕ) (c : Connections) (ps : List Process) (below below' : Seen) → IsAfter g NoMore below below' → EndsGoOn below below' → below'.now ≡ below.now → AreConnected g now c ps below → AreConnected g now c ps below'
aside_connected g now c ps below below' after go clock h = record { may = h.may; lines = h.lines; tied = h.tied; standing = still_stands (channels_seen g now c) h.lines ps ps below below' h.standing (leaves_refl ps) after go clock; paired = h.paired; named = h.named; each = h.each }

-- an SDU is taken from there
pub taking_connected : (g : Config) (now : ℕ) (c : Connections) (ps : List Process) (below : Seen) (port : Port) (below' : Seen) → AreKept below → AreKept below' → PassesBelow below port below' → AreConnected g now c ps below → AreConnected g now c ps below'
taking_connected g now c ps below port below' kept kept' passed h = record { may = h.may; lines = h.lines; tied = h.tied; standing = taking_stands (channels_seen g now c) h.lines ps below port below' kept kept' h.standing passed; paired = h.paired; named = h.named; each = h.each }

-- a PDU goes out
pub outs_connected : (refuses : Port → ℕ → Option SendError) (d : DifSeen) (flows : List Direction) (c : Connections) (below : Seen) (i n : ℕ) (r : Result OutStep StepError) (d' : DifSeen) (below' : Seen) → AreKept below → AreKept below' → DifStands d flows below → Outs refuses d below i n r d' below' → ((j k : ℕ) (port : Port) → HasLive d'.processes j k port → HasLive d.processes j k port) → AreConnected d.config d.clock c d.processes below → AreConnected d.config d.clock c d'.processes below'
outs_connected refuses d flows c below i n r d' below' kept kept' stands outs live h = record { may = h.may; lines = h.lines; tied = h.tied; standing = outs_stand refuses (channels_seen d.config d.clock c) h.lines d flows below i n r d' below' kept kept' stands refl refl h.standing outs; paired = h.paired; named = h.named; each = λ j k port there. h.each j k port (live j k port there) }

-- Before the first link

none_in : {X : Type 0} (xs : List X) (i : ℕ) (x : X) → xs ≡ [] → slice_get xs i ≡ Some x → ⊥
none_in xs i x e h = cc

-- what holds of them once the first links have theirs
pub record StandSoFar (g : Config) (now : ℕ) (c : Connections) (ps : List Process) (below : Seen) : Type 0 where
  pub may : CanManage g c.manage
  pub lines : List Direction
  pub tied : AreTied (link_config g c.manage) now c.flows lines
  pub standing : IsStanding (channels_seen g now c) lines ps below
  pub paired : ArePaired c.channels

pub none_so_far : (g : Config) (now : ℕ) (c : Connections) (ps : List Process) (below : Seen) → c.channels ≡ [] → c.flows.journal.ends ≡ [] → c.flows.conns ≡ [] → now ≡ below.now → CanManage g c.manage → ((i n : ℕ) (p q : Port) → HasLive ps i n p → HasLive ps i n q → p ≡ q) → ((i n : ℕ) (port : Port) → HasLive ps i n port → (end : End) × (end_of below port ≡ Some end)) → StandSoFar g now c ps below
none_so_far g now c ps below channels ends conns clock may numbered based =
    let no_ends : length c.flows.journal.ends ≡ 0 = ap (λ es. length es) ends in
    let no_conns : length c.flows.conns ≡ 0 = ap (λ ks. length ks) conns in
    record {
      may = may;
      lines = [];
      tied = record {
        alike = omega (arith, no_ends, no_conns);
        lines_alike = omega (arith, no_ends);
        sends = λ at conn line x l. absurd (none_in c.flows.conns at conn conns x);
        receives = λ at from end conn line is allocated inbound. absurd (none_in c.flows.conns at conn conns is.conn_is);
        unused = λ at end conn is unused. absurd (none_in c.flows.conns at conn conns is.conn_is);
        early = λ at from end line is waits inbound. absurd (none_in c.flows.journal.ends at end ends is);
      };
      standing = none_stand (channels_seen g now c) [] ps below (record { managed = may.managed; clock = clock; channels = channels; ends = ends; ids = ap conns_of conns; lines_are = refl; numbered = numbered; based = based });
      paired = λ l side channel is. absurd (none_in c.channels (end_place l side) channel channels is);
    }

-- where there are no links
pub none_connected : (g : Config) (now : ℕ) (c : Connections) (ps : List Process) (below : Seen) → c.channels ≡ [] → c.flows.journal.ends ≡ [] → c.flows.conns ≡ [] → now ≡ below.now → CanManage g c.manage → ((i n : ℕ) (port : Port) → HasLive ps i n port → ⊥) → AreConnected g now c ps below
none_connected g now c ps below channels ends conns clock may none =
    let s = none_so_far g now c ps below channels ends conns clock may (λ i n p q x y. absurd (none i n p x)) (λ i n port x. absurd (none i n port x)) in
    record { may = s.may; lines = s.lines; tied = s.tied; standing = s.standing; paired = s.paired; named = λ k e is. absurd (none_in c.flows.journal.ends k e ends is); each = λ i n port live. absurd (none i n port live) }

-- As an IPC process decides on a PDU that came

-- what goes into the queue of a next hop is of no link, since no next hop leads to the address 0
passed_leaves : (cap : ℕ) (ps : List Process) (i : ℕ) (p : Process) (since : ℕ) (hop : Hop) (p' : Process) → slice_get ps i ≡ Some p → ((link : ℕ) → next_hop 0 p.routes ≡ Some link → ⊥) → IsPassedOn cap p since hop p' → LeavesLinks ps (slice_set ps i p')
passed_leaves cap ps i p since hop p' is none s =
    let item : Queued = record { pdu = hop.pdu; left = hop.left; since = since } in
    let other : IsOfLink hop.pdu → ⊥ = λ of. none s.link (subst (λ (a : ℕ). next_hop a p.routes ≡ Some s.link) of.dst s.next) in
    subst (λ (z : Process). LeavesLinks ps (slice_set ps i z)) (sym s.new_is) (record {
      waits = λ j n x w. elim (requeued_put ps i s.place p s.queue (item ∷ []) is s.is_queue.is_queue j n x w) [
        | inl old ↦ inl old
        | inr new ↦ inr (elim (new.2) [ inl same ↦ subst (λ (z : Queued). IsOfLink z.pdu → ⊥) (sym same) other | inr none ↦ absurd none ])
      ];
      live = live_same ps i p (with_put p s.place s.queue (item ∷ [])) is refl;
    })

pub noted_leaves : (ps : List Process) (i : ℕ) (p : Process) (hop : Hop) (cause : Cause) (p' : Process) → slice_get ps i ≡ Some p → p' ≡ with_offs p (line_for hop.pdu cause ∷ []) → LeavesLinks ps (slice_set ps i p')
noted_leaves ps i p hop cause p' is same = subst (λ (z : Process). LeavesLinks ps (slice_set ps i z)) (sym same) (leaves_same ps i p (with_offs p (line_for hop.pdu cause ∷ [])) is refl refl)

same_leaves : (ps : List Process) (i : ℕ) (p p' : Process) → slice_get ps i ≡ Some p → p' ≡ p → LeavesLinks ps (slice_set ps i p')
same_leaves ps i p p' is same = subst (λ (z : Process). LeavesLinks ps (slice_set ps i z)) (sym same) (leaves_same ps i p p is refl refl)

pub decides_leave : (cap now addr : ℕ) (ps : List Process) (i : ℕ) (p : Process) (since : ℕ) (hop : Hop) (r : Result Decision NoMemory) (p' : Process) → slice_get ps i ≡ Some p → ((link : ℕ) → next_hop 0 p.routes ≡ Some link → ⊥) → Decides cap now addr p since hop r p' → LeavesLinks ps (slice_set ps i p')
decides_leave cap now addr ps i p since hop (Ok decision.Here) p' is none s = same_leaves ps i p p' is s.2
decides_leave cap now addr ps i p since hop (Ok decision.Relayed) p' is none s = passed_leaves cap ps i p since hop p' is none s.2
decides_leave cap now addr ps i p since hop (Ok (decision.Off (causes.Expired left charge))) p' is none s = noted_leaves ps i p hop (causes.Expired left charge) p' is s.3
decides_leave cap now addr ps i p since hop (Ok (decision.Off (causes.NoRoute dst))) p' is none s = noted_leaves ps i p hop (causes.NoRoute dst) p' is s.2.2
decides_leave cap now addr ps i p since hop (Ok (decision.Off (causes.QueueFull n))) p' is none s = noted_leaves ps i p hop (causes.QueueFull n) p' is s.2.2
decides_leave cap now addr ps i p since hop (Ok (decision.Off (causes.NoConnection cep))) p' is none s = absurd s.2
decides_leave cap now addr ps i p since hop (Ok (decision.Off (causes.Duplicate num))) p' is none s = absurd s.2
decides_leave cap now addr ps i p since hop (Ok (decision.Off (causes.Behind highest))) p' is none s = absurd s.2
decides_leave cap now addr ps i p since hop (Ok (decision.Off (causes.NoState drf))) p' is none s = absurd s.2
decides_leave cap now addr ps i p since hop (Ok (decision.Off (causes.NoRoom n))) p' is none s = absurd s.2
decides_leave cap now addr ps i p since hop (Ok (decision.Off (causes.StateGone last_in))) p' is none s = absurd s.2
decides_leave cap now addr ps i p since hop (Ok (decision.Off (causes.Broken missing))) p' is none s = absurd s.2
decides_leave cap now addr ps i p since hop (Ok (decision.Off (causes.LinkDown port))) p' is none s = absurd s.2
decides_leave cap now addr ps i p since hop (Err e) p' is none s = same_leaves ps i p p' is s

-- no next hop of a member leads to the address 0
pub no_hop : (g : Config) (is_static : Bool) (members : List Kept) (plans : List LinkPlan) (now : ℕ) (ps : List IpcProcess) (managements : List Management) (i : ℕ) (p : IpcProcess) → g.members ≡ map member_of members → length (map process_of ps) ≡ length g.members → HasNoZero g → AreManagedBy is_static members plans now ps managements → slice_get ps i ≡ Some p → (link : ℕ) → next_hop 0 p.routes ≡ Some link → ⊥
no_hop g is_static members plans now ps managements i p are alike zero managed is link hop =
    let within = slice_get_within ps i p is in
    let shown = length-map ps process_of in
    let kept : length g.members ≡ length members = ap (λ ms. length ms) are ∙ length-map members member_of in
    let m = there members i (omega (arith, within, alike, shown, kept)) in
    let hops = (routed_at is_static members plans now ps managements i m.0 p managed m.1 is).2 in
    let to = to_member m.0.addr 0 link hops.rows members (ap (next_hop 0) (sym hops.are) ∙ hop) in
    let its : slice_get g.members to.0 ≡ Some (member_of to.1) = ap (λ ms. slice_get ms to.0) are ∙ slice_get-map member_of members to.0 ∙ ap (option_map member_of) to.2 in
    zero.members to.0 (member_of to.1) its to.3
