-- The members of a DIF stay a network in which what one of them makes is flooded to all.
use Rattle.std.proofs.Common.{◌≡◌, ◌∙◌, ℕ, zero, suc, ◌+◌, ◌≤◌, Bool, true, false, cond, List, [], ◌∷◌, ◌++◌, Contains, map, slice_get, slice_set, take, Option, Some, None, option_map, Ok, refl, sym, ap, subst, inl, inr, arith}
use Rattle.std.specs.Prelude.{find}
use Rattle.std.proofs.lemmas.Bool.{cases_Bool, true≢false}
use Rattle.std.proofs.lemmas.Bool.Decides.{eqb_tells}
use Rattle.std.proofs.lemmas.List.{map-set, take-append-le}
use Rattle.std.proofs.lemmas.Option.{slice_get-map}
use Rattle.rina_agent.specs.declared.agent.Agent.{Agent}
use Rattle.rina_agent.specs.declared.state.MemberState.TheVariants.{Enrolled}
use Rattle.rina_agent.specs.declared.state.AgentError.{AgentError}
use Rattle.rina_agent.specs.Counts.{spent, unless}
use Rattle.rina_agent.specs.Enrolments.{is_numbered}
use Rattle.rina_agent.specs.Items.{made, stated}
use Rattle.rina_agent.specs.Rows.{dropped, lost as loses_link, was_up}
use Rattle.rina_base.specs.declared.cause.Cause.{Cause}
use Rattle.rina_base.specs.declared.cause.Cause.TheVariants as causes
use Rattle.rina_base.specs.declared.number.Port.{Port}
use Rattle.rina_base.specs.declared.pdu.Pdu.{Pdu}
use Rattle.rina_account.specs.declared.ledger.Off.{Off}
use Rattle.rina_channel.specs.declared.channel.Attachment.{Attachment}
use Rattle.rina_channel.specs.declared.channel.Channel.{Channel}
use Rattle.rina_channel.specs.Channels.{ChannelsSeen, HasLive, IsOnPort}
use Rattle.rina_channel.specs.Coming.{TakesOnLink, TakesPiece}
use Rattle.rina_channel.specs.LinkCloud.{LinkCloud}
use Rattle.rina_channel.specs.Names.{link_config, named}
use Rattle.rina_channel.specs.Standing.{IsStanding}
use Rattle.rina_data.specs.declared.link.Link.{Link}
use Rattle.rina_data.specs.declared.process.IpcProcess.{IpcProcess}
use Rattle.rina_data.specs.declared.settings.Member.{Member}
use Rattle.rina_data.specs.declared.step.Took.{Took}
use Rattle.rina_data.specs.declared.step.Took.TheVariants as took
use Rattle.rina_data.specs.Deciding.{process_of}
use Rattle.rina_data.specs.Process.{Process}
use Rattle.rina_dir.specs.Directory.{key_of}
use Rattle.rina_dif_law.specs.Dif.{constants}
use Rattle.rina_dif_law.specs.Ids.{flipped}
use Rattle.rina_dif_law.specs.Incoming.{arrived, found, joined_by}
use Rattle.rina_dif_law.proofs.Forgot.{found_got}
use Rattle.rina_dif_law.proofs.Own.{direction_in}
use Rattle.rina_flood.specs.Members.{IsRunOf, LosesLinkAt, MembersSeen}
use Rattle.rina_flood.specs.Network.{Side, Near, Far, Gone, There}
use Rattle.rina_flood.specs.Static.{LinkEnd, end_place}
use Rattle.rina_flood.proofs.Members.{goes_on_run, loses_run, makes_run, takes_run}
use Rattle.rina_iface.specs.declared.ends.End.{End}
use Rattle.rina_iface.specs.declared.ends.Journal.{Journal}
use Rattle.rina_iface.specs.Journal.{At}
use Rattle.rina_iface.specs.Seen.{Seen}
use Rattle.rina_iface.proofs.Changed.{slice_get-set_other, slice_get-set_same}
use Rattle.rina_law.specs.declared.entry.Entry.{Entry}
use Rattle.rina_law.specs.Constants.{Constants}
use Rattle.rina_law.specs.Direction.{Direction, entry_for}
use Rattle.rina_law.specs.Pdus.{piece_in}
use Rattle.rina_law.specs.Receiver.{Piece}
use Rattle.rina_flows.specs.declared.flows.Flows.{Flows}
use Rattle.rina_member.specs.declared.management.Management.{Management}
use Rattle.rina_member.specs.Managements.{entered, entry_of, takes_item}
use Rattle.rina_dif.specs.declared.dif.Dif.{Dif}
use Rattle.rina_dif.specs.Connected.{HasConnection}
use Rattle.rina_dif.specs.Flooding.{AreFlooding, handled_at, is_live_at, link_end, members_seen, offered_at, state_by, texts_of}
use Rattle.rina_dif.specs.Holding.{LinksStand}
use Rattle.rina_dif.specs.LinkDue.{is_link_of}
use Rattle.rina_dif.specs.Managing.{agents_of}
use Rattle.rina_dif.proofs.Bare.{map_at}
use Rattle.rina_dif.proofs.LinkEnds.{LosesOne, is_its_link, lost_not_live, others_live, same_but_one, state_there}

-- The clock goes on

pub time_floods : (d : Dif) (now : ℕ) → d.clock ≤ now → AreFlooding d → AreFlooding (record d { clock = now })
time_floods d now le r = goes_on_run d.laid.is_static d.laid.links (members_seen d) (members_seen (record d { clock = now })) r (record { stays = record { members = refl; ends = refl }; now = le; agents = refl; sent = λ k. refl; got = λ k. refl })

-- Agents are the same

pub same_agents : (d : Dif) (ms : List Management) → agents_of ms ≡ agents_of d.managements → AreFlooding d → AreFlooding (record d { managements = ms })
same_agents d ms same r = subst (λ (gs : List Agent). IsRunOf d.laid.is_static d.laid.links (record (members_seen d) { agents = gs })) (sym same) r

-- The management connections take PDUs, or an end of them closes

-- nothing was offered or handled
pub record SameTexts (old new : List End) : Type 0 where
  pub sent : (place : ℕ) → offered_at (slice_get new place) ≡ offered_at (slice_get old place)
  pub got : (place : ℕ) → handled_at (slice_get new place) ≡ handled_at (slice_get old place)

pub none_said : (ends : List End) → SameTexts ends ends
none_said ends = record { sent = λ place. refl; got = λ place. refl }

-- an end in the place of another
set_reads : {X : Type 0} (f : Option End → X) (ends : List End) (at : ℕ) (e e' : End) → At ends at e → f (Some e') ≡ f (Some e) → (k : ℕ) → f (slice_get (slice_set ends at e') k) ≡ f (slice_get ends k)
set_reads f ends at e e' is same k = elim (eqb_tells k at) [
  | inl t ↦ ap (λ (j : ℕ). f (slice_get (slice_set ends at e') j)) t.1 ∙ ap f (slice_get-set_same ends at e e' is) ∙ same ∙ ap f (sym is) ∙ ap (λ (j : ℕ). f (slice_get ends j)) (sym t.1)
  | inr u ↦ ap f (slice_get-set_other ends at k e' u.1)
]

pub set_said : (ends : List End) (at : ℕ) (e e' : End) → At ends at e → e'.sent ≡ e.sent → take e'.taken e'.got ≡ take e.taken e.got → SameTexts ends (slice_set ends at e')
set_said ends at e e' is sent got = record {
  sent = set_reads offered_at ends at e e' is (ap texts_of sent);
  got = set_reads handled_at ends at e e' is (ap texts_of got);
}

pub said_floods : (d : Dif) (flows : Flows) → SameTexts d.connections.flows.journal.ends flows.journal.ends → AreFlooding d → AreFlooding (record d { connections = record d.connections { flows = flows } })
said_floods d flows same r =
    let s = members_seen d in
    let P : MembersSeen → Type 0 = λ z. IsRunOf d.laid.is_static d.laid.links z in
    let is : members_seen (record d { connections = record d.connections { flows = flows } }) ≡ s = (λ i. record { members = s.members; agents = s.agents; now = s.now; ends = s.ends; sent = λ place. same.sent place i; got = λ place. same.got place i }) in
    subst P (sym is) r

-- the journal of the connections stays
pub journal_floods : (d : Dif) (flows : Flows) → flows.journal ≡ d.connections.flows.journal → AreFlooding d → AreFlooding (record d { connections = record d.connections { flows = flows } })
journal_floods d flows same r = said_floods d flows (subst (λ (j : Journal). SameTexts d.connections.flows.journal.ends j.ends) (sym same) (none_said d.connections.flows.journal.ends)) r

-- what a connection got before a piece stays
arrived_got : (k : Constants) (p : Piece) (line : Direction) (got : List Entry) → line.inbox.got ≡ got → (more : List Entry) × ((arrived k p line).inbox.got ≡ got ++ more)
arrived_got k p line got is = (map (entry_for k (found k line).line.clock) (joined_by k p line), ap (λ (xs : List Entry). xs ++ map (entry_for k (found k line).line.clock) (joined_by k p line)) (found_got k line ∙ is))

same_some : {X : Type 0} (o : Option X) (a b : X) → o ≡ Some a → o ≡ Some b → a ≡ b
same_some o a b h g = cc

module _ (m : ChannelsSeen) (lines : List Direction) (processes : List Process) (below : Seen) (st : IsStanding m lines processes below) (port : Port) (pdu : Pdu) (dropped : List Off) (m' : ChannelsSeen) (lines' : List Direction) where
  piece_said : (cause : Option Cause) → TakesPiece m lines port pdu cause dropped m' lines' → SameTexts m.ends m'.ends
  piece_said cause s =
      let a = s.arrives in
      let g = link_config m.config m.manage in
      let k = constants g a.cube (flipped a.its_ids) in
      let piece = piece_in (named s.channel.partner s.place pdu) in
      let is = a.place.is_conn.end in
      let same : s.end ≡ a.end = same_some (slice_get m.ends s.place) s.end a.end s.taker.takes.is_conn.end is in
      let allocated = ap (λ (e : End). e.state) (sym same) ∙ s.taker.takes.allocated in
      let their = st.journal.named a.from s.place a.inbound.partner a.end a.inbound.is_partner is a.inbound.partners in
      let flow = direction_in g m.clock (LinkCloud m.config m.channels processes below) [] m.ends m.ids lines st.own a.from s.place a.inbound.partner a.end a.its_ids a.line a.inbound.is_partner a.place.is_conn a.inbound.is_line a.inbound.partners allocated their.cube in
      let grows = arrived_got k piece a.line a.end.got flow.got in
      let whole = (st.journal.whole s.place a.end is).taken in
      let handled : take a.end.taken (arrived k piece a.line).inbox.got ≡ take a.end.taken a.end.got = ap (take a.end.taken) grows.1 ∙ take-append-le a.end.taken a.end.got grows.0 whole in
      let ends : m'.ends ≡ slice_set m.ends s.place (record a.end { got = (arrived k piece a.line).inbox.got }) = ap (λ (z : ChannelsSeen). z.ends) s.new_is ∙ a.arrived.2 in
      subst (SameTexts m.ends) (sym ends) (set_said m.ends s.place a.end _ is refl handled)

  pub taken_said : (end : Took) → TakesOnLink m lines port pdu end dropped m' lines' → SameTexts m.ends m'.ends
  taken_said took.Accepted (inl s) = piece_said None s
  taken_said took.Accepted (inr s) = subst (λ (z : ChannelsSeen). SameTexts m.ends z.ends) (sym s.0.new_is) (none_said m.ends)
  taken_said took.Relayed s = absurd s
  taken_said (took.Off (causes.NoConnection cep)) s = subst (λ (z : ChannelsSeen). SameTexts m.ends z.ends) (sym s.3) (none_said m.ends)
  taken_said (took.Off (causes.Expired left charge)) s = piece_said _ s
  taken_said (took.Off (causes.NoRoute dst)) s = piece_said _ s
  taken_said (took.Off (causes.QueueFull cap)) s = piece_said _ s
  taken_said (took.Off (causes.Duplicate num)) s = piece_said _ s
  taken_said (took.Off (causes.Behind number)) s = piece_said _ s
  taken_said (took.Off (causes.NoState drf)) s = piece_said _ s
  taken_said (took.Off (causes.NoRoom cap)) s = piece_said _ s
  taken_said (took.Off (causes.StateGone last_in)) s = piece_said _ s
  taken_said (took.Off (causes.Broken missing)) s = piece_said _ s
  taken_said (took.Off (causes.LinkDown down)) s = piece_said _ s

-- A link is lost

-- each place is that of a side of a link
pub side_at : (k : ℕ) → (l : ℕ) × (side : Side) × (end_place l side ≡ k)
side_at zero = (0, Near, refl)
side_at (suc k) = next (side_at k)
  where
    next : (l : ℕ) × (side : Side) × (end_place l side ≡ k) → (l : ℕ) × (side : Side) × (end_place l side ≡ suc k)
    next (l, Near, is) = (l, Far, omega (arith, is))
    next (l, Far, is) = (l + 1, Near, omega (arith, is))

-- where a loss is not refused, and the link is up, a version count is left
not_refused : (g g' : Agent) (now number : ℕ) (up : Bool) (o : Option AgentError) → was_up (find (is_numbered number) g.links) ≡ up → cond up (unless o (dropped (stated (Some number) g now) number)) (Ok (dropped g number)) ≡ Ok g' → was_up (find (is_numbered number) g.links) ≡ true → o ≡ None
not_refused g g' now number up None is done on = refl
not_refused g g' now number true (Some e) is done on = absurd (cc)
not_refused g g' now number false (Some e) is done on = absurd (true≢false (sym on ∙ is))

-- the ends once a link is lost: that of the link is gone, and all others stay
module _ (d : Dif) (at number : ℕ) (p p' : IpcProcess) (link : Link) (lost : LosesOne d.processes at p p' link) (c : HasConnection d.connections.channels at number link.port) (apart : (j k : ℕ) (a b : Channel) (port : Port) → slice_get d.connections.channels j ≡ Some a → slice_get d.connections.channels k ≡ Some b → IsOnPort a port → IsOnPort b port → j ≡ k) where
  abbrev ends_of : List IpcProcess → List LinkEnd
  ends_of ps = map (link_end ps) d.connections.channels

  abbrev ps' : List IpcProcess
  ps' = slice_set d.processes at p'

  -- an attachment of another channel is of another link
  other_link : (k : ℕ) (x : Channel) (a : Attachment) → slice_get d.connections.channels k ≡ Some x → x.link ≡ Some a → (k ≡ c.place → ⊥) → is_link_of a link ≡ false
  other_link k x a is attached other = elim (cases_Bool (is_link_of a link)) [
    | inl same ↦
        (let its = is_its_link a link same in
        absurd (other (apart k c.place x c.channel link.port is c.is_channel (record { link = a; link_is = attached; port_is = sym its.2 }) (record { link = c.attached; link_is = c.attached_is; port_is = c.port_is }))))
    | inr differs ↦ differs
  ]

  other_state : (k : ℕ) (x : Channel) (o : Option Attachment) → slice_get d.connections.channels k ≡ Some x → x.link ≡ o → (k ≡ c.place → ⊥) → state_by ps' x.member o ≡ state_by d.processes x.member o
  other_state k x None is attached other = refl
  other_state k x (Some a) is attached other = ap (λ (b : Bool). cond b (There a.number) Gone) (others_live d.processes at p p' link lost x.member a (other_link k x a is attached other))

  other_end : (k : ℕ) (x : Channel) → slice_get d.connections.channels k ≡ Some x → (k ≡ c.place → ⊥) → link_end ps' x ≡ link_end d.processes x
  other_end k x is other = (let state = other_state k x x.link is refl other in λ i. record { member = x.member; state = state i })

  but_one : ends_of ps' ≡ slice_set (ends_of d.processes) c.place (link_end ps' c.channel)
  but_one = same_but_one (link_end d.processes) (link_end ps') d.connections.channels c.place c.channel c.is_channel other_end

  -- the end was there
  abbrev pub its_end : LinkEnd
  its_end = record { member = at; state = There number }

  pub end_was : HasLive (map process_of d.processes) at number link.port → link_end d.processes c.channel ≡ its_end
  end_was live =
      let here : HasLive (map process_of d.processes) c.channel.member c.attached.number c.attached.port = subst (λ (k : ℕ). HasLive (map process_of d.processes) k c.attached.number c.attached.port) (sym c.member_is) (subst (λ (n : ℕ). HasLive (map process_of d.processes) at n c.attached.port) (sym c.number_is) (subst (HasLive (map process_of d.processes) at number) (sym c.port_is) live)) in
      let state : state_by d.processes c.channel.member c.channel.link ≡ There number = ap (state_by d.processes c.channel.member) c.attached_is ∙ state_there d.processes c.channel.member c.attached here ∙ ap (λ (n : ℕ). There n) c.number_is in
      (λ i. record { member = c.member_is i; state = state i })

  -- it is gone
  end_now : link.number ≡ number → link_end ps' c.channel ≡ record its_end { state = Gone }
  end_now number_is =
      let dead : is_live_at ps' at c.attached ≡ false = lost_not_live d.processes at p p' link lost c.attached (number_is ∙ sym c.number_is) in
      let its : is_live_at ps' c.channel.member c.attached ≡ false = ap (λ (k : ℕ). is_live_at ps' k c.attached) c.member_is ∙ dead in
      let gone : state_by ps' c.channel.member c.channel.link ≡ Gone = ap (state_by ps' c.channel.member) c.attached_is ∙ ap (λ (b : Bool). cond b (There c.attached.number) Gone) its in
      (λ i. record { member = c.member_is i; state = gone i })

  pub ends_now : link.number ≡ number → ends_of ps' ≡ slice_set (ends_of d.processes) c.place (record its_end { state = Gone })
  ends_now number_is = but_one ∙ ap (slice_set (ends_of d.processes) c.place) (end_now number_is)

pub lost_floods : (d : Dif) (below : Seen) (at number : ℕ) (m : Member) (p p' : IpcProcess) (g g' : Management) (link : Link) → LinksStand d below → slice_get d.settings.members at ≡ Some m → slice_get d.managements at ≡ Some g → LosesOne d.processes at p p' link → link.number ≡ number
    → loses_link g.agent d.clock number ≡ Ok g'.agent → AreFlooding d → AreFlooding (record d { processes = slice_set d.processes at p'; managements = slice_set d.managements at g' })
lost_floods d below at number m p p' g g' link links is_m is_g one number_is loses r =
    let new : Dif = record d { processes = slice_set d.processes at p'; managements = slice_set d.managements at g' } in
    let shown : slice_get (map process_of d.processes) at ≡ Some (process_of p) = slice_get-map process_of d.processes at ∙ ap (λ (o : Option IpcProcess). option_map process_of o) one.is in
    let has_live : HasLive (map process_of d.processes) at number link.port = record { process = process_of p; is_process = shown; place = one.place; link = link; stands = one.stands; live = one.live; number_is = number_is; port_is = refl } in
    let c = links.each at number link.port has_live in
    let apart = links.standing.channels.apart in
    let side = side_at c.place in
    let end : LinkEnd = record { member = at; state = There number } in
    let agent : slice_get (agents_of d.managements) at ≡ Some g.agent = slice_get-map (λ (z : Management). z.agent) d.managements at ∙ ap (option_map (λ (z : Management). z.agent)) is_g in
    let ends : List LinkEnd = map (link_end d.processes) d.connections.channels in
    let is_end : slice_get ends (end_place side.0 side.1) ≡ Some end = ap (slice_get ends) side.2 ∙ slice_get-map (link_end d.processes) d.connections.channels c.place ∙ ap (option_map (link_end d.processes)) c.is_channel ∙ ap (λ (e : LinkEnd). Some e) (end_was d at number p p' link one c apart has_live) in
    let now = ends_now d at number p p' link one c apart number_is in
    let event : LosesLinkAt (members_seen d) (members_seen new) = record {
      link = side.0;
      side = side.1;
      end = end;
      agent = g.agent;
      at = record { is_end = is_end; is_agent = agent };
      number = number;
      there = refl;
      may = not_refused g.agent g'.agent d.clock number (was_up (find (is_numbered number) g.agent.links)) (spent 1 g.agent.last_count) refl loses;
      after = g'.agent;
      loses = loses;
      members = refl;
      ends = inr (subst (λ (k : ℕ). (members_seen new).ends ≡ slice_set ends k (record end { state = Gone })) (sym side.2) now);
      now = refl;
      agents = map-set (λ (z : Management). z.agent) d.managements at g';
      sent = λ k. refl;
      got = λ k. refl;
    } in
    loses_run d.laid.is_static d.laid.links (members_seen d) (members_seen new) r event

-- A directory entry is made

pub made_floods : (d : Dif) (at : ℕ) (g g' : Management) (app : List ℕ) (value : Option (List ℕ)) → slice_get d.managements at ≡ Some g → spent 1 g.agent.last_count ≡ None → g'.agent ≡ made None g.agent d.clock (key_of app) value → AreFlooding d → AreFlooding (record d { managements = slice_set d.managements at g' })
made_floods d at g g' app value is_g may makes r = makes_run d.laid.is_static d.laid.links (members_seen d) (members_seen (record d { managements = slice_set d.managements at g' })) r (record {
  place = at;
  agent = g.agent;
  is_agent = slice_get-map (λ (z : Management). z.agent) d.managements at ∙ ap (option_map (λ (z : Management). z.agent)) is_g;
  room = may;
  app = app;
  value = value;
  stays = record { members = refl; ends = refl };
  now = refl;
  agents = map-set (λ (z : Management). z.agent) d.managements at g' ∙ ap (slice_set (agents_of d.managements) at) makes;
  sent = λ k. refl;
  got = λ k. refl;
})

-- A directory entry is taken by all

entered_all : (app : List ℕ) (address : ℕ) (ms : List Management) → agents_of (map (entered app address) ms) ≡ map (λ a. takes_item a (entry_of app address)) (agents_of ms)
unfolding entered
entered_all app address [] = refl
entered_all app address (m ∷ ms) = ap (λ (gs : List Agent). takes_item m.agent (entry_of app address) ∷ gs) (entered_all app address ms)

pub entered_floods : (d : Dif) (app : List ℕ) (far : Member) (ms : List Management) → Contains d.settings.members far → ((k : ℕ) (g : Management) → slice_get d.managements k ≡ Some g → g.agent.state ≡ Enrolled) → agents_of ms ≡ agents_of (map (entered app far.addr) d.managements) → AreFlooding d → AreFlooding (record d { managements = ms })
entered_floods d app far ms among enrolled are r = takes_run d.laid.is_static d.laid.links (members_seen d) (members_seen (record d { managements = ms })) r (record {
  app = app;
  at = far;
  among = among;
  enrolled = λ k a is. (let g = map_at (λ (z : Management). z.agent) d.managements k a is in ap (λ (z : Agent). z.state) (sym g.2) ∙ enrolled k g.0 g.1);
  stays = record { members = refl; ends = refl };
  now = refl;
  agents = are ∙ entered_all app far.addr d.managements;
  sent = λ k. refl;
  got = λ k. refl;
})
