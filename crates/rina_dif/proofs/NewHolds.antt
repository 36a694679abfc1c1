-- A DIF holds after one of its IPC processes took an end below as a new link.
use Rattle.std.proofs.Common.{◌≡◌, ◌∙◌, ◌⊎◌, ◌<◌, ℕ, true, List, length, map, slice_get, slice_set, Option, Some, refl, sym, ap, subst, arith, inl, inr}
use Rattle.std.proofs.lemmas.Bool.{true≢false}
use Rattle.std.proofs.lemmas.List.{length-map}
use Rattle.std.proofs.lemmas.Option.{slice_get_within}
use Rattle.rina_base.specs.declared.number.Port.{Port}
use Rattle.rina_channel.specs.declared.channel.Attachment.{Attachment}
use Rattle.rina_channel.specs.declared.channel.Channel.{Channel}
use Rattle.rina_channel.specs.Making.{IsClaimed as IsClaimedBy, IsLinkLive, IsNewFlow}
use Rattle.rina_data.specs.declared.process.IpcProcess.{IpcProcess}
use Rattle.rina_data.specs.declared.settings.Member.{Member}
use Rattle.rina_data.specs.Configs.{config_of, member_of}
use Rattle.rina_data.specs.Deciding.{process_of, queue_settings}
use Rattle.rina_data.proofs.Finding.{there}
use Rattle.rina_dif_law.specs.Accounted.{IsAccounted}
use Rattle.rina_dif_law.specs.Carried.{IsCarrying}
use Rattle.rina_dif_law.specs.Caused.{AreCaused}
use Rattle.rina_dif_law.specs.Dif.{DifSeen}
use Rattle.rina_dif_law.specs.Numbered.{IsNumbered}
use Rattle.rina_dif_law.specs.Standing.{IsStanding}
use Rattle.rina_dif_law.specs.Written.{AreWrittenOff}
use Rattle.rina_iface.specs.Seen.{Seen}
use Rattle.rina_law.specs.Direction.{Direction}
use Rattle.rina_member.specs.declared.management.Management.{Management}
use Rattle.rina_dif.specs.declared.connections.Connections.{Connections}
use Rattle.rina_dif.specs.declared.dif.Dif.{Dif}
use Rattle.rina_dif.specs.Claiming.{TakesClaimed, channels_of}
use Rattle.rina_dif.specs.Enrolling.{ConnectsJoiner, JoinsManaged, LinksUp, far_channel, near_channel}
use Rattle.rina_dif.specs.Connected.{AreConnected}
use Rattle.rina_dif.specs.Flooding.{AreFlooding}
use Rattle.rina_dif.specs.Holding.{AreHoused, Holds}
use Rattle.rina_dif.specs.LinkTaking.{CanTakeLink, HoldsOfFlows, with_ipc}
use Rattle.rina_dif.specs.NewLinks.{CanClaim, CanJoin}
use Rattle.rina_dif.specs.Shown.{seen_of}
use Rattle.rina_dif.proofs.NewConnected.{claimed_connected, claimed_is, joiner_connected, joiner_ready}
use Rattle.rina_dif.proofs.NewFlooded.{claimed_floods, joined_floods}
use Rattle.rina_dif.proofs.LinkTaken.{of_flows, taken_holds}
use Rattle.rina_dif.proofs.NewLive.{link_lives, none_waits}
use Rattle.rina_dif.proofs.NewManaged.{claimed_enrolled, claimed_managed, joined_enrolled, joined_managed}
use Rattle.rina_dif.proofs.Unlinked.{keeps_links}
use Rattle.rina_dif.proofs.WaitsOnLive.{all_on_live}

-- Flows

-- what holds of flows is nothing to the managements and the management connections, but for the cube of these
flows_beside : (d : Dif) (lines : List Direction) (below : Seen) (i : ℕ) (link : Attachment) (ps : List IpcProcess) (c : Connections) (ms : List Management) (up : LinksUp i link d.processes ps) → c.manage ≡ d.connections.manage → HoldsOfFlows (with_ipc d i up.after) lines below → HoldsOfFlows (record d { processes = ps; connections = c; managements = ms }) lines below
flows_beside d lines below i link ps c ms up manage h =
    let taken : Dif = with_ipc d i up.after in
    let new : Dif = record d { processes = ps; connections = c; managements = ms } in
    let same : seen_of taken ≡ seen_of new = (λ k. record (seen_of d) { manage = sym manage k; processes = map process_of (sym up.are k) }) in
    record {
      tied = h.tied;
      standing = subst (λ (z : DifSeen). IsStanding z lines below) same h.standing;
      carrying = subst (λ (z : DifSeen). IsCarrying z lines below) same h.carrying;
      numbered = subst (λ (z : DifSeen). IsNumbered z below) same h.numbered;
      accounted = subst (λ (z : DifSeen). IsAccounted z lines below) same h.accounted;
      caused = subst (λ (z : DifSeen). AreCaused z below) same h.caused;
      written_off = subst AreWrittenOff same h.written_off;
      housed = subst (AreHoused (config_of d.settings)) (sym up.are) h.housed;
    }

-- A flow that was asked for

-- the IPC process of place i takes the flow to the member of place j as a link of its own
pub record TakesAsked (d : Dif) (i j : ℕ) (joiner member : Member) (link : Attachment) (d' : Dif) : Type 0 where
  pub is_joiner : slice_get d.settings.members i ≡ Some joiner
  pub is_member : slice_get d.settings.members j ≡ Some member
  pub links : LinksUp i link d.processes d'.processes
  pub connects : ConnectsJoiner d.settings d.clock i j joiner member link d.connections d'.connections
  pub joins : JoinsManaged d i link.number member d'.managements
  pub only : d' ≡ record d { processes = d'.processes; connections = d'.connections; managements = d'.managements }

module _ (d d' : Dif) (lines : List Direction) (below : Seen) (i j : ℕ) (joiner member : Member) (link : Attachment) (e : TakesAsked d i j joiner member link d') (h : Holds d lines below) (can : CanTakeLink d below i e.links.process link) (joins : CanJoin d below i j link) where
  abbrev after : Dif
  after = record d { processes = d'.processes; connections = d'.connections; managements = d'.managements }

  new_flow : IsNewFlow (channels_of d) (seen_of d).processes below (near_channel e.connects.place i link) (far_channel e.connects.place j)
  new_flow = subst (λ (n : ℕ). IsNewFlow (channels_of d) (seen_of d).processes below (near_channel n i link) (far_channel n j)) (sym e.connects.place_is) joins.flow

  becomes : IsLinkLive (seen_of d).processes i link (map process_of d'.processes)
  becomes = link_lives i link d.processes d'.processes e.links (none_waits i link d.processes d'.processes e.links (all_on_live (config_of d.settings) d.processes h.housed))

  pub enrolled_holds : Holds d' lines below
  enrolled_holds =
      let flows : HoldsOfFlows (with_ipc d i e.links.after) lines below = taken_holds d lines below i e.links.process e.links.after link can e.links.takes (of_flows d lines below h) in
      let f = flows_beside d lines below i link d'.processes d'.connections d'.managements e.links e.connects.manage_is flows in
      let all : Holds after lines below = record {
        tied = f.tied;
        standing = f.standing;
        carrying = f.carrying;
        numbered = f.numbered;
        accounted = f.accounted;
        caused = f.caused;
        written_off = f.written_off;
        housed = f.housed;
        managed = joined_managed d i link.number joiner member link d'.processes d'.managements (joins.plan member e.is_member) h.managed joins.room e.is_joiner (joins.name member e.is_member) refl e.links e.joins;
        enrolled = joined_enrolled d i link.number member d'.managements h.enrolled e.joins;
        connected = joiner_connected d.settings d.clock i j joiner member link d.connections d'.connections (seen_of d).processes below h.connected e.connects new_flow (map process_of d'.processes) becomes;
        flooded = λ alive. joined_floods d below i j joiner joiner member link d'.processes d'.connections d'.managements h.connected h.managed e.is_joiner e.is_member e.links e.connects e.joins (joins.counts e.joins.management e.joins.is_management) new_flow (h.flooded alive);
      } in
      subst (λ (z : Dif). Holds z lines below) (sym e.only) all

-- A far end that was claimed

module _ (d d' : Dif) (lines : List Direction) (below : Seen) (i number : ℕ) (port : Port) (t : TakesClaimed d below i number port d') (h : Holds d lines below) (can : CanTakeLink d below i t.links.process (record { number = number; port = port })) (may : CanClaim d below i (record { number = number; port = port })) where
  abbrev its_link : Attachment
  its_link = record { number = number; port = port }

  abbrev taken : Dif
  taken = record d { processes = d'.processes; connections = d'.connections; managements = d'.managements }

  within : i < length d.settings.members
  within =
      let here = slice_get_within d.processes i t.links.process t.links.is_process in
      let shown = length-map d.processes process_of in
      let kept = length-map d.settings.members member_of in
      let aligned = h.standing.aligned in
      omega (arith, here, shown, kept, aligned)

  abbrev member : (m : Member) × (slice_get d.settings.members i ≡ Some m)
  member = there d.settings.members i within

  abbrev management : (g : Management) × (slice_get d.managements i ≡ Some g)
  management = there d.managements i (let lt = within in let aligned = h.managed.aligned in omega (arith, lt, aligned))

  its_member : t.gets.channel.member ≡ i
  its_member = ap (λ (c : Channel). c.member) (same_some (slice_get d.connections.channels t.place) t.gets.channel t.awaits.channel t.gets.stands t.awaits.stands) ∙ t.awaits.member_is
    where
      same_some : (o : Option Channel) (a b : Channel) → o ≡ Some a → o ≡ Some b → a ≡ b
      same_some o a b p q = cc

  goes_live : IsLinkLive (seen_of d).processes t.gets.channel.member its_link (map process_of d'.processes)
  goes_live = subst (λ (n : ℕ). IsLinkLive (seen_of d).processes n its_link (map process_of d'.processes)) (sym its_member) (link_lives i its_link d.processes d'.processes t.links (none_waits i its_link d.processes d'.processes t.links (all_on_live (config_of d.settings) d.processes h.housed)))

  abbrev with_link : Connections
  with_link = record d.connections { channels = slice_set d.connections.channels t.place (record t.gets.channel { link = Some its_link }) }

  abbrev gets : IsClaimedBy (channels_of d) below t.place its_link (channels_of taken)
  gets = record { channel = t.gets.channel; stands = t.gets.stands; none = t.gets.none; partner = t.gets.partner; is_partner = t.gets.is_partner; near = t.gets.near; on_port = t.gets.on_port; flow = t.gets.flow; new_is = ap channels_of (sym t.only) ∙ t.gets.new_is }

  connections_are : d'.connections ≡ with_link
  connections_are = claimed_is (config_of d.settings) d.clock its_link d.connections d'.connections (seen_of d).processes below t.place may.kept h.connected gets t.connections

  floods : AreFlooding d → AreFlooding taken
  floods r = subst (λ (c : Connections). AreFlooding (record d { processes = d'.processes; connections = c; managements = d'.managements })) (sym connections_are)
      (claimed_floods d below i t.place member.0 its_link d'.processes (channels_of taken) management.0 d'.managements h.connected h.managed member.1 management.1 t.links gets its_member t.managements r)

  pub claimed_holds : Holds d' lines below
  claimed_holds =
      let flows : HoldsOfFlows (with_ipc d i t.links.after) lines below = taken_holds d lines below i t.links.process t.links.after its_link can t.links.takes (of_flows d lines below h) in
      let f = flows_beside d lines below i its_link d'.processes d'.connections d'.managements t.links (ap (λ (c : Connections). c.manage) connections_are) flows in
      let all : Holds taken lines below = record {
        tied = f.tied;
        standing = f.standing;
        carrying = f.carrying;
        numbered = f.numbered;
        accounted = f.accounted;
        caused = f.caused;
        written_off = f.written_off;
        housed = f.housed;
        managed = claimed_managed d i number member.0 management.0 its_link d'.processes d'.managements may.plan h.managed may.room member.1 management.1 refl t.links t.managements;
        enrolled = claimed_enrolled d i number management.0 d'.managements h.enrolled management.1 t.managements;
        connected = claimed_connected (config_of d.settings) d.clock its_link d.connections d'.connections (seen_of d).processes below t.place may.kept h.connected gets t.connections (map process_of d'.processes) goes_live;
        flooded = λ alive. floods (h.flooded alive);
      } in
      subst (λ (z : Dif). Holds z lines below) (sym t.only) all

-- Without memory

-- other management connections of the same cube, once an allocation has failed
pub connections_hold : (d : Dif) (lines : List Direction) (below : Seen) (c : Connections) → c.manage ≡ d.connections.manage → AreConnected (config_of d.settings) d.clock c (seen_of d).processes below → Holds d lines below → Holds (record d { connections = c; failed = true }) lines below
connections_hold d lines below c manage connected h =
    let same : seen_of d ≡ seen_of (record d { connections = c; failed = true }) = (λ k. record (seen_of d) { manage = sym manage k }) in
    record {
      tied = h.tied;
      standing = subst (λ (z : DifSeen). IsStanding z lines below) same h.standing;
      carrying = subst (λ (z : DifSeen). IsCarrying z lines below) same h.carrying;
      numbered = subst (λ (z : DifSeen). IsNumbered z below) same h.numbered;
      accounted = subst (λ (z : DifSeen). IsAccounted z lines below) same h.accounted;
      caused = subst (λ (z : DifSeen). AreCaused z below) same h.caused;
      written_off = subst AreWrittenOff same h.written_off;
      housed = h.housed;
      managed = h.managed;
      enrolled = h.enrolled;
      connected = connected;
      flooded = λ alive. absurd (true≢false alive);
    }

-- both ends of the management connection may be made already, which are then no live link's, and the IPC process shows what it showed
pub joins_not : (d d' : Dif) (lines : List Direction) (below : Seen) (i j : ℕ) (joiner member : Member) (link : Attachment) (p p' : IpcProcess) → slice_get d.processes i ≡ Some p → process_of p' ≡ process_of p → queue_settings p' ≡ queue_settings p → d'.processes ≡ slice_set d.processes i p'
    → (d'.connections ≡ d.connections) ⊎ ConnectsJoiner d.settings d.clock i j joiner member link d.connections d'.connections → d' ≡ record d { processes = d'.processes; connections = d'.connections }
    → IsNewFlow (channels_of d) (seen_of d).processes below (near_channel (length d.connections.channels) i link) (far_channel (length d.connections.channels) j) → Holds d lines below → Holds (record d' { failed = true }) lines below
joins_not d d' lines below i j joiner member link p p' is same room are connects only flow h =
    let kept = keeps_links d lines below i p p' d'.processes is same room are h in
    let mid : Dif = record d { processes = d'.processes } in
    let all : Holds (record mid { connections = d'.connections; failed = true }) lines below = elim connects [
      | inl stay ↦ connections_hold mid lines below d'.connections (ap (λ (c : Connections). c.manage) stay) (subst (λ (c : Connections). AreConnected (config_of d.settings) d.clock c (seen_of mid).processes below) (sym stay) kept.1.connected) kept.1
      | inr x ↦
          let new : IsNewFlow (channels_of mid) (seen_of mid).processes below (near_channel x.place i link) (far_channel x.place j) = subst (λ (z : DifSeen). IsNewFlow (channels_of d) z.processes below (near_channel x.place i link) (far_channel x.place j)) (sym kept.0) (subst (λ (n : ℕ). IsNewFlow (channels_of d) (seen_of d).processes below (near_channel n i link) (far_channel n j)) (sym x.place_is) flow) in
          connections_hold mid lines below d'.connections x.manage_is (joiner_ready d.settings d.clock i j joiner member link d.connections d'.connections (seen_of mid).processes below kept.1.connected x new) kept.1
    ] in
    subst (λ (z : Dif). Holds (record z { failed = true }) lines below) (sym only) all
