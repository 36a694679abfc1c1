-- The members of a DIF stay a network in which what one of them makes is flooded to all, as one of them gets a new link: one that it asked for, or one that
-- it claimed.
use Rattle.std.proofs.Common.{◌≡◌, ◌∙◌, ℕ, zero, suc, ◌*◌, List, [], ◌∷◌, ◌++◌, length, map, slice_get, slice_set, Option, Some, None, refl, sym, ap, subst, arith}
use Rattle.std.proofs.lemmas.List.{length-map, map-append, map-set}
use Rattle.std.proofs.lemmas.Option.{same_Some, slice_get-map, slice_get_past, slice_get_within}
use Rattle.std.specs.Prelude.{option_map}
use Rattle.rina_agent.specs.Counts.{spent}
use Rattle.rina_channel.specs.declared.channel.Attachment.{Attachment}
use Rattle.rina_channel.specs.declared.channel.Channel.{Channel}
use Rattle.rina_channel.specs.Channels.{AreChannels, ChannelsSeen, IsOnPort, IsSilent}
use Rattle.rina_channel.specs.Making.{IsClaimed as IsClaimedBy, IsNewFlow}
use Rattle.rina_data.specs.declared.process.IpcProcess.{IpcProcess}
use Rattle.rina_data.specs.declared.settings.Member.{Member}
use Rattle.rina_flood.specs.Members.{ClaimsLink, IsUnused, JoinsLink}
use Rattle.rina_flood.specs.Network.{Side, Near, Far, There, Unmade}
use Rattle.rina_flood.specs.Static.{LinkEnd, end_place}
use Rattle.rina_flood.proofs.Members.{claims_link_run, joins_run}
use Rattle.rina_iface.specs.declared.ends.End.{End}
use Rattle.rina_iface.specs.Seen.{Seen}
use Rattle.rina_member.specs.declared.management.Management.{Management}
use Rattle.rina_member.specs.Managements.{claimed}
use Rattle.rina_member.specs.Start.{node_of}
use Rattle.rina_dif.specs.declared.connections.Connections.{Connections}
use Rattle.rina_dif.specs.declared.dif.Dif.{Dif}
use Rattle.rina_dif.specs.Changing.{changed_at}
use Rattle.rina_dif.specs.Claiming.{channels_of, with_claimed}
use Rattle.rina_dif.specs.Enrolling.{ConnectsJoiner, JoinsManaged, LinksUp, far_channel, joins_on, near_channel}
use Rattle.rina_dif.specs.Flooding.{AreFlooding, handled_at, link_end, members_seen, offered_at, state_by}
use Rattle.rina_dif.specs.Holding.{LinksStand}
use Rattle.rina_dif.specs.LinkTaking.{link_of}
use Rattle.rina_dif.specs.Managing.{AreManaged, agents_of}
use Rattle.rina_dif.specs.Shown.{seen_of}
use Rattle.rina_dif.proofs.Flooding.{side_at}
use Rattle.rina_dif.proofs.LinkEnds.{state_there}
use Rattle.rina_dif.proofs.LinkNumbers.{free_number}
use Rattle.rina_dif.proofs.NewConnected.{even_channels}
use Rattle.rina_dif.proofs.NewLinks.{AddsOne, added_ends, is_unused}
use Rattle.rina_dif.proofs.NewLive.{new_live}
use Rattle.rina_dif.proofs.NewManaged.{changed_here}

-- A link more

adds_one : (i : ℕ) (link : Attachment) (old new : List IpcProcess) (up : LinksUp i link old new) → AddsOne old i up.process up.after (link_of link)
adds_one i link old new up = record { is = up.is_process; links_are = up.takes.links }

-- the ends of the channels that were there stay
ends_beside : (i : ℕ) (link : Attachment) (old new : List IpcProcess) (up : LinksUp i link old new) (channels : List Channel) → ((k : ℕ) (channel : Channel) → slice_get channels k ≡ Some channel → IsOnPort channel link.port → ⊥) → map (link_end new) channels ≡ map (link_end old) channels
ends_beside i link old new up channels silent = ap (λ (ps : List IpcProcess). map (link_end ps) channels) up.are ∙ added_ends channels old i up.process up.after (link_of link) (adds_one i link old new up) silent

-- the end of the new link is there
state_new : (i : ℕ) (link : Attachment) (old new : List IpcProcess) (up : LinksUp i link old new) → state_by new i (Some link) ≡ There link.number
state_new i link old new up = state_there new i link (new_live i link old new up)

-- Two ends more, at which nothing was offered or handled

more_reads : {Y : Type 0} (f : Option End → Y) (ends : List End) (a b : End) → f (Some a) ≡ f None → f (Some b) ≡ f None → (k : ℕ) → f (slice_get (ends ++ a ∷ b ∷ []) k) ≡ f (slice_get ends k)
more_reads f [] a b first second zero = first
more_reads f [] a b first second (suc zero) = second
more_reads f [] a b first second (suc (suc k)) = refl
more_reads f (e ∷ ends) a b first second zero = refl
more_reads f (e ∷ ends) a b first second (suc k) = more_reads f ends a b first second k

none_past : (ends : List End) (place : ℕ) → slice_get ends place ≡ None → offered_at (slice_get ends place) ≡ []
none_past ends place none = ap offered_at none

-- A flow that was asked for

module _ (d : Dif) (below : Seen) (i j : ℕ) (m joiner member : Member) (link : Attachment) (ps' : List IpcProcess) (c' : Connections) (ms' : List Management) (links : LinksStand d below) (managed : AreManaged d) (is_m : slice_get d.settings.members i ≡ Some m) (is_member : slice_get d.settings.members j ≡ Some member) (up : LinksUp i link d.processes ps') (x : ConnectsJoiner d.settings d.clock i j joiner member link d.connections c') (joins : JoinsManaged d i link.number member ms') (room : spent 1 joins.management.agent.last_invoke ≡ None) (new : IsNewFlow (channels_of d) (seen_of d).processes below (near_channel x.place i link) (far_channel x.place j)) where
  abbrev g : Management
  g = joins.management

  abbrev channels : List Channel
  channels = d.connections.channels

  abbrev ends : List End
  ends = d.connections.flows.journal.ends

  abbrev after : Dif
  after = record d { processes = ps'; connections = c'; managements = ms' }

  abbrev even : (l : ℕ) × (length channels ≡ 2 * l)
  even = even_channels (channels_of d) (seen_of d).processes below links.standing.channels links.paired

  silent : (k : ℕ) (channel : Channel) → slice_get channels k ≡ Some channel → IsOnPort channel link.port → ⊥
  silent k channel is on =
      let same : link ≡ new.link = same_Some link new.link new.is_new.link_is in
      new.is_new.others k channel is (subst (λ (a : Attachment). IsOnPort channel a.port) same on)

  abbrev near_end : LinkEnd
  near_end = record { member = i; state = There link.number }

  abbrev far_end : LinkEnd
  far_end = record { member = j; state = Unmade }

  ends_more : map (link_end ps') c'.channels ≡ map (link_end d.processes) channels ++ near_end ∷ far_end ∷ []
  ends_more =
      let near : link_end ps' (near_channel x.place i link) ≡ near_end = (let s = state_new i link d.processes ps' up in λ k. record { member = i; state = s k }) in
      ap (map (link_end ps')) x.channels_are ∙ map-append (link_end ps') channels (near_channel x.place i link ∷ far_channel x.place j ∷ [])
      ∙ ap (λ (es : List LinkEnd). es ++ link_end ps' (near_channel x.place i link) ∷ far_end ∷ []) (ends_beside i link d.processes ps' up channels silent)
      ∙ ap (λ (e : LinkEnd). map (link_end d.processes) channels ++ e ∷ far_end ∷ []) near

  -- nothing was offered behind them
  unsent : (side : Side) → offered_at (slice_get ends (end_place even.0 side)) ≡ []
  unsent Near = none_past ends (end_place even.0 Near) (slice_get_past ends (end_place even.0 Near) (let long = even.1 in let alike = links.standing.channels.alike in omega (arith, long, alike)))
  unsent Far = none_past ends (end_place even.0 Far) (slice_get_past ends (end_place even.0 Far) (let long = even.1 in let alike = links.standing.channels.alike in omega (arith, long, alike)))

  asks : JoinsLink (members_seen d) (members_seen after)
  asks = record {
    link = even.0;
    behind = length-map channels (link_end d.processes) ∙ even.1;
    place = i;
    far = j;
    within = slice_get_within d.settings.members j member is_member;
    agent = g.agent;
    number = link.number;
    unused = is_unused d i link.number m up.process g managed is_m up.is_process joins.is_management (free_number up.process.links link.number up.least);
    room = room;
    member = member.name;
    node = node_of member;
    unsent = unsent;
    members = refl;
    ends = ends_more;
    now = refl;
    agents = ap agents_of joins.are ∙ map-set (λ (z : Management). z.agent) d.managements i (joins_on g link.number member);
    sent = λ k. ap (λ (es : List End). offered_at (slice_get es k)) x.ends_are ∙ more_reads offered_at ends x.asker x.end (ap (λ (e : End). offered_at (Some e)) x.asker_is) (ap (λ (e : End). offered_at (Some e)) x.end_is) k;
    got = λ k. ap (λ (es : List End). handled_at (slice_get es k)) x.ends_are ∙ more_reads handled_at ends x.asker x.end (ap (λ (e : End). handled_at (Some e)) x.asker_is) (ap (λ (e : End). handled_at (Some e)) x.end_is) k;
  }

  pub joined_floods : AreFlooding d → AreFlooding after
  joined_floods r = joins_run d.laid.is_static d.laid.links (members_seen d) (members_seen after) r asks

-- A far end that was claimed

module _ (d : Dif) (below : Seen) (i k : ℕ) (m : Member) (link : Attachment) (ps' : List IpcProcess) (m' : ChannelsSeen) (g : Management) (ms' : List Management) (links : LinksStand d below) (managed : AreManaged d) (is_m : slice_get d.settings.members i ≡ Some m) (is_g : slice_get d.managements i ≡ Some g) (up : LinksUp i link d.processes ps') (gets : IsClaimedBy (channels_of d) below k link m') (its : gets.channel.member ≡ i) (are : ms' ≡ changed_at i (λ z. with_claimed z link.number) d.managements) where
  abbrev all : List Channel
  all = d.connections.channels

  abbrev linked : Channel
  linked = record gets.channel { link = Some link }

  abbrev taken : Dif
  taken = record d { processes = ps'; connections = record d.connections { channels = slice_set all k linked }; managements = ms' }

  -- its port was silent
  pub port_silent : IsSilent (channels_of d) (seen_of d).processes below link.port
  port_silent =
      let a : AreChannels (channels_of d) (seen_of d).processes below = links.standing.channels in
      let j = a.joined k gets.channel gets.stands in
      let partner : j.partner ≡ gets.partner = same_some (slice_get all gets.channel.partner) j.partner gets.partner j.stands gets.is_partner in
      let back : gets.partner.partner ≡ k = ap (λ (z : Channel). z.partner) (sym partner) ∙ j.back in
      a.unclaimed link.port (record { place = gets.channel.partner; channel = gets.partner; stands = gets.is_partner; near = gets.near; on_port = gets.on_port; partner = gets.channel; is_partner = ap (slice_get all) back ∙ gets.stands; none = gets.none; flow = gets.flow })
    where
      same_some : (o : Option Channel) (a b : Channel) → o ≡ Some a → o ≡ Some b → a ≡ b
      same_some o a b p q = cc

  abbrev its_side : (l : ℕ) × (side : Side) × (end_place l side ≡ k)
  its_side = side_at k

  abbrev end : LinkEnd
  end = link_end d.processes gets.channel

  abbrev made : LinkEnd
  made = record end { state = There link.number }

  is_made : link_end ps' linked ≡ made
  is_made =
      let s : state_by ps' gets.channel.member (Some link) ≡ There link.number = ap (λ (n : ℕ). state_by ps' n (Some link)) its ∙ state_new i link d.processes ps' up in
      λ n. record { member = gets.channel.member; state = s n }

  ends_set : map (link_end ps') (slice_set all k linked) ≡ slice_set (map (link_end d.processes) all) (end_place its_side.0 its_side.1) made
  ends_set =
      map-set (link_end ps') all k linked
      ∙ ap (λ (es : List LinkEnd). slice_set es k (link_end ps' linked)) (ends_beside i link d.processes ps' up all port_silent.no_channel)
      ∙ ap (slice_set (map (link_end d.processes) all) k) is_made
      ∙ ap (λ (n : ℕ). slice_set (map (link_end d.processes) all) n made) (sym its_side.2)

  gets_link : ClaimsLink (members_seen d) (members_seen taken)
  gets_link = record {
    link = its_side.0;
    side = its_side.1;
    end = end;
    agent = g.agent;
    at = ap (slice_get (map (link_end d.processes) all)) its_side.2 ∙ slice_get-map (link_end d.processes) all k ∙ ap (option_map (link_end d.processes)) gets.stands;
    unmade = ap (state_by d.processes gets.channel.member) gets.none;
    number = link.number;
    unused = subst (λ (n : ℕ). IsUnused (members_seen d) n g.agent link.number) (sym its) (is_unused d i link.number m up.process g managed is_m up.is_process is_g (free_number up.process.links link.number up.least));
    members = refl;
    ends = ends_set;
    now = refl;
    agents = ap agents_of (are ∙ changed_here d.managements i g (λ z. with_claimed z link.number) is_g) ∙ map-set (λ (z : Management). z.agent) d.managements i (with_claimed g link.number) ∙ ap (λ (n : ℕ). slice_set (agents_of d.managements) n (claimed g.agent link.number)) (sym its);
    sent = λ n. refl;
    got = λ n. refl;
  }

  pub claimed_floods : AreFlooding d → AreFlooding taken
  claimed_floods r = claims_link_run d.laid.is_static d.laid.links (members_seen d) (members_seen taken) r gets_link
