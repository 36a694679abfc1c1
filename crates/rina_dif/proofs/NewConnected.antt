-- The management connections of a DIF stand after one of its IPC processes took an end below as a new link: one that it asked for, with both ends
-- of the management connection new, or one that it claimed, with the link of the channel that awaited it.
use Rattle.std.proofs.Common.{◌≡◌, ◌≢◌, ◌∙◌, ◌⊎◌, ℕ, suc, ◌*◌, ◌<◌, ◌^◌, List, [], ◌∷◌, ◌++◌, length, slice_get, slice_set, Option, Some, None, refl, sym, ap, subst, arith, inl, inr}
use Rattle.std.proofs.lemmas.Option.{slice_get_within}
use Rattle.rina_base.specs.declared.number.FlowName.{FlowName}
use Rattle.rina_channel.specs.declared.channel.Attachment.{Attachment}
use Rattle.rina_channel.specs.declared.channel.Channel.{Channel}
use Rattle.rina_channel.specs.Channels.{AreChannels, ChannelsSeen}
use Rattle.rina_channel.specs.Making.{AreMade, IsClaimed as IsClaimedBy, IsLinkLive, IsNewFlow}
use Rattle.rina_channel.specs.Names.{link_config, names_at}
use Rattle.rina_channel.specs.Standing.{IsStanding}
use Rattle.rina_channel.proofs.Claiming.{claiming_stands}
use Rattle.rina_channel.proofs.Config.{same_size}
use Rattle.rina_channel.proofs.Linking.{linking_stands}
use Rattle.rina_channel.proofs.Making.{made_stands}
use Rattle.rina_conn.specs.declared.form.Peer.{Peer}
use Rattle.rina_cube.specs.declared.Cube.{Cube}
use Rattle.rina_data.specs.declared.settings.Member.{Member}
use Rattle.rina_data.specs.declared.settings.Settings.{Settings}
use Rattle.rina_data.specs.Configs.{Config, config_of, greatest, piece_size}
use Rattle.rina_data.specs.Process.{Process}
use Rattle.rina_data.proofs.Finding.{there}
use Rattle.rina_dif_law.specs.Dif.{constants}
use Rattle.rina_dif_law.specs.Ids.{Ids}
use Rattle.rina_dif_law.specs.Lifting.{ticked}
use Rattle.rina_dif_law.proofs.Pairs.{first_at, two_at}
use Rattle.rina_flood.specs.Network.{Side, Near, Far as FarSide, other}
use Rattle.rina_flood.specs.Static.{end_place}
use Rattle.rina_flows.specs.Adding.{IsNewFlow as IsNewPair, begun_now, turned}
use Rattle.rina_flows.specs.Calls.{AreTied}
use Rattle.rina_flows.specs.Tied.{conns_of, ids_by}
use Rattle.rina_iface.specs.declared.ends.End.{End}
use Rattle.rina_iface.specs.Journal.{AreKept, At}
use Rattle.rina_iface.specs.Seen.{Seen}
use Rattle.rina_iface.proofs.Changed.{set_at, slice_get-set_other, slice_get-set_same}
use Rattle.rina_iface.proofs.Grown.{still_at}
use Rattle.rina_law.specs.Direction.{Direction, start}
use Rattle.rina_dif.specs.declared.connections.Connections.{Connections}
use Rattle.rina_dif.specs.Connected.{AreConnected, AreNamedByPlace, ArePaired, CanManage, channels_seen}
use Rattle.rina_dif.specs.Enrolling.{ConnectsJoiner, far_channel, near_channel}
use Rattle.rina_dif.proofs.Flooding.{side_at}
use Rattle.rina_dif.proofs.Joining.{manage_there}

-- Channels stand in pairs

-- so there is an even number of them
pub even_channels : (m : ChannelsSeen) (ps : List Process) (below : Seen) → AreChannels m ps below → ArePaired m.channels → (l : ℕ) × (length m.channels ≡ 2 * l)
even_channels m ps below a paired = (let at = side_at (length m.channels) in by_side at.0 at.1 at.2)
  where
    by_side : (l : ℕ) (side : Side) → end_place l side ≡ length m.channels → (k : ℕ) × (length m.channels ≡ 2 * k)
    by_side l Near at = (l, sym at)
    by_side l FarSide at =
        let x = there m.channels (end_place l Near) (omega (arith, at)) in
        let its = a.joined (end_place l Near) x.0 x.1 in
        let lt = slice_get_within m.channels x.0.partner its.partner its.stands in
        let partner = paired l Near x.0 x.1 in
        absurd (omega (arith, at, lt, partner))

-- A flow that was asked for

module _ (s : Settings) (clock i j : ℕ) (joiner member : Member) (link : Attachment) (c c' : Connections) (ps : List Process) (below : Seen) (h : AreConnected (config_of s) clock c ps below) (x : ConnectsJoiner s clock i j joiner member link c c') (new : IsNewFlow (channels_seen (config_of s) clock c) ps below (near_channel x.place i link) (far_channel x.place j)) where
  abbrev g : Config
  g = config_of s

  abbrev m : ChannelsSeen
  m = channels_seen g clock c

  abbrev ends : List End
  ends = c.flows.journal.ends

  abbrev near : Channel
  near = near_channel x.place i link

  abbrev far : Channel
  far = far_channel x.place j

  place_is : x.place ≡ length ends
  place_is = x.place_is ∙ h.standing.channels.alike

  fresh : (k : ℕ) (e : End) → At ends k e → e.flow ≢ x.asker.flow
  fresh k e at same =
      let src : e.flow.src ≡ x.asker.flow.src = ap (λ (f : FlowName). f.src) same in
      let own : x.asker.flow.src ≡ x.place = ap (λ (z : End). z.flow.src) x.asker_is in
      let within = slice_get_within ends k e at in
      let low = h.named k e at in
      let place = place_is in
      omega (arith, src, own, place, within, low)

  -- the new ends are named so too
  joiner_named : AreNamedByPlace c'.flows.journal.ends
  joiner_named k e at = elim (two_at ends x.asker x.end k e (ap (λ (es : List End). slice_get es k) (sym x.ends_are) ∙ at)) [
    | inl old ↦ h.named k e old
    | inr (inl t) ↦ (let src : e.flow.src ≡ x.place = ap (λ (z : End). z.flow.src) (t.1 ∙ x.asker_is) in let place = place_is in let here = t.0 in omega (arith, src, place, here))
    | inr (inr t) ↦ (let src : e.flow.src ≡ x.place = ap (λ (z : End). z.flow.src) (t.1 ∙ x.end_is) in let place = place_is in let here = t.0 in omega (arith, src, place, here))
  ]

  abbrev peer : Peer
  peer = record { own = x.place; far = suc x.place; scep = 0; dcep = 0 }

  new_pair : IsNewPair (link_config g c.manage) c.manage (piece_size g) (greatest g) ends x.asker x.end
  new_pair = record {
    piece_is = sym (same_size g c.manage);
    max_is = refl;
    is_cube = manage_there g c.manage;
    fresh = fresh;
    same_flow = ap (λ (e : End). e.flow) x.end_is ∙ sym (ap (λ (e : End). e.flow) x.asker_is);
    got = ap (λ (e : End). e.got) x.asker_is;
    far_got = ap (λ (e : End). e.got) x.end_is;
  }

  -- the names of the next two places
  there_ids : ids_by peer c.manage.id ≡ names_at (length ends) (suc (length ends))
  there_ids = λ k. record { own = place_is k; far = suc (place_is k); scep = 0; dcep = 0; qos = h.may.managed.id k }

  back_ids : ids_by (turned peer) c.manage.id ≡ names_at (suc (length ends)) (length ends)
  back_ids = λ k. record { own = suc (place_is k); far = place_is k; scep = 0; dcep = 0; qos = h.may.managed.id k }

  abbrev begins : Ids → Direction
  begins ids = ticked clock (start (constants (link_config g c.manage) c.manage ids))

  at_pair : (l : ℕ) (side : Side) (z : Channel) → (slice_get c.channels (end_place l side) ≡ Some z) ⊎ (((end_place l side ≡ length c.channels) × (z ≡ near)) ⊎ ((end_place l side ≡ suc (length c.channels)) × (z ≡ far))) → z.partner ≡ end_place l (other side)
  at_pair l side z (inl old) = h.paired l side z old
  at_pair l Near z (inr (inl t)) = (let at = t.0 in let place = x.place_is in let own = ap (λ (y : Channel). y.partner) t.1 in omega (arith, at, place, own))
  at_pair l FarSide z (inr (inl t)) = absurd (let long = even_channels m ps below h.standing.channels h.paired in let even = long.1 in let at = t.0 in omega (arith, even, at))
  at_pair l Near z (inr (inr t)) = absurd (let long = even_channels m ps below h.standing.channels h.paired in let even = long.1 in let at = t.0 in omega (arith, even, at))
  at_pair l FarSide z (inr (inr t)) = (let at = t.0 in let place = x.place_is in let own = ap (λ (y : Channel). y.partner) t.1 in omega (arith, at, place, own))

  joiner_paired : ArePaired c'.channels
  joiner_paired l side z is = at_pair l side z (two_at c.channels near far (end_place l side) z (ap (λ (zs : List Channel). slice_get zs (end_place l side)) (sym x.channels_are) ∙ is))

  abbrev lines' : List Direction
  lines' = h.lines ++ begun_now (link_config g c.manage) clock c.manage peer ∷ begun_now (link_config g c.manage) clock c.manage (turned peer) ∷ []

  joiner_tied : AreTied (link_config g c'.manage) clock c'.flows lines'
  joiner_tied = subst (λ (z : Cube). AreTied (link_config g z) clock c'.flows lines') (sym x.manage_is) (x.adds (link_config g c.manage) clock h.lines h.tied new_pair).tied

  joiner_made : AreMade m h.lines near far x.asker x.end (channels_seen g clock c') lines'
  joiner_made =
      let has = x.adds (link_config g c.manage) clock h.lines h.tied new_pair in
      let ids : conns_of c'.flows.conns ≡ conns_of c.flows.conns ++ names_at (length ends) (suc (length ends)) ∷ names_at (suc (length ends)) (length ends) ∷ [] = has.ids ∙ (λ k. conns_of c.flows.conns ++ there_ids k ∷ back_ids k ∷ []) in
      let asker = x.asker_is in
      let end = x.end_is in
      record {
        near_partner = ap suc place_is;
        far_partner = place_is;
        room = subst (λ (n : ℕ). suc n < 2 ^ 32) place_is x.room;
        asks = ap (λ (e : End). e.role) asker;
        answers = ap (λ (e : End). e.role) end;
        same_flow = ap (λ (e : End). e.flow) end ∙ sym (ap (λ (e : End). e.flow) asker);
        named = record { peer = ap (λ (e : End). e.peer) asker ∙ sym (ap (λ (e : End). e.app) end); its_peer = ap (λ (e : End). e.peer) end ∙ sym (ap (λ (e : End). e.app) asker); cube = ap (λ (e : End). e.cube) end ∙ sym (ap (λ (e : End). e.cube) asker) };
        cube = ap (λ (e : End). e.cube) asker;
        unused = record { state = ap (λ (e : End). e.state) asker; sent = ap (λ (e : End). e.sent) asker; got = ap (λ (e : End). e.got) asker; taken = ap (λ (e : End). e.taken) asker };
        its_unused = record { state = ap (λ (e : End). e.state) end; sent = ap (λ (e : End). e.sent) end; got = ap (λ (e : End). e.got) end; taken = ap (λ (e : End). e.taken) end };
        fresh = fresh;
        lines_are = (λ k. h.lines ++ begins (there_ids k) ∷ begins (back_ids k) ∷ []);
        new_is = (λ k. record { config = g; manage = x.manage_is k; clock = clock; channels = x.channels_are k; ends = x.ends_are k; ids = ids k });
      }

  near_stands : slice_get c'.channels (length c.channels) ≡ Some near
  near_stands = ap (λ (zs : List Channel). slice_get zs (length c.channels)) x.channels_are ∙ first_at c.channels near far

  still_stands : (k : ℕ) (z : Channel) → slice_get c.channels k ≡ Some z → slice_get c'.channels k ≡ Some z
  still_stands k z is = ap (λ (zs : List Channel). slice_get zs k) x.channels_are ∙ still_at c.channels (near ∷ far ∷ []) k z is

  abbrev made : IsStanding (channels_seen g clock c') lines' ps below
  made = made_stands m h.lines ps below near far x.asker x.end (channels_seen g clock c') lines' h.standing new joiner_made

  -- before the link is live
  pub joiner_ready : AreConnected g clock c' ps below
  joiner_ready = record {
    may = subst (CanManage g) (sym x.manage_is) h.may;
    lines = lines';
    tied = joiner_tied;
    standing = made;
    paired = joiner_paired;
    named = joiner_named;
    each = λ k n port is.
        let o = h.each k n port is in
        record { place = o.place; channel = o.channel; is_channel = still_stands o.place o.channel o.is_channel; member_is = o.member_is; attached = o.attached; attached_is = o.attached_is; number_is = o.number_is; port_is = o.port_is };
  }

  -- its IPC process takes the link
  pub joiner_connected : (ps' : List Process) → IsLinkLive ps i link ps' → AreConnected g clock c' ps' below
  joiner_connected ps' live = record {
    may = subst (CanManage g) (sym x.manage_is) h.may;
    lines = lines';
    tied = joiner_tied;
    standing = linking_stands (channels_seen g clock c') lines' ps ps' below (length c.channels) near link made near_stands refl live;
    paired = joiner_paired;
    named = joiner_named;
    each = λ k n port is. elim (live.live k n port is) [
      | inl was ↦ joiner_ready.each k n port was
      | inr t ↦ record { place = length c.channels; channel = near; is_channel = near_stands; member_is = sym t.0; attached = link; attached_is = refl; number_is = sym t.1; port_is = sym t.2 }
    ];
  }

-- A far end that was claimed

link_clash : (o : Option Attachment) (l : Attachment) → o ≡ None → o ≡ Some l → ⊥
link_clash o l none some = cc

module _ (g : Config) (clock : ℕ) (link : Attachment) (c c' : Connections) (ps : List Process) (below : Seen) (k : ℕ) (kept : AreKept below) (h : AreConnected g clock c ps below) (gets : IsClaimedBy (channels_seen g clock c) below k link (channels_seen g clock c')) (only : c' ≡ record c { channels = c'.channels }) where
  abbrev seen : ChannelsSeen
  seen = channels_seen g clock c

  abbrev linked : Channel
  linked = record gets.channel { link = Some link }

  abbrev after : Connections
  after = record c { channels = slice_set c.channels k linked }

  pub claimed_is : c' ≡ after
  claimed_is = only ∙ ap (λ (zs : List Channel). record c { channels = zs }) (ap (λ (z : ChannelsSeen). z.channels) gets.new_is)

  gets_after : IsClaimedBy seen below k link (channels_seen g clock after)
  gets_after = record { channel = gets.channel; stands = gets.stands; none = gets.none; partner = gets.partner; is_partner = gets.is_partner; near = gets.near; on_port = gets.on_port; flow = gets.flow; new_is = refl }

  linked_stands : slice_get after.channels k ≡ Some linked
  linked_stands = slice_get-set_same c.channels k gets.channel linked gets.stands

  -- no link has its channel there
  not_there : (n : ℕ) (z : Channel) (l : Attachment) → slice_get c.channels n ≡ Some z → z.link ≡ Some l → n ≢ k
  not_there n z l is attached same =
      let one : z ≡ gets.channel = same_some (slice_get c.channels k) z gets.channel (ap (slice_get c.channels) (sym same) ∙ is) gets.stands in
      link_clash gets.channel.link l gets.none (ap (λ (y : Channel). y.link) (sym one) ∙ attached)
    where
      same_some : (o : Option Channel) (a b : Channel) → o ≡ Some a → o ≡ Some b → a ≡ b
      same_some o a b p q = cc

  claimed_paired : ArePaired after.channels
  claimed_paired l side z is = elim (set_at c.channels k (end_place l side) gets.channel linked z gets.stands is) [
    | inl t ↦ ap (λ (y : Channel). y.partner) t.1 ∙ h.paired l side gets.channel (ap (slice_get c.channels) t.0 ∙ gets.stands)
    | inr u ↦ h.paired l side z u.1
  ]

  after_connected : (ps' : List Process) → IsLinkLive ps gets.channel.member link ps' → AreConnected g clock after ps' below
  after_connected ps' live =
      let stands : IsStanding (channels_seen g clock after) h.lines ps below = claiming_stands seen h.lines ps below k link (channels_seen g clock after) kept h.standing gets_after in
      record {
        may = h.may;
        lines = h.lines;
        tied = h.tied;
        standing = linking_stands (channels_seen g clock after) h.lines ps ps' below k linked link stands linked_stands refl live;
        paired = claimed_paired;
        named = h.named;
        each = λ n number port is. elim (live.live n number port is) [
          | inl was ↦
              (let o = h.each n number port was in
              record { place = o.place; channel = o.channel; is_channel = slice_get-set_other c.channels k o.place linked (not_there o.place o.channel o.attached o.is_channel o.attached_is) ∙ o.is_channel; member_is = o.member_is; attached = o.attached; attached_is = o.attached_is; number_is = o.number_is; port_is = o.port_is })
          | inr t ↦ record { place = k; channel = linked; is_channel = linked_stands; member_is = sym t.0; attached = link; attached_is = refl; number_is = sym t.1; port_is = sym t.2 }
        ];
      }

  pub claimed_connected : (ps' : List Process) → IsLinkLive ps gets.channel.member link ps' → AreConnected g clock c' ps' below
  claimed_connected ps' live = subst (λ (z : Connections). AreConnected g clock z ps' below) (sym claimed_is) (after_connected ps' live)
