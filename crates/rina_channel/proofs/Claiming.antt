-- The other end of a flow below is claimed: its channel gets its link.
use Rattle.std.proofs.Common.{◌≡◌, ◌≢◌, ℕ, List, length-set, slice_get, slice_set, Some, refl, sym, ◌∙◌, ap, subst, arith, inl, inr, ◌⊎◌}
use Rattle.std.proofs.lemmas.Bool.Decides.{eqb_tells}
use Rattle.rina_base.specs.declared.number.Port.{Port}
use Rattle.rina_base.specs.declared.pdu.Pdu.{Pdu}
use Rattle.rina_iface.specs.Journal.{AreKept}
use Rattle.rina_iface.specs.Seen.{Seen, end_of}
use Rattle.rina_iface.proofs.Changed.{set_at, slice_get-set_other, slice_get-set_same}
use Rattle.rina_law.specs.Backed.{Covers}
use Rattle.rina_law.specs.Direction.{Direction}
use Rattle.rina_data.specs.Process.{Process}
use Rattle.rina_dif_law.specs.Ids.{IsOfLink}
use Rattle.rina_channel.specs.declared.channel.Attachment.{Attachment}
use Rattle.rina_channel.specs.declared.channel.Channel.{Channel}
use Rattle.rina_channel.specs.Channels.{AreChannels, ChannelsSeen, HasLive, IsFlowBelow, IsJoined, IsOnPort, IsSilent, IsUnclaimed}
use Rattle.rina_channel.specs.LinkCloud.{IsOn, LinkCloud}
use Rattle.rina_channel.specs.Making.{IsClaimed}
use Rattle.rina_channel.specs.Names.{link_config, names_at}
use Rattle.rina_channel.specs.Standing.{IsStanding}
use Rattle.rina_channel.proofs.Below.{channels_same, flow_back, links_same, no_port, on_link, one_other, one_port}
use Rattle.rina_channel.proofs.Frame.{held, link_limits}
use Rattle.rina_channel.proofs.Rows.{holds_covered}

module _ (m : ChannelsSeen) (lines : List Direction) (ps : List Process) (below : Seen) (k : ℕ) (link : Attachment) (m' : ChannelsSeen) (kept : AreKept below) (st : IsStanding m lines ps below) (c : IsClaimed m below k link m') where
  abbrev new : Channel
  new = record c.channel { link = Some link }

  abbrev channels' : List Channel
  channels' = slice_set m.channels k new

  abbrev seen' : ChannelsSeen
  seen' = record m { channels = channels' }

  a : AreChannels m ps below
  a = st.channels

  new_on : IsOnPort new link.port
  new_on = on_link new link refl

  new_port : (port : Port) → IsOnPort new port → port ≡ link.port
  new_port port on = one_port new port link.port on new_on

  -- the partner of the channel has it as partner
  j : IsJoined m below k c.channel
  j = a.joined k c.channel c.stands

  partner_is : j.partner ≡ c.partner
  partner_is = channels_same (slice_get m.channels c.channel.partner) j.partner c.partner j.stands c.is_partner

  its_partner : c.partner.partner ≡ k
  its_partner = ap (λ (z : Channel). z.partner) (sym partner_is) ∙ j.back

  -- and is another, since it has a link
  apart_from : c.channel.partner ≢ k
  apart_from same =
      let is : c.partner ≡ c.channel = channels_same (slice_get m.channels k) c.partner c.channel (ap (slice_get m.channels) (sym same) ∙ c.is_partner) c.stands in
      no_port c.channel c.near (subst (λ (z : Channel). IsOnPort z c.near) is c.on_port) c.none

  -- so its port was silent
  silent : IsSilent m ps below link.port
  silent = a.unclaimed link.port (record { place = c.channel.partner; channel = c.partner; stands = c.is_partner; near = c.near; on_port = c.on_port; partner = c.channel; is_partner = ap (slice_get m.channels) its_partner ∙ c.stands; none = c.none; flow = c.flow })

  -- ---- a channel after it

  was : (i : ℕ) (x : Channel) → slice_get channels' i ≡ Some x → ((i ≡ k) × (x ≡ new)) ⊎ ((i ≢ k) × (slice_get m.channels i ≡ Some x))
  was i x h = set_at m.channels k i c.channel new x c.stands h

  still : (i : ℕ) (x : Channel) → i ≢ k → slice_get m.channels i ≡ Some x → slice_get channels' i ≡ Some x
  still i x ne h = slice_get-set_other m.channels k i new ne ∙ h

  new_stands : slice_get channels' k ≡ Some new
  new_stands = slice_get-set_same m.channels k c.channel new c.stands

  new_joined : IsJoined seen' below k new
  new_joined = record {
    partner = c.partner;
    stands = still c.channel.partner c.partner apart_from c.is_partner;
    back = its_partner;
    flow = λ p q x y.
        let at : link.port ≡ p = sym (new_port p x) in
        let far : c.near ≡ q = one_port c.partner c.near q c.on_port y in
        subst (λ (z : Port). IsFlowBelow m.config below z q) at (subst (IsFlowBelow m.config below link.port) far (flow_back m.config below c.near link.port c.flow));
    alone = λ p x none. absurd (no_port c.partner c.near c.on_port none);
  }

  -- a channel whose partner is the one that is claimed
  its_joined : (i : ℕ) (x : Channel) → slice_get m.channels i ≡ Some x → x.partner ≡ k → IsJoined seen' below i x
  its_joined i x h at =
      let o = a.joined i x h in
      let mine : o.partner ≡ c.channel = channels_same (slice_get m.channels k) o.partner c.channel (ap (slice_get m.channels) (sym at) ∙ o.stands) c.stands in
      let back : c.channel.partner ≡ i = ap (λ (z : Channel). z.partner) (sym mine) ∙ o.back in
      let same : x ≡ c.partner = channels_same (slice_get m.channels i) x c.partner h (ap (slice_get m.channels) (sym back) ∙ c.is_partner) in
      record {
        partner = new;
        stands = ap (slice_get channels') at ∙ new_stands;
        back = back;
        flow = λ p q y z.
            let near : c.near ≡ p = one_port c.partner c.near p c.on_port (subst (λ (w : Channel). IsOnPort w p) same y) in
            subst (λ (w : Port). IsFlowBelow m.config below w q) near (subst (IsFlowBelow m.config below c.near) (sym (new_port q z)) c.flow);
        alone = λ p y none. absurd (no_port new link.port new_on none);
      }

  old_joined : (i : ℕ) (x : Channel) → slice_get m.channels i ≡ Some x → IsJoined seen' below i x
  old_joined i x h = elim (eqb_tells x.partner k) [
    | inl t ↦ its_joined i x h t.1
    | inr f ↦ (let o = a.joined i x h in record { partner = o.partner; stands = still x.partner o.partner f.1 o.stands; back = o.back; flow = o.flow; alone = o.alone })
  ]

  claimed_apart : (i n : ℕ) (x y : Channel) (port : Port) → slice_get channels' i ≡ Some x → slice_get channels' n ≡ Some y → IsOnPort x port → IsOnPort y port → i ≡ n
  claimed_apart i n x y port h g p q = elim (was i x h) [
    | inl t ↦ elim (was n y g) [
      | inl u ↦ t.0 ∙ sym u.0
      | inr u ↦ absurd (silent.no_channel n y u.1 (subst (IsOnPort y) (new_port port (subst (λ (z : Channel). IsOnPort z port) t.1 p)) q))
    ]
    | inr t ↦ elim (was n y g) [
      | inl u ↦ absurd (silent.no_channel i x t.1 (subst (IsOnPort x) (new_port port (subst (λ (z : Channel). IsOnPort z port) u.1 q)) p))
      | inr u ↦ a.apart i n x y port t.1 u.1 p q
    ]
  ]

  claimed_matched : (i n l : ℕ) (x : Channel) (its : Attachment) → slice_get channels' l ≡ Some x → x.link ≡ Some its → HasLive ps i n its.port → (x.member ≡ i) × (its.number ≡ n)
  claimed_matched i n l x its h its_is live = elim (was l x h) [
    | inl t ↦ absurd (silent.no_link i n (subst (HasLive ps i n) (new_port its.port (subst (λ (z : Channel). IsOnPort z its.port) t.1 (on_link x its its_is))) live))
    | inr f ↦ a.matched i n l x its f.1 its_is live
  ]

  -- ---- what is not claimed yet stays silent

  -- its partner is not the one that was claimed now
  other_unclaimed : (port : Port) (u : IsUnclaimed seen' below port) → (slice_get m.channels u.place ≡ Some u.channel) × (slice_get m.channels u.channel.partner ≡ Some u.partner) × (u.channel.partner ≢ k)
  other_unclaimed port u = elim (was u.channel.partner u.partner u.is_partner) [
    | inl t ↦ absurd (no_port new link.port new_on (ap (λ (z : Channel). z.link) (sym t.1) ∙ u.none))
    | inr f ↦ elim (was u.place u.channel u.stands) [
      | inl t ↦
          let at : u.channel.partner ≡ c.channel.partner = ap (λ (z : Channel). z.partner) t.1 in
          let same : u.partner ≡ c.partner = channels_same (slice_get m.channels c.channel.partner) u.partner c.partner (ap (slice_get m.channels) (sym at) ∙ f.1) c.is_partner in
          absurd (no_port c.partner c.near c.on_port (ap (λ (z : Channel). z.link) (sym same) ∙ u.none))
      | inr g ↦ (g.1, f.1, f.0)
    ]
  ]

  claimed_silent : (port : Port) → IsUnclaimed seen' below port → IsSilent seen' ps below port
  claimed_silent port u =
      let o = other_unclaimed port u in
      let s = a.unclaimed port (record { place = u.place; channel = u.channel; stands = o.0; near = u.near; on_port = u.on_port; partner = u.partner; is_partner = o.1; none = u.none; flow = u.flow }) in
      record {
        no_channel = λ i x h on. elim (was i x h) [
          | inl t ↦
              let at : port ≡ link.port = new_port port (subst (λ (z : Channel). IsOnPort z port) t.1 on) in
              let near : u.near ≡ c.near = one_other m.config below u.near c.near link.port kept (subst (IsFlowBelow m.config below u.near) at u.flow) c.flow in
              let place : u.place ≡ c.channel.partner = a.apart u.place c.channel.partner u.channel c.partner c.near o.0 c.is_partner (subst (IsOnPort u.channel) near u.on_port) c.on_port in
              let same : u.channel ≡ c.partner = channels_same (slice_get m.channels c.channel.partner) u.channel c.partner (ap (slice_get m.channels) (sym place) ∙ o.0) c.is_partner in
              o.2 (ap (λ (z : Channel). z.partner) same ∙ its_partner)
          | inr f ↦ s.no_channel i x f.1 on
        ];
        no_link = s.no_link;
        unsent = s.unsent;
      }

  claimed_channels : AreChannels seen' ps below
  claimed_channels = record {
    alike = length-set m.channels k new ∙ a.alike;
    names = λ i x h. elim (was i x h) [
      | inl t ↦ ap (slice_get m.ids) t.0 ∙ a.names k c.channel c.stands ∙ ap (λ (z : Channel). Some (names_at k z.partner)) (sym t.1) ∙ ap (λ (z : ℕ). Some (names_at z x.partner)) (sym t.0)
      | inr f ↦ a.names i x f.1
    ];
    joined = λ i x h. elim (was i x h) [
      | inl t ↦ subst (λ (z : Channel). IsJoined seen' below i z) (sym t.1) (subst (λ (z : ℕ). IsJoined seen' below z new) (sym t.0) new_joined)
      | inr f ↦ old_joined i x f.1
    ];
    apart = claimed_apart;
    numbered = a.numbered;
    based = a.based;
    matched = claimed_matched;
    unclaimed = claimed_silent;
  }

  -- ---- the cloud

  -- nothing is on the new link
  none_on : (death : ℕ) (pdu : Pdu) → IsOfLink pdu → IsOn m.config ps below new death pdu → ⊥
  none_on death pdu of_link on =
      let same : on.link ≡ link = links_same (Some link) on.link link on.link_is refl in
      elim (on.here) [
        | inl q ↦ silent.no_link c.channel.member on.link.number (subst (λ (z : Attachment). HasLive ps c.channel.member on.link.number z.port) same q.0)
        | inr w ↦
            let port : w.port ≡ link.port = w.within ∙ ap (λ (z : Attachment). z.port) same in
            silent.unsent w.end (subst (λ (p : Port). end_of below p ≡ Some w.end) port w.here) w.at w.entry w.hop w.is_entry w.opens (subst IsOfLink (sym w.is) of_link)
      ]

  old_stands : (death : ℕ) (pdu : Pdu) (x : LinkCloud m.config channels' ps below death pdu) → slice_get m.channels x.place ≡ Some x.channel
  old_stands death pdu x = elim (was x.place x.channel x.stands) [
    | inl t ↦ absurd (none_on death x.plain x.of_link (subst (λ (z : Channel). IsOn m.config ps below z death x.plain) t.1 x.here))
    | inr f ↦ f.1
  ]

  claimed_covers : Covers m.clock (LinkCloud m.config m.channels ps below) (LinkCloud m.config channels' ps below)
  claimed_covers death pdu x alive = (death, omega arith, record { place = x.place; channel = x.channel; stands = old_stands death pdu x; plain = x.plain; of_link = x.of_link; here = x.here; is = x.is })

  pub claiming_stands : IsStanding m' lines ps below
  claiming_stands =
      let holds = holds_covered (link_config m.config m.manage) m.clock (LinkCloud m.config m.channels ps below) (LinkCloud m.config channels' ps below) m.ends m.ids lines (link_limits m.config m.manage st.managed) (held m lines ps below st) claimed_covers in
      subst (λ (z : ChannelsSeen). IsStanding z lines ps below) (sym c.new_is) (record { managed = st.managed; clock = st.clock; channels = claimed_channels; journal = holds.journal; own = holds.own })
