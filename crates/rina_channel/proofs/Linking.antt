-- A DIF gets its first channels, and a channel's link becomes live.
use Rattle.std.proofs.Common.{◌≡◌, ℕ, List, [], length, slice_get, Some, sym, ◌∙◌, ap, subst, arith, inl, inr}
use Rattle.std.proofs.lemmas.Option.{none-some}
use Rattle.rina_base.specs.declared.number.Port.{Port}
use Rattle.rina_iface.specs.declared.ends.End.{End}
use Rattle.rina_iface.specs.Seen.{Seen, end_of}
use Rattle.rina_law.specs.Backed.{Covers}
use Rattle.rina_law.specs.Direction.{Direction}
use Rattle.rina_data.specs.Process.{Process}
use Rattle.rina_dif_law.specs.Cloud.{Waits}
use Rattle.rina_dif_law.specs.Ids.{Ids, IsOfLink}
use Rattle.rina_channel.specs.declared.channel.Attachment.{Attachment}
use Rattle.rina_channel.specs.declared.channel.Channel.{Channel}
use Rattle.rina_channel.specs.Channels.{AreChannels, ChannelsSeen, HasLive, IsOnPort}
use Rattle.rina_channel.specs.LinkCloud.{LinkCloud}
use Rattle.rina_channel.specs.Making.{HasNone, IsLinkLive}
use Rattle.rina_channel.specs.Names.{link_config}
use Rattle.rina_channel.specs.Standing.{IsStanding}
use Rattle.rina_channel.proofs.Below.{channels_same, end_by, links_same, on_link}
use Rattle.rina_channel.proofs.Frame.{held, link_limits}
use Rattle.rina_channel.proofs.Rows.{holds_covered}

none_in : {X : Type 0} (xs : List X) (i : ℕ) (x : X) → xs ≡ [] → slice_get xs i ≡ Some x → ⊥
none_in xs i x e h = cc

pub none_stand : (m : ChannelsSeen) (lines : List Direction) (ps : List Process) (below : Seen) → HasNone m lines ps below → IsStanding m lines ps below
none_stand m lines ps below h = record {
  managed = h.managed;
  clock = h.clock;
  channels = record {
    alike = ap (λ (xs : List Channel). length xs) h.channels ∙ sym (ap (λ (xs : List End). length xs) h.ends);
    names = λ k c is. absurd (none_in m.channels k c h.channels is);
    joined = λ k c is. absurd (none_in m.channels k c h.channels is);
    apart = λ j k a b port is its on on'. absurd (none_in m.channels j a h.channels is);
    numbered = h.numbered;
    based = h.based;
    matched = λ i n k c link is link_is live. absurd (none_in m.channels k c h.channels is);
    unclaimed = λ port u. absurd (none_in m.channels u.place u.channel h.channels u.stands);
  };
  journal = record {
    distinct = λ i k a b x y flow role. absurd (none_in m.ends i a h.ends x);
    far = λ i e x role. absurd (none_in m.ends i e h.ends x);
    named = λ i k e other x y p. absurd (none_in m.ends i e h.ends x);
    allocated = λ i e x state. absurd (none_in m.ends i e h.ends x);
    met = λ i j e y x got. absurd (none_in m.ends i e h.ends x);
    whole = λ i e x. absurd (none_in m.ends i e h.ends x);
  };
  own = record {
    alike = ap (λ (xs : List Ids). length xs) h.ids ∙ sym (ap (λ (xs : List End). length xs) h.ends);
    lines_alike = ap (λ (xs : List Direction). length xs) h.lines_are ∙ sym (ap (λ (xs : List End). length xs) h.ends);
    flows = [];
    places = [];
    entered = record {
      places_alike = sym (ap (λ (xs : List End). length xs) h.ends);
      each = λ i e c x conn z. absurd (none_in m.ends i e h.ends conn.end);
      once = λ i k x y z w f t. absurd (none-some x z);
      named = λ i k a b x y z w f t q. absurd (none_in m.ends i a h.ends z);
      apart = λ i k a b x y z w f t q. absurd (none_in m.ends i a h.ends z);
      all = λ n side flow point z is. absurd (none-some flow z);
    };
    ledger = record {
      flow = λ i f e. absurd (none-some f e);
      ids = λ i j f g t u a b e e' is is' same un un'. absurd (none-some f e);
      fours = λ i j f g u v e e' same. absurd (none-some f e);
      alive = λ death four comes alive. absurd (none_in m.channels comes.in_cloud.place comes.in_cloud.channel h.channels comes.in_cloud.stands);
    };
    rests = λ i e x flow h is stands. absurd (none-some flow stands);
    kept = λ i member ids is_member are_ids. absurd (none-some ids are_ids);
    ids = λ i e c x. absurd (none_in m.ends i e h.ends x.end);
    flows_are = λ i k a b x flow far line z w p f t q l. absurd (none_in m.ends i a h.ends z);
  };
}

-- ---- a link becomes live

module _ (m : ChannelsSeen) (lines : List Direction) (ps ps' : List Process) (below : Seen) (k : ℕ) (channel : Channel) (link : Attachment) (st : IsStanding m lines ps below) (is : slice_get m.channels k ≡ Some channel) (link_is : channel.link ≡ Some link) (made : IsLinkLive ps channel.member link ps') where
  a : AreChannels m ps below
  a = st.channels

  own_port : IsOnPort channel link.port
  own_port = on_link channel link link_is

  linked_numbered : (i n : ℕ) (p q : Port) → HasLive ps' i n p → HasLive ps' i n q → p ≡ q
  linked_numbered i n p q x y = elim (made.live i n p x) [
    | inl o ↦ elim (made.live i n q y) [
      | inl u ↦ a.numbered i n p q o u
      | inr u ↦ absurd (made.unused p (subst (λ (z : ℕ). HasLive ps z link.number p) u.0 (subst (λ (z : ℕ). HasLive ps i z p) u.1 o)))
    ]
    | inr o ↦ elim (made.live i n q y) [
      | inl u ↦ absurd (made.unused q (subst (λ (z : ℕ). HasLive ps z link.number q) o.0 (subst (λ (z : ℕ). HasLive ps i z q) o.1 u)))
      | inr u ↦ o.2 ∙ sym u.2
    ]
  ]

  -- the live link with the port of a channel is the channel's
  linked_matched : (i n j : ℕ) (c : Channel) (its : Attachment) → slice_get m.channels j ≡ Some c → c.link ≡ Some its → HasLive ps' i n its.port → (c.member ≡ i) × (its.number ≡ n)
  linked_matched i n j c its h its_is live = elim (made.live i n its.port live) [
    | inl o ↦ a.matched i n j c its h its_is o
    | inr o ↦
        let at : j ≡ k = a.apart j k c channel link.port h is (subst (IsOnPort c) o.2 (on_link c its its_is)) own_port in
        let same : c ≡ channel = channels_same (slice_get m.channels k) c channel (ap (slice_get m.channels) (sym at) ∙ h) is in
        let its_own : its ≡ link = links_same channel.link its link (ap (λ (z : Channel). z.link) (sym same) ∙ its_is) link_is in
        (ap (λ (z : Channel). z.member) same ∙ sym o.0, ap (λ (z : Attachment). z.number) its_own ∙ sym o.1)
  ]

  linked_channels : AreChannels m ps' below
  linked_channels = record {
    alike = a.alike;
    names = a.names;
    joined = a.joined;
    apart = a.apart;
    numbered = linked_numbered;
    based = λ i n port x. elim (made.live i n port x) [
      | inl o ↦ a.based i n port o
      | inr o ↦ (let e = end_by m below k channel link.port (a.joined k channel is) own_port in (e.0, ap (end_of below) o.2 ∙ e.1))
    ];
    matched = linked_matched;
    unclaimed = λ port u.
        let s = a.unclaimed port u in
        record {
          no_channel = s.no_channel;
          no_link = λ i n x. elim (made.live i n port x) [
            | inl o ↦ s.no_link i n o
            | inr o ↦ s.no_channel k channel is (subst (IsOnPort channel) (sym o.2) own_port)
          ];
          unsent = s.unsent;
        };
  }

  -- what is on the links was there
  linked_covers : Covers m.clock (LinkCloud m.config m.channels ps below) (LinkCloud m.config m.channels ps' below)
  linked_covers death pdu x alive =
      let own : Attachment = x.here.link in
      elim (x.here.here) [
        | inl q ↦
            let w = q.1 in
            let of_link : IsOfLink w.item.pdu = subst IsOfLink (sym w.is) x.of_link in
            elim (made.waits w.process w.link w.item w.waits) [
              | inl o ↦ elim (made.live x.channel.member own.number own.port q.0) [
                | inl live ↦ (death, omega arith, record { place = x.place; channel = x.channel; stands = x.stands; plain = x.plain; of_link = x.of_link; here = record { link = own; link_is = x.here.link_is; here = inl (live, record { process = w.process; link = w.link; within = w.within; item = w.item; waits = o; dies = w.dies; is = w.is }) }; is = x.is })
                | inr new ↦
                    let member : w.process ≡ channel.member = w.within.0 ∙ new.0 in
                    let number : w.link ≡ link.number = w.within.1 ∙ new.1 in
                    absurd (made.idle w.item (subst (λ (z : ℕ). Waits ps channel.member z w.item) number (subst (λ (z : ℕ). Waits ps z w.link w.item) member o)) of_link)
              ]
              | inr none ↦ absurd (none of_link)
            ]
        | inr w ↦ (death, omega arith, record { place = x.place; channel = x.channel; stands = x.stands; plain = x.plain; of_link = x.of_link; here = record { link = own; link_is = x.here.link_is; here = inr w }; is = x.is })
      ]

  pub linking_stands : IsStanding m lines ps' below
  linking_stands =
      let holds = holds_covered (link_config m.config m.manage) m.clock (LinkCloud m.config m.channels ps below) (LinkCloud m.config m.channels ps' below) m.ends m.ids lines (link_limits m.config m.manage st.managed) (held m lines ps below st) linked_covers in
      record { managed = st.managed; clock = st.clock; channels = linked_channels; journal = holds.journal; own = holds.own }
