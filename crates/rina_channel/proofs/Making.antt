-- A flow below between two members gets its channels.
use Rattle.std.proofs.Common.{◌≡◌, ◌≢◌, ℕ, suc, ◌≤◌, List, [], ◌∷◌, ◌++◌, cond, eqb, length, slice_get, Some, None, Option, refl, sym, ◌∙◌, ap, subst, arith, inl, inr, ◌⊎◌, true, false, Bool}
use Rattle.std.proofs.lemmas.Bool.Decides.{eqb_tells}
use Rattle.std.proofs.lemmas.Option.{none-some, same_Some, slice_get_within}
use Rattle.rina_base.specs.declared.number.Port.{Port}
use Rattle.rina_base.specs.declared.pdu.Pdu.{Pdu}
use Rattle.rina_cube.specs.declared.Cube.{Cube}
use Rattle.rina_iface.specs.declared.ends.End.{End}
use Rattle.rina_iface.specs.declared.state.PortState.TheVariants.{Allocated}
use Rattle.rina_iface.specs.declared.state.Role.TheVariants.{Asker, Far}
use Rattle.rina_iface.specs.Journal.{At, HasPartner, IsDated, IsNamed, IsPartner, IsWhole}
use Rattle.rina_iface.specs.Seen.{Seen}
use Rattle.rina_iface.proofs.Grown.{dated_none, still_at}
use Rattle.rina_law.specs.Backed.{Covers}
use Rattle.rina_law.specs.Direction.{Direction}
use Rattle.rina_data.specs.Configs.{Config, cube_by}
use Rattle.rina_data.specs.Process.{Process}
use Rattle.rina_dif_law.specs.Ids.{Ids}
use Rattle.rina_dif_law.specs.Standing.{AreIds, IsJournal, IsOwn}
use Rattle.rina_dif_law.proofs.Finding.{beside}
use Rattle.rina_dif_law.specs.Places.{Place}
use Rattle.rina_dif_law.proofs.Own.{end_of_flow, partner_back}
use Rattle.rina_dif_law.proofs.OwnMade.{IsBlank, own_made}
use Rattle.rina_rest.specs.Flows.{Endpoint, IsFree}
use Rattle.rina_channel.specs.declared.channel.Attachment.{Attachment}
use Rattle.rina_channel.specs.declared.channel.Channel.{Channel}
use Rattle.rina_channel.specs.Channels.{AreChannels, ChannelsSeen, HasLive, IsFlowBelow, IsJoined, IsOnPort, IsSilent, IsUnclaimed, RunsBetween}
use Rattle.rina_channel.specs.LinkCloud.{IsOn, LinkCloud}
use Rattle.rina_channel.specs.Making.{AreMade, IsNewFlow, IsNewLink, IsUnused, begun}
use Rattle.rina_channel.specs.Names.{link_config, names_at}
use Rattle.rina_channel.specs.Rows.{config_of}
use Rattle.rina_channel.specs.Standing.{IsStanding}
use Rattle.rina_channel.proofs.Below.{channels_same, flow_back, links_same, no_port, on_link, one_port, two_ports}
use Rattle.rina_dif_law.proofs.Pairs.{first_at, second_at, two_at, two_long}

-- the cube of management has the id of management
by_eq : (manage : Cube) (b : Bool) → b ≡ true → cond b (Some manage) None ≡ Some manage
by_eq manage true h = refl
by_eq manage false h = cc

pub manage_is : (g : Config) (manage : Cube) → manage.id ≡ 0 → cube_by 0 (link_config g manage).cubes ≡ Some manage
manage_is g manage id = elim (eqb_tells manage.id 0) [
  | inl t ↦ by_eq manage (eqb manage.id 0) t.0
  | inr f ↦ absurd (f.1 id)
]

ids_same : (o : Option Ids) (a b : Ids) → o ≡ Some a → o ≡ Some b → a ≡ b
ids_same o a b h g = cc

module _ (m : ChannelsSeen) (lines : List Direction) (ps : List Process) (below : Seen) (near far : Channel) (asker end : End) (m' : ChannelsSeen) (lines' : List Direction) (st : IsStanding m lines ps below) (n : IsNewFlow m ps below near far) (made : AreMade m lines near far asker end m' lines') where
  abbrev count : ℕ
  count = length m.ends

  abbrev channels' : List Channel
  channels' = m.channels ++ near ∷ far ∷ []

  abbrev ends' : List End
  ends' = m.ends ++ asker ∷ end ∷ []

  abbrev near_ids : Ids
  near_ids = names_at count (suc count)

  abbrev far_ids : Ids
  far_ids = names_at (suc count) count

  abbrev ids' : List Ids
  ids' = m.ids ++ near_ids ∷ far_ids ∷ []

  abbrev there : Direction
  there = begun m count (suc count)

  abbrev back : Direction
  back = begun m (suc count) count

  abbrev g : Config
  g = config_of m

  abbrev cloud : ℕ → Pdu → Type 0
  cloud = LinkCloud m.config m.channels ps below

  abbrev cloud' : ℕ → Pdu → Type 0
  cloud' = LinkCloud m.config channels' ps below

  -- ---- the channels

  -- a channel after it was there, or is one of the two
  channel_cases : (k : ℕ) (c : Channel) → slice_get channels' k ≡ Some c → (slice_get m.channels k ≡ Some c) ⊎ (((k ≡ count) × (c ≡ near)) ⊎ ((k ≡ suc count) × (c ≡ far)))
  channel_cases k c h = elim (two_at m.channels near far k c h) [
    | inl o ↦ inl o
    | inr (inl t) ↦ inr (inl (t.0 ∙ st.channels.alike, t.1))
    | inr (inr t) ↦ inr (inr (t.0 ∙ ap suc st.channels.alike, t.1))
  ]

  near_stands : slice_get channels' count ≡ Some near
  near_stands = subst (λ (k : ℕ). slice_get channels' k ≡ Some near) st.channels.alike (first_at m.channels near far)

  far_stands : slice_get channels' (suc count) ≡ Some far
  far_stands = subst (λ (k : ℕ). slice_get channels' (suc k) ≡ Some far) st.channels.alike (second_at m.channels near far)

  near_named : slice_get ids' count ≡ Some near_ids
  near_named = subst (λ (k : ℕ). slice_get ids' k ≡ Some near_ids) st.own.alike (first_at m.ids near_ids far_ids)

  far_named : slice_get ids' (suc count) ≡ Some far_ids
  far_named = subst (λ (k : ℕ). slice_get ids' (suc k) ≡ Some far_ids) st.own.alike (second_at m.ids near_ids far_ids)

  abbrev seen' : ChannelsSeen
  seen' = record m { channels = channels'; ends = ends'; ids = ids' }

  abbrev own : Attachment
  own = n.link

  near_on : IsOnPort near own.port
  near_on = on_link near own n.is_new.link_is

  -- the far channel has no link, or a new one
  far_cases : (port : Port) → IsOnPort far port → (far_link : Attachment) × IsNewLink m ps below far far_link × IsFlowBelow m.config below own.port far_link.port × (far_link.port ≡ port)
  far_cases port on = elim (n.other) [
    | inl both ↦ (both.link, both.is_new, both.flow, one_port far both.link.port port (on_link far both.link both.is_new.link_is) on)
    | inr alone ↦ absurd (no_port far port on alone.none)
  ]

  -- no channel that was there has a port of a new one
  near_other : (k : ℕ) (c : Channel) (port : Port) → slice_get m.channels k ≡ Some c → IsOnPort c port → IsOnPort near port → ⊥
  near_other k c port h on new = n.is_new.others k c h (subst (IsOnPort c) (one_port near port own.port new near_on) on)

  far_other : (k : ℕ) (c : Channel) (port : Port) → slice_get m.channels k ≡ Some c → IsOnPort c port → IsOnPort far port → ⊥
  far_other k c port h on new = (let f = far_cases port new in f.1.others k c h (subst (IsOnPort c) (sym f.3) on))

  -- nor have the new ones one port
  new_apart : (port : Port) → IsOnPort near port → IsOnPort far port → ⊥
  new_apart port x y = (let f = far_cases port y in two_ports m.config below own.port f.0.port f.2 (one_port near own.port port near_on x ∙ sym f.3))

  -- none that may be claimed by an older one is a port of a new one
  near_free : (port : Port) → IsUnclaimed m below port → IsOnPort near port → ⊥
  near_free port u on = n.is_new.free (subst (IsUnclaimed m below) (one_port near port own.port on near_on) u)

  far_free : (port : Port) → IsUnclaimed m below port → IsOnPort far port → ⊥
  far_free port u on = (let f = far_cases port on in f.1.free (subst (IsUnclaimed m below) (sym f.3) u))

  -- the two are partners, at the two ends of one flow
  near_partner : slice_get channels' near.partner ≡ Some far
  near_partner = ap (slice_get channels') made.near_partner ∙ far_stands

  far_partner : slice_get channels' far.partner ≡ Some near
  far_partner = ap (slice_get channels') made.far_partner ∙ near_stands

  near_flow : (p q : Port) → IsOnPort near p → IsOnPort far q → IsFlowBelow m.config below p q
  near_flow p q x y =
      let f = far_cases q y in
      subst (λ (z : Port). IsFlowBelow m.config below z q) (one_port near own.port p near_on x) (subst (IsFlowBelow m.config below own.port) f.3 f.2)

  near_joined : IsJoined seen' below count near
  near_joined = record {
    partner = far;
    stands = near_partner;
    back = made.far_partner;
    flow = near_flow;
    alone = λ p x none. elim (n.other) [
      | inl both ↦ absurd (no_port far both.link.port (on_link far both.link both.is_new.link_is) none)
      | inr alone ↦ subst (RunsBetween m.config below) (one_port near own.port p near_on x) alone.between
    ];
  }

  far_joined : IsJoined seen' below (suc count) far
  far_joined = record {
    partner = near;
    stands = far_partner;
    back = made.near_partner;
    flow = λ p q x y. flow_back m.config below q p (near_flow q p y x);
    alone = λ p x none. absurd (no_port near own.port near_on none);
  }

  old_joined : (k : ℕ) (c : Channel) → slice_get m.channels k ≡ Some c → IsJoined seen' below k c
  old_joined k c h = (let j = st.channels.joined k c h in record { partner = j.partner; stands = still_at m.channels (near ∷ far ∷ []) c.partner j.partner j.stands; back = j.back; flow = j.flow; alone = j.alone })

  -- ---- what may be claimed is silent

  silent_still : (port : Port) → IsSilent m ps below port → (IsOnPort near port → ⊥) → (IsOnPort far port → ⊥) → IsSilent seen' ps below port
  silent_still port s near_off far_off = record {
    no_channel = λ k c h on. elim (channel_cases k c h) [
      | inl o ↦ s.no_channel k c o on
      | inr (inl t) ↦ near_off (subst (λ (z : Channel). IsOnPort z port) t.1 on)
      | inr (inr t) ↦ far_off (subst (λ (z : Channel). IsOnPort z port) t.1 on)
    ];
    no_link = s.no_link;
    unsent = s.unsent;
  }

  old_silent : (port : Port) (u : IsUnclaimed seen' below port) → slice_get m.channels u.place ≡ Some u.channel → IsSilent seen' ps below port
  old_silent port u was =
      let j = st.channels.joined u.place u.channel was in
      let same : j.partner ≡ u.partner = channels_same (slice_get channels' u.channel.partner) j.partner u.partner (still_at m.channels (near ∷ far ∷ []) u.channel.partner j.partner j.stands) u.is_partner in
      let before : IsUnclaimed m below port = record { place = u.place; channel = u.channel; stands = was; near = u.near; on_port = u.on_port; partner = j.partner; is_partner = j.stands; none = ap (λ (c : Channel). c.link) same ∙ u.none; flow = u.flow } in
      silent_still port (st.channels.unclaimed port before) (near_free port before) (far_free port before)

  -- its partner is the far one, which has none
  near_silent : (port : Port) (u : IsUnclaimed seen' below port) → u.channel ≡ near → IsSilent seen' ps below port
  near_silent port u same =
      let far_is : u.partner ≡ far = channels_same (slice_get channels' u.channel.partner) u.partner far u.is_partner (ap (λ (c : Channel). slice_get channels' c.partner) same ∙ near_partner) in
      let none : far.link ≡ None = ap (λ (c : Channel). c.link) (sym far_is) ∙ u.none in
      let at : u.near ≡ own.port = one_port near u.near own.port (subst (λ (c : Channel). IsOnPort c u.near) same u.on_port) near_on in
      let flow : IsFlowBelow m.config below own.port port = subst (λ (p : Port). IsFlowBelow m.config below p port) at u.flow in
      elim (n.other) [
        | inl both ↦ absurd (no_port far both.link.port (on_link far both.link both.is_new.link_is) none)
        | inr alone ↦ silent_still port (alone.silent port flow) (λ on. two_ports m.config below own.port port flow (one_port near own.port port near_on on)) (λ on. no_port far port on none)
      ]

  far_silent : (port : Port) (u : IsUnclaimed seen' below port) → u.channel ≡ far → ⊥
  far_silent port u same =
      let near_is : u.partner ≡ near = channels_same (slice_get channels' u.channel.partner) u.partner near u.is_partner (ap (λ (c : Channel). slice_get channels' c.partner) same ∙ far_partner) in
      no_port near own.port near_on (ap (λ (c : Channel). c.link) (sym near_is) ∙ u.none)

  made_apart : (j k : ℕ) (a b : Channel) (port : Port) → slice_get channels' j ≡ Some a → slice_get channels' k ≡ Some b → IsOnPort a port → IsOnPort b port → j ≡ k
  made_apart j k a b port x y p q = elim (channel_cases j a x) [
    | inl o ↦ elim (channel_cases k b y) [
      | inl w ↦ st.channels.apart j k a b port o w p q
      | inr (inl t) ↦ absurd (near_other j a port o p (subst (λ (z : Channel). IsOnPort z port) t.1 q))
      | inr (inr t) ↦ absurd (far_other j a port o p (subst (λ (z : Channel). IsOnPort z port) t.1 q))
    ]
    | inr (inl s) ↦ elim (channel_cases k b y) [
      | inl w ↦ absurd (near_other k b port w q (subst (λ (z : Channel). IsOnPort z port) s.1 p))
      | inr (inl t) ↦ s.0 ∙ sym t.0
      | inr (inr t) ↦ absurd (new_apart port (subst (λ (z : Channel). IsOnPort z port) s.1 p) (subst (λ (z : Channel). IsOnPort z port) t.1 q))
    ]
    | inr (inr s) ↦ elim (channel_cases k b y) [
      | inl w ↦ absurd (far_other k b port w q (subst (λ (z : Channel). IsOnPort z port) s.1 p))
      | inr (inl t) ↦ absurd (new_apart port (subst (λ (z : Channel). IsOnPort z port) t.1 q) (subst (λ (z : Channel). IsOnPort z port) s.1 p))
      | inr (inr t) ↦ s.0 ∙ sym t.0
    ]
  ]

  -- the live link of a port is the new link with that port
  own_link : (c : Channel) (its new : Attachment) (i o : ℕ) → IsNewLink m ps below c new → c.link ≡ Some its → HasLive ps i o its.port → (c.member ≡ i) × (its.number ≡ o)
  own_link c its new i o is_new link_is live =
      let same : its ≡ new = links_same c.link its new link_is is_new.link_is in
      let its_own = is_new.own i o (subst (λ (z : Attachment). HasLive ps i o z.port) same live) in
      (its_own.0, ap (λ (z : Attachment). z.number) same ∙ its_own.1)

  made_matched : (i o k : ℕ) (c : Channel) (link : Attachment) → slice_get channels' k ≡ Some c → c.link ≡ Some link → HasLive ps i o link.port → (c.member ≡ i) × (link.number ≡ o)
  made_matched i o k c link h link_is live = elim (channel_cases k c h) [
    | inl old ↦ st.channels.matched i o k c link old link_is live
    | inr (inl t) ↦ (let is = own_link near link own i o n.is_new (ap (λ (z : Channel). z.link) (sym t.1) ∙ link_is) live in (ap (λ (z : Channel). z.member) t.1 ∙ is.0, is.1))
    | inr (inr t) ↦
        let far_is : far.link ≡ Some link = ap (λ (z : Channel). z.link) (sym t.1) ∙ link_is in
        let f = far_cases link.port (on_link far link far_is) in
        let is = own_link far link f.0 i o f.1 far_is live in
        (ap (λ (z : Channel). z.member) t.1 ∙ is.0, is.1)
  ]

  made_channels : AreChannels seen' ps below
  made_channels = record {
    alike = two_long m.channels m.ends near far asker end st.channels.alike;
    names = λ k c h. elim (channel_cases k c h) [
      | inl o ↦ still_at m.ids (near_ids ∷ far_ids ∷ []) k (names_at k c.partner) (st.channels.names k c o)
      | inr (inl t) ↦ ap (slice_get ids') t.0 ∙ near_named ∙ ap (λ (p : ℕ). Some (names_at count p)) (sym made.near_partner) ∙ ap (λ (z : Channel). Some (names_at count z.partner)) (sym t.1) ∙ ap (λ (i : ℕ). Some (names_at i c.partner)) (sym t.0)
      | inr (inr t) ↦ ap (slice_get ids') t.0 ∙ far_named ∙ ap (λ (p : ℕ). Some (names_at (suc count) p)) (sym made.far_partner) ∙ ap (λ (z : Channel). Some (names_at (suc count) z.partner)) (sym t.1) ∙ ap (λ (i : ℕ). Some (names_at i c.partner)) (sym t.0)
    ];
    joined = λ k c h. elim (channel_cases k c h) [
      | inl o ↦ old_joined k c o
      | inr (inl t) ↦ subst (λ (z : Channel). IsJoined seen' below k z) (sym t.1) (subst (λ (i : ℕ). IsJoined seen' below i near) (sym t.0) near_joined)
      | inr (inr t) ↦ subst (λ (z : Channel). IsJoined seen' below k z) (sym t.1) (subst (λ (i : ℕ). IsJoined seen' below i far) (sym t.0) far_joined)
    ];
    apart = made_apart;
    numbered = st.channels.numbered;
    based = st.channels.based;
    matched = made_matched;
    unclaimed = λ port u. elim (channel_cases u.place u.channel u.stands) [
      | inl o ↦ old_silent port u o
      | inr (inl t) ↦ near_silent port u t.1
      | inr (inr t) ↦ absurd (far_silent port u t.1)
    ];
  }

  -- ---- the cloud

  -- nothing is of the new places
  none_new : (death : ℕ) (pdu : Pdu) (x : LinkCloud m.config channels' ps below death pdu) → slice_get m.channels x.place ≡ Some x.channel
  none_new death pdu x = elim (channel_cases x.place x.channel x.stands) [
    | inl o ↦ o
    | inr (inl t) ↦ absurd (n.is_new.silent death x.plain x.of_link (subst (λ (c : Channel). IsOn m.config ps below c death x.plain) t.1 x.here))
    | inr (inr t) ↦
        let here : IsOn m.config ps below far death x.plain = subst (λ (c : Channel). IsOn m.config ps below c death x.plain) t.1 x.here in
        let f = far_cases here.link.port (on_link far here.link here.link_is) in
        absurd (f.1.silent death x.plain x.of_link here)
  ]

  made_covers : Covers m.clock cloud cloud'
  made_covers death pdu x alive = (death, omega arith, record { place = x.place; channel = x.channel; stands = none_new death pdu x; plain = x.plain; of_link = x.of_link; here = x.here; is = x.is })

  -- ---- the journal

  roles_clash : (e f : End) → e.role ≡ Asker → f.role ≡ Far → e.role ≡ f.role → ⊥
  roles_clash e f x y same = (let clash : Asker ≡ Far = sym x ∙ same ∙ y in cc)

  partners : IsPartner asker end
  partners = record { same_flow = made.same_flow; other_role = λ is. roles_clash asker end made.asks made.answers (sym is) }

  -- no end that was there has the flow of the new ones
  not_end : (i : ℕ) (e : End) → At m.ends i e → e.flow ≢ end.flow
  not_end i e is same = made.fresh i e is (same ∙ made.same_flow)

  -- a partner of an end that was there was there
  old_partner : (i k : ℕ) (a b : End) → At m.ends i a → At ends' k b → b.flow ≡ a.flow → At m.ends k b
  old_partner i k a b x y same = elim (two_at m.ends asker end k b y) [
    | inl o ↦ o
    | inr (inl t) ↦ absurd (made.fresh i a x (sym same ∙ ap (λ (e : End). e.flow) t.1))
    | inr (inr t) ↦ absurd (not_end i a x (sym same ∙ ap (λ (e : End). e.flow) t.1))
  ]

  has_end : HasPartner ends' asker
  has_end = record { place = suc count; other = end; stands = second_at m.ends asker end; partner = partners }

  has_asker : HasPartner ends' end
  has_asker = record { place = count; other = asker; stands = first_at m.ends asker end; partner = partner_back asker end partners }

  has_still : (e : End) → HasPartner m.ends e → HasPartner ends' e
  has_still e h = record { place = h.place; other = h.other; stands = still_at m.ends (asker ∷ end ∷ []) h.place h.other h.stands; partner = h.partner }

  -- what holds of an old end and of both new ones holds of each
  by_end : (P : End → Type 0) → ((i : ℕ) (e : End) → At m.ends i e → P e) → P asker → P end → (i : ℕ) (e : End) → At ends' i e → P e
  by_end P old one two i e is = elim (two_at m.ends asker end i e is) [
    | inl o ↦ old i e o
    | inr (inl t) ↦ subst P (sym t.1) one
    | inr (inr t) ↦ subst P (sym t.1) two
  ]

  named_back : IsNamed end asker
  named_back = record { peer = made.named.its_peer; its_peer = made.named.peer; cube = sym made.named.cube }

  new_whole : (e : End) → IsUnused e → IsWhole m.clock e
  new_whole e u = record { sent = subst (IsDated m.clock) (sym u.sent) (dated_none m.clock); got = subst (IsDated m.clock) (sym u.got) (dated_none m.clock); taken = (let taken = u.taken in omega arith) }

  same_ends : (i k : ℕ) (a b : End) → At ends' i a → At ends' k b → a.flow ≡ b.flow → a.role ≡ b.role → i ≡ k
  same_ends i k a b x y flow role = elim (two_at m.ends asker end i a x) [
    | inl o ↦ st.journal.distinct i k a b o (old_partner i k a b o y (sym flow)) flow role
    | inr (inl s) ↦ elim (two_at m.ends asker end k b y) [
      | inl o ↦ absurd (made.fresh k b o (sym flow ∙ ap (λ (e : End). e.flow) s.1))
      | inr (inl t) ↦ s.0 ∙ sym t.0
      | inr (inr t) ↦ absurd (roles_clash asker end made.asks made.answers (ap (λ (e : End). e.role) (sym s.1) ∙ role ∙ ap (λ (e : End). e.role) t.1))
    ]
    | inr (inr s) ↦ elim (two_at m.ends asker end k b y) [
      | inl o ↦ absurd (not_end k b o (sym flow ∙ ap (λ (e : End). e.flow) s.1))
      | inr (inl t) ↦ absurd (roles_clash asker end made.asks made.answers (ap (λ (e : End). e.role) (sym t.1) ∙ sym role ∙ ap (λ (e : End). e.role) s.1))
      | inr (inr t) ↦ s.0 ∙ sym t.0
    ]
  ]

  named_as : (i k : ℕ) (e other : End) → At ends' i e → At ends' k other → IsPartner e other → IsNamed e other
  named_as i k e other x y p = elim (two_at m.ends asker end i e x) [
    | inl o ↦ st.journal.named i k e other o (old_partner i k e other o y p.same_flow) p
    | inr (inl s) ↦ elim (two_at m.ends asker end k other y) [
      | inl o ↦ absurd (made.fresh k other o (p.same_flow ∙ ap (λ (z : End). z.flow) s.1))
      | inr (inl t) ↦ absurd (p.other_role (ap (λ (z : End). z.role) (t.1 ∙ sym s.1)))
      | inr (inr t) ↦ rw (s.1, t.1) made.named
    ]
    | inr (inr s) ↦ elim (two_at m.ends asker end k other y) [
      | inl o ↦ absurd (not_end k other o (p.same_flow ∙ ap (λ (z : End). z.flow) s.1))
      | inr (inl t) ↦ rw (s.1, t.1) named_back
      | inr (inr t) ↦ absurd (p.other_role (ap (λ (z : End). z.role) (t.1 ∙ sym s.1)))
    ]
  ]

  made_journal : IsJournal m.clock ends'
  made_journal = record {
    distinct = same_ends;
    far = λ i e is role. by_end (λ z. z.role ≡ Far → HasPartner ends' z) (λ k z h r. has_still z (st.journal.far k z h r)) (λ r. has_end) (λ r. has_asker) i e is role;
    named = named_as;
    allocated = λ i e is state. by_end (λ z. z.state ≡ Allocated → HasPartner ends' z) (λ k z h r. has_still z (st.journal.allocated k z h r)) (λ r. has_end) (λ r. has_asker) i e is state;
    met = λ i j e x is got. by_end (λ z. slice_get z.got j ≡ Some x → HasPartner ends' z) (λ k z h r. has_still z (st.journal.met k j z x h r)) (λ r. has_end) (λ r. has_asker) i e is got;
    whole = λ i e is. by_end (IsWhole m.clock) (λ k z h. st.journal.whole k z h) (new_whole asker made.unused) (new_whole end made.its_unused) i e is;
  }

  -- ---- the directions

  -- the own name of an end is its place
  own_place : (i : ℕ) (c : Ids) → slice_get m.ids i ≡ Some c → c.own ≡ i
  own_place i c h =
      let x = beside m.ids m.channels i c (st.channels.alike ∙ sym st.own.alike) h in
      let is : c ≡ names_at i x.0.partner = ids_same (slice_get m.ids i) c (names_at i x.0.partner) h (st.channels.names i x.0 x.1) in
      ap (λ (z : Ids). z.own) is

  are_near : AreIds g asker near_ids
  are_near = (let room = made.room in record { own = omega arith; far = omega arith; scep = omega arith; dcep = omega arith; qos = sym made.cube })

  are_far : AreIds g end far_ids
  are_far = (let room = made.room in record { own = omega arith; far = omega arith; scep = omega arith; dcep = omega arith; qos = sym made.cube ∙ sym made.named.cube })

  -- the name of a place that is new is free
  place_free : (place : ℕ) → count ≤ place → IsFree m.clock st.own.flows place 0
  place_free place le i flow side point at is addr cep =
      let here : Place = record { flow = i; side = side } in
      let p = st.own.entered.all i side flow point at is in
      let e = beside st.own.places m.ends p.0 here (sym st.own.entered.places_alike) p.1 in
      let c = beside m.ends m.ids p.0 e.0 st.own.alike e.1 in
      let end = end_of_flow g m.clock cloud [] m.ends m.ids lines st.own p.0 e.0 c.0 here flow (record { end = e.1; ids_are = c.1 }) p.1 at in
      let same : end.point ≡ point = same_Some end.point point (sym end.is ∙ is) in
      let is_place : c.0.own ≡ p.0 = own_place p.0 c.0 c.1 in
      let lt = slice_get_within m.ends p.0 e.0 e.1 in
      let own : c.0.own ≡ place = end.own ∙ ap (λ (z : Endpoint). z.addr) same ∙ addr in
      absurd (omega (arith, lt, is_place, own, le))

  blank : (e : End) → IsUnused e → IsBlank e
  blank e u = record { sent = u.sent; got = u.got; taken = u.taken }

  made_own : IsOwn g m.clock cloud' [] ends' ids' (lines ++ there ∷ back ∷ [])
  made_own = own_made g m.clock cloud cloud' [] m.ends m.ids lines st.own asker end near_ids there back m.manage (record {
    covers = made_covers;
    is_cube = manage_is m.config m.manage st.managed.id;
    limits = st.managed.cube;
    fresh = made.fresh;
    same_flow = made.same_flow;
    asks = made.asks;
    answers = made.answers;
    asker_up = made.unused.state;
    end_up = made.its_unused.state;
    asker_cube = made.cube;
    end_cube = made.named.cube ∙ made.cube;
    apart = λ is. omega arith;
    free = place_free count (omega arith);
    far_free = place_free (suc count) (omega arith);
    asker_blank = blank asker made.unused;
    end_blank = blank end made.its_unused;
    asker_ids = are_near;
    end_ids = are_far;
    there_is = refl;
    back_is = refl;
  }) [] (λ i member its is_member are_its. absurd (none-some its are_its))

  pub made_stands : IsStanding m' lines' ps below
  made_stands = subst (λ (z : ChannelsSeen). IsStanding z lines' ps below) (sym made.new_is) (subst (λ (ls : List Direction). IsStanding (record m { channels = channels'; ends = ends'; ids = ids' }) ls ps below) (sym made.lines_are)
      (record { managed = st.managed; clock = st.clock; channels = made_channels; journal = made_journal; own = made_own }))
