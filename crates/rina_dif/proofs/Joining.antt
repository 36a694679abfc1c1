-- One link after the other gets its management connection.
use Rattle.std.proofs.Common.{◌≡◌, ◌≢◌, ◌∙◌, ◌⊎◌, ℕ, zero, suc, ◌*◌, ◌<◌, ◌≤◌, ◌^◌, ◌==◌, Bool, true, false, cond, eqb, List, [], ◌∷◌, ◌++◌, length, map, slice_get, take, Option, option_map, Some, None, refl, sym, ap, subst, arith, inl, inr}
use Rattle.std.proofs.lemmas.Bool.Decides.{eqb_tells}
use Rattle.std.proofs.lemmas.List.{length-map}
use Rattle.std.proofs.lemmas.Option.{same_Some, slice_get-map, slice_get_within}
use Rattle.rina_base.specs.declared.number.FlowName.{FlowName}
use Rattle.rina_base.specs.declared.number.Port.{Port}
use Rattle.rina_channel.specs.declared.channel.Attachment.{Attachment}
use Rattle.rina_channel.specs.declared.channel.Channel.{Channel}
use Rattle.rina_channel.specs.Channels.{ChannelsSeen, IsOnPort, IsUnclaimed}
use Rattle.rina_channel.specs.Making.{AreMade, IsNewFlow, IsNewLink}
use Rattle.rina_channel.specs.Names.{link_config, names_at}
use Rattle.rina_channel.proofs.Config.{same_size}
use Rattle.rina_channel.proofs.Making.{made_stands}
use Rattle.rina_conn.specs.declared.form.Peer.{Peer}
use Rattle.rina_cube.specs.declared.Cube.{Cube}
use Rattle.rina_iface.specs.declared.ends.End.{End}
use Rattle.rina_iface.specs.Journal.{At}
use Rattle.rina_iface.specs.Seen.{Seen}
use Rattle.rina_iface.proofs.Grown.{still_at}
use Rattle.rina_law.specs.Direction.{Direction, start}
use Rattle.rina_data.specs.declared.process.IpcProcess.{IpcProcess}
use Rattle.rina_data.specs.declared.settings.Settings.{Settings}
use Rattle.rina_data.specs.Configs.{Config, config_of, cube_by, greatest, piece_size}
use Rattle.rina_data.specs.Deciding.{process_of}
use Rattle.rina_dif_law.specs.Dif.{constants}
use Rattle.rina_dif_law.specs.Ids.{Ids}
use Rattle.rina_dif_law.specs.Lifting.{ticked}
use Rattle.rina_dif_law.proofs.Pairs.{two_at, two_long}
use Rattle.rina_flood.specs.Network.{Side, Near, Far as FarSide, other}
use Rattle.rina_flood.specs.Static.{end_place}
use Rattle.rina_flows.specs.Adding.{IsNewFlow as IsNewPair, begun_now, turned}
use Rattle.rina_flows.specs.Calls.{AreTied}
use Rattle.rina_flows.specs.Tied.{conns_of, ids_by}
use Rattle.rina_dif.specs.declared.connections.Connections.{Connections}
use Rattle.rina_dif.specs.Connected.{ArePaired, CanManage, channels_seen}
use Rattle.rina_dif.specs.Laying.{AreLaid, BindsAll, IsLaidIn, ends_of}
use Rattle.rina_dif.specs.declared.dif.Dif.{Dif}
use Rattle.rina_iface.specs.declared.ask.Fixed.{Fixed}
use Rattle.rina_dif.specs.Planned.{link_fixed, links_of, settings_by}
use Rattle.rina_dif.proofs.Made.{its_links}
use Rattle.rina_dif.specs.Routing.{AreRouted}
use Rattle.rina_dif.proofs.Routed.{laid_still}
use Rattle.rina_dif.proofs.Sound.{are_members}
use Rattle.rina_dif_law.specs.Numbered.{AreMembers}
use Rattle.rina_member.specs.declared.management.Management.{Management}
use Rattle.rina_plan.specs.declared.dif.DifPlan.{DifPlan}
use Rattle.rina_stack.specs.declared.plan.Plan.{Plan}
use Rattle.rina_stack.specs.Plan.{IsPlan}
use Rattle.rina_dif.specs.Linking.{AreLinks, Connects, HaveConnections, IsChannelOf, IsConnected, IsOpen, StandOnLinks, port_of}
use Rattle.rina_dif.proofs.Connected.{StandSoFar, none_so_far}
use Rattle.rina_dif.proofs.Connecting.{based_up, channel_link, numbered_up, silent}
use Rattle.rina_dif.proofs.LinkFlows.{ends_push}
use Rattle.rina_data.specs.declared.link.Link.{Link}
use Rattle.rina_data.specs.Process.{Process}
use Rattle.rina_data.proofs.Finding.{there}
use Rattle.rina_channel.specs.Channels.{HasLive}
use Rattle.rina_queue.proofs.Places.{kept_at}
use Rattle.rina_dif.specs.Laying.{links_from, ports_at}
use Rattle.rina_dif.proofs.Bare.{map_at}
use Rattle.rina_dif.proofs.Made.{link_on}

-- Lists of ports

take_push : {X : Type 0} (xs : List X) (i : ℕ) (x : X) → slice_get xs i ≡ Some x → take (suc i) xs ≡ take i xs ++ x ∷ []
take_push [] i x h = absurd cc
take_push (y ∷ ys) zero x h = (let same : y ≡ x = cc in ap (λ z. z ∷ []) same)
take_push (y ∷ ys) (suc i) x h = ap (λ zs. y ∷ zs) (take_push ys i x h)

ends_split : (ports : List (Port × Port)) (i : ℕ) (pair : Port × Port) → slice_get ports i ≡ Some pair → (rest : List Port) × (ends_of ports ≡ ends_of (take i ports) ++ pair.0 ∷ pair.1 ∷ rest)
ends_split [] i pair h = absurd cc
ends_split (p ∷ ps) zero pair h = (let same : p ≡ pair = cc in (ends_of ps, ap (λ (z : Port × Port). z.0 ∷ z.1 ∷ ends_of ps) same))
ends_split (p ∷ ps) (suc i) pair h = (let r = ends_split ps i pair h in (r.0, ap (λ (zs : List Port). p.0 ∷ p.1 ∷ zs) r.1))

pub ends_long : (ports : List (Port × Port)) → length (ends_of ports) ≡ 2 * length ports
ends_long [] = refl
ends_long (p ∷ ps) = (let rest = ends_long ps in omega (arith, rest))

front_at : {X : Type 0} (xs : List X) (y z : X) (rest : List X) → slice_get (xs ++ y ∷ z ∷ rest) (length xs) ≡ Some y
front_at [] y z rest = refl
front_at (x ∷ xs) y z rest = front_at xs y z rest

next_at : {X : Type 0} (xs : List X) (y z : X) (rest : List X) → slice_get (xs ++ y ∷ z ∷ rest) (suc (length xs)) ≡ Some z
next_at [] y z rest = refl
next_at (x ∷ xs) y z rest = next_at xs y z rest

map_push : {X Y : Type 0} (f : X → Y) (xs : List X) (x y : X) → map f (xs ++ x ∷ y ∷ []) ≡ (map f xs ++ f x ∷ []) ++ f y ∷ []
map_push f [] x y = refl
map_push f (z ∷ xs) x y = ap (λ zs. f z ∷ zs) (map_push f xs x y)

map_both : {X Y : Type 0} (f : X → Y) (xs : List X) (x y : X) → map f ((xs ++ x ∷ []) ++ y ∷ []) ≡ (map f xs ++ f x ∷ []) ++ f y ∷ []
map_both f [] x y = refl
map_both f (z ∷ xs) x y = ap (λ zs. f z ∷ zs) (map_both f xs x y)

-- The port of a channel

on_some : (c : Channel) (port : Port) → IsOnPort c port → port_of c ≡ Some port
on_some c port on = ap (option_map (λ (a : Attachment). a.port)) on.link_is ∙ ap (λ (p : Port). Some p) on.port_is

some_on : (o : Option Attachment) (port : Port) → option_map (λ (a : Attachment). a.port) o ≡ Some port → (a : Attachment) × (o ≡ Some a) × (a.port ≡ port)
some_on None port is = absurd cc
some_on (Some a) port is = (a, refl, cc)

some_none : {X : Type 0} (x : X) (o : Option X) → Some x ≡ o → o ≡ None → ⊥
some_none x o some none = cc

-- What was made of the first links

pub record AreMadeOf (s : Settings) (manage : Cube) (clock : ℕ) (ports : List (Port × Port)) (ps : List IpcProcess) (n : ℕ) (c : Connections) : Type 0 where
  pub have : HaveConnections s manage (take n ports) ps c
  pub named : (k : ℕ) (e : End) → At c.flows.journal.ends k e → e.flow.src ≤ k
  pub stand : (below : Seen) → AreLinks s clock ports ps below → StandSoFar (config_of s) clock c (map process_of ps) below

none_at : {X : Type 0} (xs : List X) (i : ℕ) (x : X) → xs ≡ [] → slice_get xs i ≡ Some x → ⊥
none_at xs i x e h = cc

pub none_made : (s : Settings) (manage : Cube) (clock : ℕ) (ports : List (Port × Port)) (ps : List IpcProcess) (c : Connections) → c.manage ≡ manage → c.channels ≡ [] → c.flows.journal.ends ≡ [] → c.flows.conns ≡ [] → CanManage (config_of s) manage → AreMadeOf s manage clock ports ps 0 c
none_made s manage clock ports ps c manage_is channels ends conns can = record {
  have = record {
    manage_is = manage_is;
    ports_are = ap (map port_of) channels;
    links = λ k x port is has. absurd (none_at c.channels k x channels is);
    alike = ap (λ (es : List End). length es) ends ∙ ap (λ (xs : List Channel). length xs) (sym channels);
    unused = λ k e is. absurd (none_at c.flows.journal.ends k e ends is);
  };
  named = λ k e is. absurd (none_at c.flows.journal.ends k e ends is);
  stand = λ below links. none_so_far (config_of s) clock c (map process_of ps) below channels ends conns links.clock_is (subst (CanManage (config_of s)) (sym manage_is) can) (numbered_up s (ends_of ports) ps links.up) (based_up s clock ports ps below links);
}

-- The next one

its_own : (s : Settings) (ps : List IpcProcess) (port other : Port) (partner : ℕ) (c : Channel) → IsChannelOf s ps port partner c → port_of c ≡ Some other → IsChannelOf s ps other c.partner c
its_own s ps port other partner c of has =
    let same : port ≡ other = same_Some port other (sym (ap (option_map (λ (a : Attachment). a.port)) of.attached) ∙ has) in
    subst (λ (p : Port). IsChannelOf s ps p c.partner c) same (subst (λ (n : ℕ). IsChannelOf s ps port n c) (sym of.partner_is) of)

by_eq : (manage : Cube) (b : Bool) → b ≡ true → cond b (Some manage) None ≡ Some manage
by_eq manage true h = refl
by_eq manage false h = cc

pub manage_there : (g : Config) (manage : Cube) → cube_by manage.id (link_config g manage).cubes ≡ Some manage
manage_there g manage = elim (eqb_tells manage.id manage.id) [
  | inl t ↦ by_eq manage (eqb manage.id manage.id) t.0
  | inr f ↦ absurd (f.1 refl)
]

module _ (s : Settings) (manage : Cube) (clock : ℕ) (ports : List (Port × Port)) (ps : List IpcProcess) (i : ℕ) (pair : Port × Port) (c c' : Connections) (is : slice_get ports i ≡ Some pair) (can : CanManage (config_of s) manage) (made : AreMadeOf s manage clock ports ps i c) (x : Connects s ps clock pair c c') where
  abbrev g : Config
  g = config_of s

  abbrev ends : List End
  ends = c.flows.journal.ends

  place_is : x.place ≡ length ends
  place_is = x.place_is ∙ sym made.have.alike

  next_have : HaveConnections s manage (take (suc i) ports) ps c'
  next_have = record {
    manage_is = x.manage_is ∙ made.have.manage_is;
    ports_are =
        let two : ends_of (take (suc i) ports) ≡ (ends_of (take i ports) ++ pair.0 ∷ []) ++ pair.1 ∷ [] = ap ends_of (take_push ports i pair is) ∙ ends_push (take i ports) pair.0 pair.1 in
        let near : Option Port → Option Port → List (Option Port) = λ a b. (map port_of c.channels ++ a ∷ []) ++ b ∷ [] in
        let first : port_of x.near ≡ Some pair.0 = ap (option_map (λ (a : Attachment). a.port)) x.is_near.attached in
        let second : port_of x.far ≡ Some pair.1 = ap (option_map (λ (a : Attachment). a.port)) x.is_far.attached in
        ap (map port_of) x.channels_are ∙ map_push port_of c.channels x.near x.far ∙ (λ j. near (first j) (second j)) ∙ ap (λ (zs : List (Option Port)). (zs ++ Some pair.0 ∷ []) ++ Some pair.1 ∷ []) made.have.ports_are ∙ sym (map_both (λ (p : Port). Some p) (ends_of (take i ports)) pair.0 pair.1) ∙ ap (map (λ (p : Port). Some p)) (sym two);
    links = λ k z port h has. elim (two_at c.channels x.near x.far k z (ap (λ (zs : List Channel). slice_get zs k) (sym x.channels_are) ∙ h)) [
      | inl old ↦ made.have.links k z port old has
      | inr (inl t) ↦ subst (λ (y : Channel). IsChannelOf s ps port y.partner y) (sym t.1) (its_own s ps pair.0 port (suc x.place) x.near x.is_near (ap port_of (sym t.1) ∙ has))
      | inr (inr t) ↦ subst (λ (y : Channel). IsChannelOf s ps port y.partner y) (sym t.1) (its_own s ps pair.1 port x.place x.far x.is_far (ap port_of (sym t.1) ∙ has))
    ];
    alike = ap (λ (es : List End). length es) x.ends_are ∙ two_long ends c.channels x.asker x.end x.near x.far made.have.alike ∙ ap (λ (zs : List Channel). length zs) (sym x.channels_are);
    unused = λ k e h. elim (two_at ends x.asker x.end k e (ap (λ (es : List End). slice_get es k) (sym x.ends_are) ∙ h)) [
      | inl old ↦ made.have.unused k e old
      | inr (inl t) ↦ subst IsOpen (sym (t.1 ∙ x.asker_is)) (record { allocated = refl; sent = refl; got = refl })
      | inr (inr t) ↦ subst IsOpen (sym (t.1 ∙ x.end_is)) (record { allocated = refl; sent = refl; got = refl })
    ];
  }

  asker_src : x.asker.flow.src ≡ x.place
  asker_src = ap (λ (e : End). e.flow.src) x.asker_is

  end_src : x.end.flow.src ≡ x.place
  end_src = ap (λ (e : End). e.flow.src) x.end_is

  next_named : (k : ℕ) (e : End) → At c'.flows.journal.ends k e → e.flow.src ≤ k
  next_named k e h = elim (two_at ends x.asker x.end k e (ap (λ (es : List End). slice_get es k) (sym x.ends_are) ∙ h)) [
    | inl old ↦ made.named k e old
    | inr (inl t) ↦ (let src = ap (λ (z : End). z.flow.src) t.1 in let own = asker_src in let at = place_is in let here = t.0 in omega (arith, src, own, at, here))
    | inr (inr t) ↦ (let src = ap (λ (z : End). z.flow.src) t.1 in let own = end_src in let at = place_is in let here = t.0 in omega (arith, src, own, at, here))
  ]

  fresh : (k : ℕ) (e : End) → At ends k e → e.flow ≢ x.asker.flow
  fresh k e h same =
      let src : e.flow.src ≡ x.asker.flow.src = ap (λ (f : FlowName). f.src) same in
      let own = asker_src in
      let at = place_is in
      let within = slice_get_within ends k e h in
      let low = made.named k e h in
      omega (arith, src, own, at, within, low)

  module _ (below : Seen) (links : AreLinks s clock ports ps below) where
    may : CanManage g c.manage
    may = subst (CanManage g) (sym made.have.manage_is) can

    abbrev m : ChannelsSeen
    m = channels_seen g clock c

    abbrev split : (rest : List Port) × (ends_of ports ≡ ends_of (take i ports) ++ pair.0 ∷ pair.1 ∷ rest)
    split = ends_split ports i pair is

    -- no channel has a port of the next link
    its_port : (k : ℕ) (z : Channel) → slice_get c.channels k ≡ Some z → (p : Port) × (slice_get (ends_of (take i ports)) k ≡ Some p) × (Some p ≡ port_of z)
    its_port k z h = map_at (λ (p : Port). Some p) (ends_of (take i ports)) k (port_of z) (ap (λ (zs : List (Option Port)). slice_get zs k) (sym made.have.ports_are) ∙ slice_get-map port_of c.channels k ∙ ap (option_map port_of) h)

    old_port : (k : ℕ) (z : Channel) (port : Port) → slice_get c.channels k ≡ Some z → IsOnPort z port → (slice_get (ends_of ports) k ≡ Some port) × (k < length (ends_of (take i ports)))
    old_port k z port h on =
        let p = its_port k z h in
        let first : slice_get (ends_of (take i ports)) k ≡ Some port = p.1 ∙ p.2 ∙ on_some z port on in
        (ap (λ (zs : List Port). slice_get zs k) split.1 ∙ still_at (ends_of (take i ports)) (pair.0 ∷ pair.1 ∷ split.0) k port first, slice_get_within (ends_of (take i ports)) k port first)

    -- each has one, so that none may claim a port
    none_claims : (port : Port) → IsUnclaimed m below port → ⊥
    none_claims port u =
        let p = its_port u.channel.partner u.partner u.is_partner in
        some_none p.0 (port_of u.partner) p.2 (ap (option_map (λ (a : Attachment). a.port)) u.none)

    near_at : slice_get (ends_of ports) (length (ends_of (take i ports))) ≡ Some pair.0
    near_at = ap (λ (zs : List Port). slice_get zs (length (ends_of (take i ports)))) split.1 ∙ front_at (ends_of (take i ports)) pair.0 pair.1 split.0

    far_at : slice_get (ends_of ports) (suc (length (ends_of (take i ports)))) ≡ Some pair.1
    far_at = ap (λ (zs : List Port). slice_get zs (suc (length (ends_of (take i ports))))) split.1 ∙ next_at (ends_of (take i ports)) pair.0 pair.1 split.0

    new_flow : IsNewFlow m (map process_of ps) below x.near x.far
    new_flow =
        let l = links.flows i pair is in
        let f = l.flow in
        let near_link : Attachment = record { number = x.is_near.link.number; port = pair.0 } in
        let far_link : Attachment = record { number = x.is_far.link.number; port = pair.1 } in
        let near_new : IsNewLink m (map process_of ps) below x.near near_link = record {
          link_is = x.is_near.attached;
          others = λ k z h on. (let o = old_port k z pair.0 h on in let e = links.apart k (length (ends_of (take i ports))) pair.0 o.0 near_at in let lt = o.1 in omega (arith, e, lt));
          free = none_claims pair.0;
          own = λ j n live. channel_link s clock ports ps below links pair.0 (suc x.place) x.near x.is_near j n live;
          silent = λ death pdu of here. silent s clock ports ps below links x.near near_link f.near_end x.is_near.attached f.is_near l.unsent death pdu here;
        } in
        let far_new : IsNewLink m (map process_of ps) below x.far far_link = record {
          link_is = x.is_far.attached;
          others = λ k z h on. (let o = old_port k z pair.1 h on in let e = links.apart k (suc (length (ends_of (take i ports)))) pair.1 o.0 far_at in let lt = o.1 in omega (arith, e, lt));
          free = none_claims pair.1;
          own = λ j n live. channel_link s clock ports ps below links pair.1 x.place x.far x.is_far j n live;
          silent = λ death pdu of here. silent s clock ports ps below links x.far far_link f.far_end x.is_far.attached f.is_far l.far_unsent death pdu here;
        } in
        record { link = near_link; is_new = near_new; other = inl (record { link = far_link; is_new = far_new; flow = f }) }

    abbrev peer : Peer
    peer = record { own = x.place; far = suc x.place; scep = 0; dcep = 0 }

    new_pair : IsNewPair (link_config g c.manage) c.manage (piece_size g) (greatest g) ends x.asker x.end
    new_pair = record {
      piece_is = sym (same_size g c.manage);
      max_is = refl;
      is_cube = manage_there g c.manage;
      fresh = fresh;
      same_flow = ap (λ (e : End). e.flow) x.end_is ∙ sym (ap (λ (e : End). e.flow) x.asker_is);
      got = ap (λ (e : End). e.got) x.asker_is;
      far_got = ap (λ (e : End). e.got) x.end_is;
    }

    -- the names of the next two places
    there_ids : ids_by peer c.manage.id ≡ names_at (length ends) (suc (length ends))
    there_ids = λ j. record { own = place_is j; far = suc (place_is j); scep = 0; dcep = 0; qos = may.managed.id j }

    back_ids : ids_by (turned peer) c.manage.id ≡ names_at (suc (length ends)) (length ends)
    back_ids = λ j. record { own = suc (place_is j); far = place_is j; scep = 0; dcep = 0; qos = may.managed.id j }

    abbrev begins : Ids → Direction
    begins ids = ticked clock (start (constants (link_config g c.manage) c.manage ids))

    -- the ends of the next link are a pair
    even : length c.channels ≡ 2 * length (take i ports)
    even = sym (length-map c.channels port_of) ∙ ap (λ (zs : List (Option Port)). length zs) made.have.ports_are ∙ length-map (ends_of (take i ports)) (λ (p : Port). Some p) ∙ ends_long (take i ports)

    at_pair : (l : ℕ) (side : Side) (z : Channel) → (slice_get c.channels (end_place l side) ≡ Some z) ⊎ (((end_place l side ≡ length c.channels) × (z ≡ x.near)) ⊎ ((end_place l side ≡ suc (length c.channels)) × (z ≡ x.far))) → z.partner ≡ end_place l (other side)
    at_pair l side z (inl old) = (made.stand below links).paired l side z old
    at_pair l Near z (inr (inl t)) = (let long = even in let at = t.0 in let place = x.place_is in let own = ap (λ (y : Channel). y.partner) t.1 ∙ x.is_near.partner_is in omega (arith, long, at, place, own))
    at_pair l FarSide z (inr (inl t)) = absurd (let long = even in let at = t.0 in omega (arith, long, at))
    at_pair l Near z (inr (inr t)) = absurd (let long = even in let at = t.0 in omega (arith, long, at))
    at_pair l FarSide z (inr (inr t)) = (let long = even in let at = t.0 in let place = x.place_is in let own = ap (λ (y : Channel). y.partner) t.1 ∙ x.is_far.partner_is in omega (arith, long, at, place, own))

    next_paired : ArePaired c'.channels
    next_paired l side z h = at_pair l side z (two_at c.channels x.near x.far (end_place l side) z (ap (λ (zs : List Channel). slice_get zs (end_place l side)) (sym x.channels_are) ∙ h))

    next_stand : StandSoFar g clock c' (map process_of ps) below
    next_stand =
        let was = made.stand below links in
        let has = x.adds (link_config g c.manage) clock was.lines was.tied new_pair in
        let lines' : List Direction = was.lines ++ begun_now (link_config g c.manage) clock c.manage peer ∷ begun_now (link_config g c.manage) clock c.manage (turned peer) ∷ [] in
        let ids : conns_of c'.flows.conns ≡ conns_of c.flows.conns ++ names_at (length ends) (suc (length ends)) ∷ names_at (suc (length ends)) (length ends) ∷ [] = has.ids ∙ (λ j. conns_of c.flows.conns ++ there_ids j ∷ back_ids j ∷ []) in
        let asker = x.asker_is in
        let end = x.end_is in
        let room = x.room in
        let at = place_is in
        let are : AreMade m was.lines x.near x.far x.asker x.end (channels_seen g clock c') lines' = record {
          near_partner = x.is_near.partner_is ∙ ap suc place_is;
          far_partner = x.is_far.partner_is ∙ place_is;
          room = subst (λ (n : ℕ). suc n < 2 ^ 32) place_is x.room;
          asks = ap (λ (e : End). e.role) asker;
          answers = ap (λ (e : End). e.role) end;
          same_flow = ap (λ (e : End). e.flow) end ∙ sym (ap (λ (e : End). e.flow) asker);
          named = record { peer = ap (λ (e : End). e.peer) asker ∙ sym (ap (λ (e : End). e.app) end); its_peer = ap (λ (e : End). e.peer) end ∙ sym (ap (λ (e : End). e.app) asker); cube = ap (λ (e : End). e.cube) end ∙ sym (ap (λ (e : End). e.cube) asker) };
          cube = ap (λ (e : End). e.cube) asker;
          unused = record { state = ap (λ (e : End). e.state) asker; sent = ap (λ (e : End). e.sent) asker; got = ap (λ (e : End). e.got) asker; taken = ap (λ (e : End). e.taken) asker };
          its_unused = record { state = ap (λ (e : End). e.state) end; sent = ap (λ (e : End). e.sent) end; got = ap (λ (e : End). e.got) end; taken = ap (λ (e : End). e.taken) end };
          fresh = fresh;
          lines_are = (λ j. was.lines ++ begins (there_ids j) ∷ begins (back_ids j) ∷ []);
          new_is = (λ j. record { config = g; manage = x.manage_is j; clock = clock; channels = x.channels_are j; ends = x.ends_are j; ids = ids j });
        } in
        record {
          may = subst (CanManage g) (sym x.manage_is) may;
          lines = lines';
          paired = next_paired;
          tied = subst (λ (z : Cube). AreTied (link_config g z) clock c'.flows lines') (sym x.manage_is) has.tied;
          standing = made_stands m was.lines (map process_of ps) below x.near x.far x.asker x.end (channels_seen g clock c') lines' was.standing new_flow are;
        }

  pub connects_next : AreMadeOf s manage clock ports ps (suc i) c'
  connects_next = record {
    have = next_have;
    named = next_named;
    stand = next_stand;
  }

-- All have theirs

take_all : {X : Type 0} (xs : List X) (n : ℕ) → length xs ≤ n → take n xs ≡ xs
take_all [] zero le = refl
take_all [] (suc n) le = refl
take_all (x ∷ xs) zero le = absurd (omega (arith, le))
take_all (x ∷ xs) (suc n) le = ap (λ zs. x ∷ zs) (take_all xs n (omega (arith, le)))

pub all_stand : (s : Settings) (manage : Cube) (clock : ℕ) (ports : List (Port × Port)) (ps : List IpcProcess) (n : ℕ) (c : Connections) → length ports ≤ n → AreMadeOf s manage clock ports ps n c → StandOnLinks s clock ports ps c
all_stand s manage clock ports ps n c le made below links =
    let was = made.stand below links in
    record {
      may = was.may;
      lines = was.lines;
      tied = was.tied;
      standing = was.standing;
      paired = was.paired;
      named = made.named;
      each = λ i k port live.
          let p = map_at process_of ps i live.process live.is_process in
          let within = slice_get_within ps i p.0 p.1 in
          let alike = links.up.aligned in
          let m = there s.members i (omega (arith, within, alike)) in
          let here = ports_at m.0.node (ends_of ports) in
          let its = (links.up.each i m.0 p.0 m.1 p.1).links in
          let stands : slice_get (links_from 0 here) live.place ≡ Some live.link = ap (λ (ls : List Link). slice_get ls live.place) (sym its ∙ ap (λ (z : Process). z.links) p.2) ∙ live.stands in
          let at = kept_at (λ (z : Port). z.node == m.0.node) (ends_of ports) live.place live.link.port (link_on 0 here live.place live.link stands) in
          let mapped : slice_get (map (λ (p : Port). Some p) (ends_of ports)) at.0 ≡ Some (Some live.link.port) = slice_get-map (λ (p : Port). Some p) (ends_of ports) at.0 ∙ ap (option_map (λ (p : Port). Some p)) at.1.stands in
          let x = map_at port_of c.channels at.0 (Some live.link.port) (ap (λ (zs : List (Option Port)). slice_get zs at.0) (made.have.ports_are ∙ ap (λ (qs : List (Port × Port)). map (λ (p : Port). Some p) (ends_of qs)) (take_all ports n le)) ∙ mapped) in
          let on = some_on x.0.link live.link.port x.2 in
          let its_link : HasLive (map process_of ps) i k on.0.port = record { process = live.process; is_process = live.is_process; place = live.place; link = live.link; stands = live.stands; live = live.live; number_is = live.number_is; port_is = sym on.2 } in
          let its = was.standing.channels.matched i k at.0 x.0 on.0 x.1 on.1 its_link in
          record { place = at.0; channel = x.0; is_channel = x.1; member_is = its.0; attached = on.0; attached_is = on.1; number_is = its.1; port_is = on.2 ∙ live.port_is };
    }

-- The links of a DIF that was made

pub are_links : (plan : Plan) (i : ℕ) (dif : DifPlan) (s : Settings) (clock : ℕ) (old new : Seen) (ports : List (Port × Port)) (managements : List Management) (linked ps : List IpcProcess) → IsPlan plan → slice_get plan.difs i ≡ Some dif → s ≡ settings_by plan i dif → clock ≡ old.now → IsLaidIn (config_of s) old new → AreLaid plan dif s dif.links old new ports linked → AreRouted s.members managements (length managements) linked ps → AreLinks s clock ports ps new
are_links plan i dif s clock old new ports managements linked ps sound at are starts inside was routed =
    let laid = laid_still plan dif s dif.links old new ports managements (length managements) linked ps was routed in
    record {
      clock_is = starts ∙ sym inside.laid.clock;
      members = subst (λ (z : Settings). AreMembers (config_of z)) (sym are) (are_members plan i dif sound at);
      up = laid.up;
      flows = laid.flows;
      apart = laid.apart;
    }

-- each link has its connection
pub is_connected : (plan : Plan) (i : ℕ) (dif dif' : DifPlan) (d : Dif) (old new : Seen) (ports slice : List (Port × Port)) → slice_get plan.difs i ≡ Some dif → slice_get plan.difs i ≡ Some dif' → slice ≡ ports → BindsAll old (map (link_fixed plan dif) dif.links) ports new → HaveConnections d.settings dif.manage slice d.processes d.connections → IsConnected d dif'.manage (links_of plan i) old new
is_connected plan i dif dif' d old new ports slice at at' same bound have =
    let one : dif ≡ dif' = (let both : Some dif ≡ Some dif' = sym at ∙ at' in cc) in
    record {
      ports = ports;
      bound = subst (λ (fs : List Fixed). BindsAll old fs ports new) (sym (its_links plan i dif at)) bound;
      have = subst (λ (z : DifPlan). HaveConnections d.settings z.manage ports d.processes d.connections) one (subst (λ (ps' : List (Port × Port)). HaveConnections d.settings dif.manage ps' d.processes d.connections) same have);
    }
