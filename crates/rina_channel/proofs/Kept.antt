-- What an end of a link handled is a front of what its partner offered.
use Rattle.std.proofs.Common.{◌≡◌, ℕ, ◌≤◌, ◌⊎◌, List, [], slice_get, slice_set, length-set, Option, Some, refl, sym, ◌∙◌, ap, subst, arith, inl, inr}
use Rattle.rina_account.specs.declared.ledger.Off.{Off}
use Rattle.rina_cube.specs.declared.Cube.{Cube}
use Rattle.rina_cube.specs.declared.Kind.{Kind}
use Rattle.rina_cube.specs.declared.Kind.TheVariants.{Reliable}
use Rattle.rina_cube.specs.Cubes.{promise_of}
use Rattle.rina_iface.specs.declared.ends.End.{End}
use Rattle.rina_iface.specs.declared.state.PortState.{PortState}
use Rattle.rina_iface.specs.Journal.{At, IsPartner}
use Rattle.rina_iface.specs.Seen.{Seen}
use Rattle.rina_law.specs.declared.entry.Entry.{Entry}
use Rattle.rina_law.specs.Direction.{Direction}
use Rattle.rina_law.specs.Journal.{IsPlace, Keeps}
use Rattle.rina_law.proofs.Keeping.{keeps_from}
use Rattle.rina_law.proofs.Lawfulness.{lawful_from}
use Rattle.rina_data.specs.Process.{Process}
use Rattle.rina_dif_law.specs.Dif.{constants}
use Rattle.rina_dif_law.specs.Ids.{Ids}
use Rattle.rina_dif_law.specs.Lawful.{IsLawfulFlow}
use Rattle.rina_dif_law.specs.Places.{ids_from}
use Rattle.rina_dif_law.specs.Standing.{IsConn, IsDirection}
use Rattle.rina_dif_law.proofs.Own.{end_of_flow, far_end_of_flow, named_used, pair}
use Rattle.rina_dif_law.proofs.Placed.{opposite}
use Rattle.rina_rest.specs.Flows.{Asker, Endpoint, Far, Flow, IsInUse, Side, end_at}
use Rattle.rina_base.specs.declared.pdu.Pdu.{Pdu}
use Rattle.rina_data.specs.Configs.{cube_by}
use Rattle.rina_channel.specs.Names.{names_at}
use Rattle.std.proofs.lemmas.Option.{same_Some}
use Rattle.rina_dif_law.proofs.After.{after_none}
use Rattle.rina_dif_law.proofs.Finding.{beside}
use Rattle.rina_flows.specs.Ending.{EndsAt, ForgetsAt}
use Rattle.rina_channel.specs.Changes.{LeavesLinks}
use Rattle.rina_channel.specs.Channels.{ChannelsSeen}
use Rattle.rina_channel.specs.Laws.{IsFront}
use Rattle.rina_channel.specs.LinkCloud.{LinkCloud}
use Rattle.rina_channel.specs.Rows.{config_of}
use Rattle.rina_channel.specs.Standing.{IsStanding}
use Rattle.rina_channel.proofs.Below.{stays}
use Rattle.rina_channel.proofs.Frame.{held, link_limits, one_cube, stands_with}
use Rattle.rina_channel.proofs.LinkClouds.{link_covers}
use Rattle.rina_channel.proofs.Rows.{holds_ended, holds_forgot}

one_place : (sent : List Entry) (e : Entry) (j k : ℕ) (s t : Entry) → IsPlace sent e j s → IsPlace sent e k t → j ≡ k
one_place sent e j k s t x y = (let a = x.greatest k t y.is_source in let b = y.greatest j s x.is_source in omega arith)

-- what a reliable cube keeps is a front
front_of : (promise : ℕ) (sent got : List Entry) → Keeps Reliable promise sent got → IsFront promise sent got
front_of promise sent got keeps i e is =
    let born = keeps.born i e is in
    let place = keeps.order i e is in
    let at : born.place ≡ i = one_place sent e born.place i born.source place.0 born.is_place place.1 in
    (born.source, subst (λ (n : ℕ). slice_get sent n ≡ Some born.source) at born.is_place.is_source.stands, sym born.is_place.is_source.same, born.bytes, born.in_time)

pub messages_are_kept : (m : ChannelsSeen) (lines : List Direction) (ps : List Process) (below : Seen) (i k : ℕ) (end partner : End) → IsStanding m lines ps below → At m.ends i end → At m.ends k partner → IsPartner partner end → IsFront (promise_of m.manage) partner.sent end.got
messages_are_kept m lines ps below i k end partner st is_end is_partner partners =
    let l = beside m.ends lines k partner st.own.lines_alike is_partner in
    let q = pair (config_of m) m.clock (LinkCloud m.config m.channels ps below) [] m.ends m.ids lines st.own k i partner end is_partner is_end partners in
    let c = ids_from q.x.side q.flow q.far partner.cube in
    let flow = (st.own.flows_are k i partner end q.x q.flow q.far l.0 is_partner is_end partners q.is_x q.stands q.known l.1).direction in
    let cube : flow.cube ≡ m.manage = one_cube m.config m.manage flow.cube c.qos flow.is_cube in
    let keeps = keeps_from (constants (config_of m) flow.cube c) l.0 (link_limits m.config m.manage st.managed c.qos flow.cube flow.is_cube) flow.backed.holds in
    let K : Cube → Type 0 = λ x. Keeps x.kind (promise_of x) l.0.sent l.0.inbox.got in
    let own : Keeps m.manage.kind (promise_of m.manage) l.0.sent l.0.inbox.got = subst K cube keeps in
    let reliable : Keeps Reliable (promise_of m.manage) l.0.sent l.0.inbox.got = subst (λ (kind : Kind). Keeps kind (promise_of m.manage) l.0.sent l.0.inbox.got) st.managed.kind own in
    front_of (promise_of m.manage) partner.sent end.got (subst (λ (xs : List Entry). Keeps Reliable (promise_of m.manage) xs end.got) flow.sent (subst (λ (xs : List Entry). Keeps Reliable (promise_of m.manage) l.0.sent xs) flow.got reliable))

-- the own name of an end is its place, and its CEP-id is 0
place_named : (m : ChannelsSeen) (lines : List Direction) (ps : List Process) (below : Seen) (i : ℕ) (ids : Ids) → IsStanding m lines ps below → slice_get m.ids i ≡ Some ids → (ids.own ≡ i) × (ids.scep ≡ 0) × (ids.qos ≡ 0)
place_named m lines ps below i ids st h =
    let x = beside m.ids m.channels i ids (st.channels.alike ∙ sym st.own.alike) h in
    let is : ids ≡ names_at i x.0.partner = ids_same (slice_get m.ids i) ids (names_at i x.0.partner) h (st.channels.names i x.0 x.1) in
    (ap (λ (z : Ids). z.own) is, ap (λ (z : Ids). z.scep) is, ap (λ (z : Ids). z.qos) is)
  where
    ids_same : (o : Option Ids) (a b : Ids) → o ≡ Some a → o ≡ Some b → a ≡ b
    ids_same o a b h g = cc

abbrev by_names : ℕ → ℕ → ℕ → ℕ → ℕ → Ids
by_names own far scep dcep qos = record { own = own; far = far; scep = scep; dcep = dcep; qos = qos }

by_places : (own far scep dcep qos i k : ℕ) → own ≡ i → far ≡ k → scep ≡ 0 → dcep ≡ 0 → qos ≡ 0 → by_names own far scep dcep qos ≡ names_at i k
by_places own far scep dcep qos i k a b c d e = ap (λ (n : ℕ). by_names n far scep dcep qos) a ∙ ap (λ (n : ℕ). by_names i n scep dcep qos) b ∙ ap (λ (n : ℕ). by_names i k n dcep qos) c ∙ ap (λ (n : ℕ). by_names i k 0 n qos) d ∙ ap (λ (n : ℕ). by_names i k 0 0 n) e

-- the ids of a direction between two places
names_from : (s : Side) (f : Flow) (far p r : Endpoint) (qos i k : ℕ) → f.far ≡ Some far → end_at s f ≡ Some p → end_at (opposite s) f ≡ Some r → p.addr ≡ i → p.cep ≡ 0 → r.addr ≡ k → r.cep ≡ 0 → qos ≡ 0 → ids_from s f far qos ≡ names_at i k
names_from Asker f far p r qos i k known x y a b c d e =
    let p_is : f.asker ≡ p = same_Some f.asker p x in
    let r_is : far ≡ r = same_Some far r (sym known ∙ y) in
    by_places f.asker.addr far.addr f.asker.cep far.cep qos i k (ap (λ (z : Endpoint). z.addr) p_is ∙ a) (ap (λ (z : Endpoint). z.addr) r_is ∙ c) (ap (λ (z : Endpoint). z.cep) p_is ∙ b) (ap (λ (z : Endpoint). z.cep) r_is ∙ d) e
names_from Far f far p r qos i k known x y a b c d e =
    let p_is : far ≡ p = same_Some far p (sym known ∙ x) in
    let r_is : f.asker ≡ r = same_Some f.asker r y in
    by_places far.addr f.asker.addr far.cep f.asker.cep qos i k (ap (λ (z : Endpoint). z.addr) p_is ∙ a) (ap (λ (z : Endpoint). z.addr) r_is ∙ c) (ap (λ (z : Endpoint). z.cep) p_is ∙ b) (ap (λ (z : Endpoint). z.cep) r_is ∙ d) e

pub messages_are_lawful : (m : ChannelsSeen) (lines : List Direction) (ps : List Process) (below : Seen) (i k : ℕ) (end partner : End) (line : Direction) → IsStanding m lines ps below → At m.ends i end → At m.ends k partner → IsPartner end partner → slice_get lines i ≡ Some line → IsLawfulFlow (config_of m) m.clock (LinkCloud m.config m.channels ps below) (Unit {0}) end partner (names_at i k) line
messages_are_lawful m lines ps below i k end partner line st is_end is_partner partners is_line =
    let g = config_of m in
    let cloud = LinkCloud m.config m.channels ps below in
    let c = beside m.ends m.ids i end st.own.alike is_end in
    let f = beside m.ends m.ids k partner st.own.alike is_partner in
    let conn : IsConn m.ends m.ids i end c.0 = record { end = is_end; ids_are = c.1 } in
    let far_conn : IsConn m.ends m.ids k partner f.0 = record { end = is_partner; ids_are = f.1 } in
    let q = pair g m.clock cloud [] m.ends m.ids lines st.own i k end partner is_end is_partner partners in
    let a = end_of_flow g m.clock cloud [] m.ends m.ids lines st.own i end c.0 q.x q.flow conn q.is_x q.stands in
    let b = far_end_of_flow g m.clock cloud [] m.ends m.ids lines st.own i k end partner f.0 q.x q.flow is_end far_conn partners q.is_x q.stands in
    let near = place_named m lines ps below i c.0 st c.1 in
    let other = place_named m lines ps below k f.0 st f.1 in
    let cube_is : end.cube ≡ 0 = sym (st.own.ids i end c.0 conn).qos ∙ near.2 in
    let is : ids_from q.x.side q.flow q.far end.cube ≡ names_at i k = names_from q.x.side q.flow q.far a.point b.point end.cube i k q.known a.is b.is (sym a.own ∙ near.0) (sym a.scep ∙ near.1) (sym b.own ∙ other.0) (sym b.scep ∙ other.1) cube_is in
    let h : IsDirection g m.clock cloud (IsInUse m.clock q.flow) end partner (names_at i k) line = subst (λ (z : Ids). IsDirection g m.clock cloud (IsInUse m.clock q.flow) end partner z line) is (st.own.flows_are i k end partner q.x q.flow q.far line is_end is_partner partners q.is_x q.stands q.known is_line).direction in
    let used : (death : ℕ) (pdu : Pdu) → cloud death pdu → m.clock ≤ death → pdu.qos ≡ 0 → ((pdu.src ≡ c.0.own) × (pdu.scep ≡ c.0.scep)) ⊎ ((pdu.dst ≡ c.0.own) × (pdu.dcep ≡ c.0.scep)) → IsInUse m.clock q.flow = λ death pdu comes alive qos names.
    named_used g m.clock cloud [] m.ends m.ids lines st.own i end c.0 conn q.x q.flow q.is_x q.stands
    (λ j e z its own scep. sym (place_named m lines ps below j z st its.ids_are).0 ∙ own ∙ near.0)
    death pdu comes alive (inr (h.cube, subst (λ (n : ℕ). cube_by n g.cubes ≡ Some h.cube) (sym qos) h.is_cube)) names in
    record {
      cube = h.cube;
      is_cube = h.is_cube;
      clock = h.backed.clock;
      sent = h.sent;
      got = h.got;
      pieces = λ death p u one alive. h.backed.pieces_in death p (used death one.pdu one.in_cloud alive one.from.qos (inl (one.from.src ∙ sym near.0, one.from.scep ∙ sym near.1)), one) alive;
      acks = λ death x u one alive. h.backed.acks_in death x (used death one.pdu one.in_cloud alive one.from.qos (inr (one.from.dst ∙ sym near.0, one.from.dcep ∙ sym near.1)), one) alive;
      lawful = lawful_from (constants g h.cube (names_at i k)) line (link_limits m.config m.manage st.managed 0 h.cube h.is_cube) h.backed.holds;
    }

-- ---- what is given up

pub forgotten_stands : (m : ChannelsSeen) (lines : List Direction) (ps ps' : List Process) (below : Seen) (k : ℕ) (offs : List Off) (lines' : List Direction) → IsStanding m lines ps below → ForgetsAt (config_of m) m.ends m.ids lines k offs lines' → LeavesLinks ps ps' → IsStanding m lines' ps' below
forgotten_stands m lines ps ps' below k offs lines' st f leaves =
    subst (λ (ls : List Direction). IsStanding m ls ps' below) (sym f.lines_are)
    (stands_with m lines _ m.clock m.ends ps ps' below below st st.clock refl leaves.live (stays m.config ps below)
    (holds_forgot (config_of m) m.clock (LinkCloud m.config m.channels ps below) (LinkCloud m.config m.channels ps' below) m.ends m.ids lines (link_limits m.config m.manage st.managed) (held m lines ps below st) k f.end f.its_ids f.cube f.place.is_conn f.allocated f.place.is_cube f.from f.line f.inbound f.gone (link_covers m.config m.channels m.clock ps ps' below below leaves (after_none m.config below))))

pub ended_stands : (m : ChannelsSeen) (lines : List Direction) (ps ps' : List Process) (below : Seen) (k : ℕ) (state : PortState) (offs : List Off) (ends' : List End) → IsStanding m lines ps below → EndsAt m.ends m.ids lines k state offs ends' → LeavesLinks ps ps' → IsStanding (record m { ends = ends' }) lines ps' below
ended_stands m lines ps ps' below k state offs ends' st e leaves =
    let end' : End = record e.end { state = state } in
    subst (λ (es : List End). IsStanding (record m { ends = es }) lines ps' below) (sym e.ends_are)
    (stands_with m lines lines m.clock (slice_set m.ends k end') ps ps' below below st st.clock (length-set m.ends k end') leaves.live (stays m.config ps below)
    (holds_ended (config_of m) m.clock (LinkCloud m.config m.channels ps below) (LinkCloud m.config m.channels ps' below) m.ends m.ids lines (link_limits m.config m.manage st.managed) (held m lines ps below st) k e.end e.its_ids state e.is_conn e.allocated e.moves e.stops (link_covers m.config m.channels m.clock ps ps' below below leaves (after_none m.config below))))
