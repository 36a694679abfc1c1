-- A PDU of a link arrives at its channel.
use Rattle.std.proofs.Common.{◌≡◌, ℕ, zero, suc, List, [], ◌∷◌, length, length-set, slice_get, slice_set, Some, Ok, Option, option_and_then, refl, sym, ◌∙◌, ap, subst, arith, inl, inr}
use Rattle.rina_account.specs.declared.ledger.Off.{Off}
use Rattle.rina_base.specs.declared.cause.Cause.{Cause}
use Rattle.rina_base.specs.declared.pdu.Pdu.{Pdu}
use Rattle.rina_base.specs.declared.pdu.PduKind.TheVariants.{Piece as APiece, Ack as AnAck}
use Rattle.rina_cube.specs.declared.Cube.{Cube}
use Rattle.rina_iface.specs.declared.ends.End.{End}
use Rattle.rina_iface.specs.Ends.{end_in}
use Rattle.rina_iface.specs.Seen.{Fac, Seen}
use Rattle.rina_law.specs.Backed.{Covers}
use Rattle.rina_law.specs.Direction.{Direction}
use Rattle.rina_queue.specs.declared.queue.Queued.{Queued}
use Rattle.rina_data.specs.Configs.{Config}
use Rattle.rina_data.specs.Process.{Process, Queue}
use Rattle.rina_dif_law.specs.Cloud.{Cloud, Everywhere, IsQueued}
use Rattle.rina_dif_law.specs.Ids.{Ids, IsFrom, flipped}
use Rattle.rina_dif_law.proofs.After.{after_none}
use Rattle.rina_dif_law.proofs.Own.{own_covered}
use Rattle.rina_flows.specs.declared.flows.Flows.{Flows}
use Rattle.rina_flows.specs.Calls.{AreTied, IsPassed as PassesOf, PassesOne}
use Rattle.rina_flows.specs.Delivering.{ArrivesIn, HasComeIn}
use Rattle.rina_flows.specs.Rows.{ArrivesAt, PassedAt, TakesAt, ToldAt}
use Rattle.rina_flows.specs.Tied.{conns_of}
use Rattle.rina_channel.specs.declared.channel.Channel.{Channel}
use Rattle.rina_channel.specs.Changes.{IsAwaited, LeavesLinks}
use Rattle.rina_channel.specs.Channels.{ChannelsSeen, seen_of}
use Rattle.rina_channel.specs.LinkCloud.{LinkCloud}
use Rattle.rina_channel.specs.Names.{link_config}
use Rattle.rina_channel.specs.Standing.{IsStanding}
use Rattle.rina_channel.proofs.Config.{link_is_config}
use Rattle.rina_channel.proofs.Below.{stays}
use Rattle.rina_channel.proofs.Frame.{held, link_limits, stands_with}
use Rattle.rina_channel.proofs.LinkClouds.{leaves_refl, link_covers}
use Rattle.rina_channel.proofs.Rows.{holds_arrived, holds_passed, holds_told}

ids_same : (o : Option Ids) (a b : Ids) → o ≡ Some a → o ≡ Some b → a ≡ b
ids_same o a b h g = cc

ends_same : (o : Option End) (a b : End) → o ≡ Some a → o ≡ Some b → a ≡ b
ends_same o a b h g = cc

set_length : (ends ends' : List End) (at : ℕ) (e : End) → ends' ≡ slice_set ends at e → length ends' ≡ length ends
set_length ends ends' at e is = ap (λ (es : List End). length es) is ∙ length-set ends at e

pub pieces_stand : (m : ChannelsSeen) (lines : List Direction) (ps ps' : List Process) (below : Seen) (at : ℕ) (end : End) (its_ids : Ids) (pdu : Pdu) (cause : Option Cause) (offs : List Off) (ends' : List End) (lines' : List Direction) → IsStanding m lines ps below → IsAwaited m ps below pdu → pdu.kind ≡ APiece → TakesAt m.ends m.ids pdu at end its_ids → ArrivesAt (link_config m.config m.manage) m.ends m.ids lines at pdu cause offs ends' lines' → LeavesLinks ps ps' → IsStanding (record m { ends = ends' }) lines' ps' below
pieces_stand m lines ps ps' below at end its_ids pdu cause offs ends' lines' st w kind takes a leaves =
    let end_is : end ≡ a.end = ends_same (slice_get m.ends at) end a.end takes.is_conn.end a.place.is_conn.end in
    let names : IsFrom (flipped a.its_ids) pdu = subst (λ (z : Ids). IsFrom (flipped z) pdu) (ids_same (slice_get m.ids at) its_ids a.its_ids takes.is_conn.ids_are a.place.is_conn.ids_are) takes.names in
    stands_with m lines lines' m.clock ends' ps ps' below below st st.clock (set_length m.ends ends' at _ a.arrived.2) leaves.live (stays m.config ps below)
    (holds_arrived (link_config m.config m.manage) m.clock (LinkCloud m.config m.channels ps below) (LinkCloud m.config m.channels ps' below) m.ends m.ids lines (link_limits m.config m.manage st.managed) (held m lines ps below st)
    w.death at pdu cause offs ends' lines' w.here w.alive kind a (ap (λ (z : End). z.state) (sym end_is) ∙ takes.allocated) names (link_covers m.config m.channels m.clock ps ps' below below leaves (after_none m.config below)))

pub acks_stand : (m : ChannelsSeen) (lines : List Direction) (ps : List Process) (below : Seen) (at : ℕ) (end : End) (its_ids : Ids) (pdu : Pdu) (lines' : List Direction) → IsStanding m lines ps below → IsAwaited m ps below pdu → pdu.kind ≡ AnAck → TakesAt m.ends m.ids pdu at end its_ids → ToldAt lines at pdu lines' → IsStanding m lines' ps below
acks_stand m lines ps below at end its_ids pdu lines' st w kind takes t =
    stands_with m lines lines' m.clock m.ends ps ps below below st st.clock refl (λ i n port l. l) (stays m.config ps below)
    (holds_told (link_config m.config m.manage) m.clock (LinkCloud m.config m.channels ps below) (LinkCloud m.config m.channels ps below) m.ends m.ids lines (link_limits m.config m.manage st.managed) (held m lines ps below st)
    w.death at pdu end its_ids lines' w.here w.alive kind takes.is_conn takes.allocated takes.names t (link_covers m.config m.channels m.clock ps ps below below (leaves_refl ps) (after_none m.config below)))

pub passes_stand : (m : ChannelsSeen) (lines : List Direction) (ps : List Process) (below : Seen) (at : ℕ) (ends' : List End) (lines' : List Direction) → IsStanding m lines ps below → PassedAt (link_config m.config m.manage) m.ends m.ids lines at ends' lines' → IsStanding (record m { ends = ends' }) lines' ps below
passes_stand m lines ps below at ends' lines' st p =
    stands_with m lines lines' m.clock ends' ps ps below below st st.clock (set_length m.ends ends' at _ p.ends_are) (λ i n port l. l) (stays m.config ps below)
    (holds_passed (link_config m.config m.manage) m.clock (LinkCloud m.config m.channels ps below) (LinkCloud m.config m.channels ps below) m.ends m.ids lines (link_limits m.config m.manage st.managed) (held m lines ps below st)
    at ends' lines' p (link_covers m.config m.channels m.clock ps ps below below (leaves_refl ps) (after_none m.config below)))

-- ---- a cloud of one PDU

-- a rank without facilities
nothing_below : Seen
nothing_below = record { now = 0; facs = [] }

only : ℕ → Pdu → List Process
only death pdu = record { links = []; routes = []; queues = record { link = 0; qos = 0; items = record { pdu = pdu; left = death; since = 0 } ∷ [] } ∷ []; ledger = [] } ∷ []

single : {X : Type 0} (a b : X) (i : ℕ) → slice_get (a ∷ []) i ≡ Some b → b ≡ a
single a b zero h = cc
single a b (suc i) h = cc

none_at : {X : Type 0} (i : ℕ) (x : X) → slice_get [] i ≡ Some x → ⊥
none_at i x h = cc

no_fac : {X : Type 0} (f : Fac → Option X) (i : ℕ) (x : X) → option_and_then f (slice_get [] i) ≡ Some x → ⊥
no_fac f i x h = cc

is_queued : (death : ℕ) (pdu : Pdu) → IsQueued Everywhere (only death pdu) death pdu
unfolding only
is_queued death pdu = record {
  process = 0;
  link = 0;
  within = tt;
  item = record { pdu = pdu; left = death; since = 0 };
  waits = record { process = record { links = []; routes = []; queues = record { link = 0; qos = 0; items = record { pdu = pdu; left = death; since = 0 } ∷ [] } ∷ []; ledger = [] }; is_process = refl; place = 0; queue = record { link = 0; qos = 0; items = record { pdu = pdu; left = death; since = 0 } ∷ [] }; is_queue = refl; link = refl; at = 0; is_item = refl };
  dies = omega arith;
  is = refl;
}

only_that : (g : Config) (death : ℕ) (pdu : Pdu) (when : ℕ) (x : Pdu) → Cloud Everywhere g (only death pdu) nothing_below when x → (when ≡ death) × (x ≡ pdu)
unfolding only nothing_below
only_that g death pdu when x (inl q) =
    let process = single _ q.waits.process q.process q.waits.is_process in
    let queue = single _ q.waits.queue q.waits.place (subst (λ (p : Process). slice_get p.queues q.waits.place ≡ Some q.waits.queue) process q.waits.is_queue) in
    let item = single _ q.item q.waits.at (subst (λ (z : Queue). slice_get z.items q.waits.at ≡ Some q.item) queue q.waits.is_item) in
    let left : q.item.left ≡ death = ap (λ (z : Queued). z.left) item in
    let since : q.item.since ≡ 0 = ap (λ (z : Queued). z.since) item in
    let dies = q.dies in
    (omega arith, sym q.is ∙ ap (λ (z : Queued). z.pdu) item)
only_that g death pdu when x (inr w) = absurd (no_fac (λ (f : Fac). end_in w.port f.ends) w.port.fac w.end w.here)

-- it is covered by each cloud with that PDU
only_covered : (g : Config) (now : ℕ) (cloud : ℕ → Pdu → Type 0) (death : ℕ) (pdu : Pdu) → cloud death pdu → Covers now cloud (Cloud Everywhere g (only death pdu) nothing_below)
only_covered g now cloud death pdu here when x there alive =
    let o = only_that g death pdu when x there in
    let at = o.0 in
    (death, omega arith, subst (cloud death) (sym o.1) here)

pub calls_for_pieces_arrive : (g : Config) (manage : Cube) (now : ℕ) (channels : List Channel) (lines : List Direction) (ps : List Process) (below : Seen) (old new : Flows) (at : ℕ) (end : End) (its_ids : Ids) (pdu : Pdu) (ledger ledger' : List Off) (cause : Option Cause) → IsStanding (seen_of g manage now channels old) lines ps below → AreTied (link_config g manage) now old lines → IsAwaited (seen_of g manage now channels old) ps below pdu → pdu.kind ≡ APiece → TakesAt old.journal.ends (conns_of old.conns) pdu at end its_ids → ArrivesIn now at pdu old ledger (Ok cause) new ledger' → HasComeIn (link_config g manage) now at pdu old ledger lines cause new ledger'
calls_for_pieces_arrive g manage now channels lines ps below old new at end its_ids pdu ledger ledger' cause st tied w kind takes call =
    let link : Config = link_config g manage in
    let covers = only_covered link now (LinkCloud g channels ps below) w.death pdu w.here in
    call link lines (only w.death pdu) nothing_below
    (record { config = link_is_config g manage st.managed; journal = st.journal; held = []; own = own_covered link now (LinkCloud g channels ps below) (Cloud Everywhere link (only w.death pdu) nothing_below) [] old.journal.ends (conns_of old.conns) lines st.own covers; tied = tied })
    (record { end = end; its_ids = its_ids; taker = takes; piece = kind; death = w.death; here = inl (is_queued w.death pdu); alive = w.alive })

-- a cloud without PDUs is covered by each
none_covered : (g : Config) (now : ℕ) (cloud : ℕ → Pdu → Type 0) → Covers now cloud (Cloud Everywhere g [] nothing_below)
unfolding nothing_below
none_covered g now cloud when x (inl q) alive = absurd (none_at q.process q.waits.process q.waits.is_process)
none_covered g now cloud when x (inr w) alive = absurd (no_fac (λ (f : Fac). end_in w.port f.ends) w.port.fac w.end w.here)

pub calls_that_pass_do : (g : Config) (manage : Cube) (now : ℕ) (channels : List Channel) (lines : List Direction) (ps : List Process) (below : Seen) (old new : Flows) (at : ℕ) → IsStanding (seen_of g manage now channels old) lines ps below → AreTied (link_config g manage) now old lines → PassesOne now at old new → PassesOf (link_config g manage) now at old lines new
calls_that_pass_do g manage now channels lines ps below old new at st tied call =
    let link : Config = link_config g manage in
    call link lines [] nothing_below [] st.journal (own_covered link now (LinkCloud g channels ps below) (Cloud Everywhere link [] nothing_below) [] old.journal.ends (conns_of old.conns) lines st.own (none_covered link now (LinkCloud g channels ps below))) tied
