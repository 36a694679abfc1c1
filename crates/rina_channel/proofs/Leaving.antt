-- The calls that serve the flows of a DIF leave its links alone.
use Rattle.std.proofs.Common.{◌≡◌, ℕ, zero, suc, Bool, true, false, cond, eqb, List, [], ◌∷◌, length, slice_get, slice_set, Some, None, Ok, Err, Option, Result, refl, sym, ◌∙◌, ap, subst, inl, inr}
use Rattle.rina_account.specs.declared.ledger.Off.{Off}
use Rattle.rina_base.specs.declared.cause.Cause.{Cause}
use Rattle.rina_base.specs.declared.cause.Cause.TheVariants as causes
use Rattle.rina_base.specs.declared.number.Num.{Num}
use Rattle.rina_base.specs.declared.number.Port.{Port}
use Rattle.rina_base.specs.declared.pdu.Pdu.{Pdu}
use Rattle.rina_cube.specs.declared.Cube.{Cube}
use Rattle.rina_iface.specs.declared.error.SendError.{SendError}
use Rattle.rina_iface.specs.declared.error.SendError.TheVariants as errors
use Rattle.rina_iface.specs.declared.state.Fail.{Fail}
use Rattle.rina_iface.specs.declared.state.Fail.TheVariants.{Below}
use Rattle.rina_iface.specs.declared.state.PortState.{PortState}
use Rattle.rina_iface.specs.declared.state.PortState.TheVariants.{Failed}
use Rattle.rina_iface.specs.Seen.{Seen}
use Rattle.rina_iface.proofs.Changed.{set_at}
use Rattle.rina_law.specs.Direction.{Direction}
use Rattle.rina_law.specs.Lists.{In}
use Rattle.rina_law.specs.Pieces.{Part}
use Rattle.rina_law.specs.Receiver.{Piece}
use Rattle.rina_queue.specs.declared.queue.Queued.{Queued}
use Rattle.rina_data.specs.declared.link.Link.{Link}
use Rattle.rina_data.specs.declared.link.Route.{Route}
use Rattle.rina_data.specs.declared.step.Took.{Took}
use Rattle.rina_data.specs.declared.step.Took.TheVariants as took
use Rattle.rina_data.specs.Configs.{Config, Member, cube_by}
use Rattle.rina_data.specs.Hops.{Hop}
use Rattle.rina_data.specs.Losing.{without_items, without_link}
use Rattle.rina_data.specs.Process.{Process, Queue, with_offs, with_put}
use Rattle.rina_data.specs.Queueing.{IsPassedOn, line_for}
use Rattle.rina_dif_law.specs.Cloud.{Waits}
use Rattle.rina_dif_law.specs.Dif.{DifSeen, constants}
use Rattle.rina_dif_law.specs.Ending.{IsEnded}
use Rattle.rina_dif_law.specs.Ids.{IsOfLink}
use Rattle.rina_dif_law.specs.Incoming.{IsArrived, IsInTime, Settles, SettlesFlow, SettlesOff, written_off}
use Rattle.rina_dif_law.specs.Losing.{FailAll, FailFirst, Loses}
use Rattle.rina_dif_law.specs.Passing.{IsPassed}
use Rattle.rina_dif_law.specs.Sending.{IsOffered, Offers, made_items, offered_pieces}
use Rattle.rina_dif_law.specs.Timely.{IsAcknowledged, IsForgotten, IsResent, Posts}
use Rattle.rina_dif_law.proofs.Own.{map_at}
use Rattle.rina_dif_law.proofs.Queues.{made_item, requeued_put}
use Rattle.rina_channel.specs.Changes.{LeavesLinks}
use Rattle.rina_channel.specs.Channels.{HasLive}
use Rattle.rina_channel.specs.OwnLaws.{HasNoManagement}
use Rattle.rina_channel.proofs.LinkClouds.{leaves_refl}
use Rattle.rina_channel.proofs.Putting.{leaves_same, live_same}

-- ---- changes one after the other

pub leaves_then : (a b c : List Process) → LeavesLinks a b → LeavesLinks b c → LeavesLinks a c
leaves_then a b c x y = record {
  waits = λ i n item w. elim (y.waits i n item w) [ inl o ↦ x.waits i n item o | inr other ↦ inr other ];
  live = λ i n port l. x.live i n port (y.live i n port l);
}

leaves_is : (ps ps' : List Process) → ps' ≡ ps → LeavesLinks ps ps'
leaves_is ps ps' is = subst (LeavesLinks ps) (sym is) (leaves_refl ps)

-- ---- PDUs of no link are put

leaves_put : (ps : List Process) (i place : ℕ) (p : Process) (q : Queue) (items : List Queued) → slice_get ps i ≡ Some p → slice_get p.queues place ≡ Some q → ((item : Queued) → In item items → IsOfLink item.pdu → ⊥) → LeavesLinks ps (slice_set ps i (with_put p place q items))
leaves_put ps i place p q items is is_queue none = record {
  waits = λ j n item w. elim (requeued_put ps i place p q items is is_queue j n item w) [ inl o ↦ inl o | inr new ↦ inr (none item new.2) ];
  live = live_same ps i p (with_put p place q items) is refl;
}

none_some : (o : Option Cube) (cube : Cube) → o ≡ None → o ≡ Some cube → ⊥
none_some o cube n s = cc

-- a PDU of a cube is of no link
of_cube : (g : Config) (cube : Cube) (pdu : Pdu) (qos : ℕ) → HasNoManagement g → pdu.qos ≡ qos → cube_by qos g.cubes ≡ Some cube → IsOfLink pdu → ⊥
of_cube g cube pdu qos none is is_cube of = none_some (cube_by 0 g.cubes) cube none (subst (λ (q : ℕ). cube_by q g.cubes ≡ Some cube) (sym is ∙ of.qos) is_cube)

pub sends_leave : (d : DifSeen) (lines : List Direction) (at : ℕ) (parts : List Part) (r : Result Num SendError) (d' : DifSeen) (lines' : List Direction) → HasNoManagement d.config → Offers d lines at parts r d' lines' → LeavesLinks d.processes d'.processes
sends_leave d lines at parts (Ok num) d' lines' none t =
    let s : IsOffered d lines at parts num d' lines' = t.2 in
    let pieces : List Piece = offered_pieces (constants d.config s.cube s.ids) parts s.line in
    subst (λ (z : DifSeen). LeavesLinks d.processes z.processes) (sym s.new_is)
    (leaves_put d.processes s.i s.place s.process s.queue (made_items s.ids s.cube.mpl d.clock pieces) s.is_process s.is_queue.is_queue
    (λ item one. (let m = made_item s.ids s.cube.mpl d.clock pieces item one in of_cube d.config s.cube item.pdu s.ids.qos none (ap (λ (z : Queued). z.pdu.qos) m.is) s.is_cube)))
sends_leave d lines at parts (Err errors.Memory) d' lines' none s = leaves_is d.processes d'.processes (ap (λ (z : DifSeen). z.processes) s.0)
sends_leave d lines at parts (Err why) d' lines' none s = leaves_is d.processes d'.processes (ap (λ (z : DifSeen). z.processes) s.1)

pub passes_leave : (d : DifSeen) (lines : List Direction) (at : ℕ) (d' : DifSeen) (lines' : List Direction) → IsPassed d lines at d' lines' → LeavesLinks d.processes d'.processes
passes_leave d lines at d' lines' s = leaves_is d.processes d'.processes (ap (λ (z : DifSeen). z.processes) s.new_is)

-- ---- a PDU is posted

noted : (ps : List Process) (i : ℕ) (p p' : Process) (offs : List Off) → slice_get ps i ≡ Some p → p' ≡ with_offs p offs → LeavesLinks ps (slice_set ps i p')
noted ps i p p' offs is same = subst (λ (z : Process). LeavesLinks ps (slice_set ps i z)) (sym same) (leaves_same ps i p (with_offs p offs) is refl refl)

passed_on : (cap : ℕ) (ps : List Process) (i : ℕ) (p : Process) (at : ℕ) (hop : Hop) (p' : Process) → slice_get ps i ≡ Some p → (IsOfLink hop.pdu → ⊥) → IsPassedOn cap p at hop p' → LeavesLinks ps (slice_set ps i p')
passed_on cap ps i p at hop p' is other s =
    let item : Queued = record { pdu = hop.pdu; left = hop.left; since = at } in
    subst (λ (z : Process). LeavesLinks ps (slice_set ps i z)) (sym s.new_is)
    (leaves_put ps i s.place p s.queue (item ∷ []) is s.is_queue.is_queue (λ x one. elim one [ inl same ↦ subst (λ (z : Queued). IsOfLink z.pdu → ⊥) (sym same) other | inr none ↦ absurd none ]))

posts_leave : (g : Config) (now mpl : ℕ) (ps : List Process) (i : ℕ) (p : Process) (pdu : Pdu) (cause : Option Cause) (p' : Process) → slice_get ps i ≡ Some p → (IsOfLink pdu → ⊥) → Posts g now mpl p pdu cause p' → LeavesLinks ps (slice_set ps i p')
posts_leave g now mpl ps i p pdu None p' is other s = passed_on g.cap ps i p now (record { left = mpl; pdu = pdu }) p' is other s
posts_leave g now mpl ps i p pdu (Some (causes.NoRoute dst)) p' is other s = noted ps i p p' (line_for pdu (causes.NoRoute dst) ∷ []) is s.2
posts_leave g now mpl ps i p pdu (Some (causes.QueueFull full)) p' is other s = noted ps i p p' (line_for pdu (causes.QueueFull full) ∷ []) is s.2
posts_leave g now mpl ps i p pdu (Some (causes.Expired left charge)) p' is other s = absurd s
posts_leave g now mpl ps i p pdu (Some (causes.NoConnection cep)) p' is other s = absurd s
posts_leave g now mpl ps i p pdu (Some (causes.Duplicate num)) p' is other s = absurd s
posts_leave g now mpl ps i p pdu (Some (causes.Behind highest)) p' is other s = absurd s
posts_leave g now mpl ps i p pdu (Some (causes.NoState drf)) p' is other s = absurd s
posts_leave g now mpl ps i p pdu (Some (causes.NoRoom room)) p' is other s = absurd s
posts_leave g now mpl ps i p pdu (Some (causes.StateGone last_in)) p' is other s = absurd s
posts_leave g now mpl ps i p pdu (Some (causes.Broken missing)) p' is other s = absurd s
posts_leave g now mpl ps i p pdu (Some (causes.LinkDown port)) p' is other s = absurd s

pub acknowledging_leaves : (d : DifSeen) (lines : List Direction) (at : ℕ) (cause : Option Cause) (d' : DifSeen) (lines' : List Direction) → HasNoManagement d.config → IsAcknowledged d lines at cause d' lines' → LeavesLinks d.processes d'.processes
acknowledging_leaves d lines at cause d' lines' none s = subst (λ (z : DifSeen). LeavesLinks d.processes z.processes) (sym s.new_is)
    (posts_leave d.config d.clock s.cube.mpl d.processes s.i s.process _ cause s.process' s.is_home.is_process (of_cube d.config s.cube _ s.ids.qos none refl s.is_home.is_cube) s.posted)

pub resending_leaves : (d : DifSeen) (lines : List Direction) (at : ℕ) (cause : Option Cause) (d' : DifSeen) (lines' : List Direction) → HasNoManagement d.config → IsResent d lines at cause d' lines' → LeavesLinks d.processes d'.processes
resending_leaves d lines at cause d' lines' none s = subst (λ (z : DifSeen). LeavesLinks d.processes z.processes) (sym s.new_is)
    (posts_leave d.config d.clock s.cube.mpl d.processes s.i s.process _ cause s.process' s.is_home.is_process (of_cube d.config s.cube _ s.ids.qos none refl s.is_home.is_cube) s.posted)

pub forgetting_leaves : (d : DifSeen) (lines : List Direction) (at : ℕ) (d' : DifSeen) (lines' : List Direction) → IsForgotten d lines at d' lines' → LeavesLinks d.processes d'.processes
forgetting_leaves d lines at d' lines' s = subst (λ (z : DifSeen). LeavesLinks d.processes z.processes) (sym s.new_is) (noted d.processes s.i s.process (with_offs s.process s.dropped) s.dropped s.is_home.is_process refl)

pub ending_leaves : (d : DifSeen) (lines : List Direction) (at : ℕ) (state : PortState) (d' : DifSeen) → IsEnded d lines at state d' → LeavesLinks d.processes d'.processes
ending_leaves d lines at state d' s = subst (λ (z : DifSeen). LeavesLinks d.processes z.processes) (sym s.new_is) (noted d.processes s.i s.process (with_offs s.process s.dropped) s.dropped s.is_process refl)

failing_first : (lines : List Direction) (node : ℕ) (fail : Fail) (n : ℕ) (d d' : DifSeen) → FailFirst lines node fail n d d' → LeavesLinks d.processes d'.processes
failing_first lines node fail zero d d' s = leaves_is d.processes d'.processes (ap (λ (z : DifSeen). z.processes) s)
failing_first lines node fail (suc n) d d' s = leaves_then d.processes s.0.processes d'.processes (failing_first lines node fail n d s.0 s.1) (elim (s.2) [
  | inl ended ↦ ending_leaves s.0 lines n (Failed fail) d' ended.1
  | inr same ↦ leaves_is s.0.processes d'.processes (ap (λ (z : DifSeen). z.processes) same.1)
])

pub failing_leaves : (d : DifSeen) (lines : List Direction) (node : ℕ) (port : Port) (d' : DifSeen) → FailAll lines node port d d' → LeavesLinks d.processes d'.processes
failing_leaves d lines node port d' s = failing_first lines node (Below port) (length d.ends) d d' s

-- ---- a PDU came

module _ (d : DifSeen) (lines : List Direction) (i : ℕ) (member : Member) (process : Process) (at : ℕ) (hop : Hop) (d' : DifSeen) (lines' : List Direction) (is_process : slice_get d.processes i ≡ Some process) where
  arrived : (cause : Option Cause) → IsArrived d lines i process hop.pdu cause d' lines' → LeavesLinks d.processes d'.processes
  arrived cause s = subst (λ (z : DifSeen). LeavesLinks d.processes z.processes) (sym s.new_is) (noted d.processes i process _ _ is_process refl)

  off : (cause : Cause) → d' ≡ written_off d i process hop.pdu cause → LeavesLinks d.processes d'.processes
  off cause is = subst (λ (z : DifSeen). LeavesLinks d.processes z.processes) (sym is) (noted d.processes i process _ _ is_process refl)

  settled_off : (cause : Cause) → SettlesOff d lines i member process at hop cause d' lines' → LeavesLinks d.processes d'.processes
  settled_off (causes.Expired left charge) s = off (causes.Expired left charge) s.3
  settled_off (causes.NoRoute dst) s = off (causes.NoRoute dst) s.4
  settled_off (causes.QueueFull full) s = off (causes.QueueFull full) s.4
  settled_off (causes.NoConnection cep) s = off (causes.NoConnection cep) s.4
  settled_off (causes.Duplicate num) s = arrived (Some (causes.Duplicate num)) s.2
  settled_off (causes.Behind highest) s = arrived (Some (causes.Behind highest)) s.2
  settled_off (causes.NoState drf) s = arrived (Some (causes.NoState drf)) s.2
  settled_off (causes.NoRoom room) s = arrived (Some (causes.NoRoom room)) s.2
  settled_off (causes.StateGone last_in) s = arrived (Some (causes.StateGone last_in)) s.2
  settled_off (causes.Broken missing) s = arrived (Some (causes.Broken missing)) s.2
  settled_off (causes.LinkDown down) s = absurd s

  flow_leaves : (end : Took) → (IsInTime d at hop → IsOfLink hop.pdu → ⊥) → SettlesFlow d lines i member process at hop end d' lines' → LeavesLinks d.processes d'.processes
  flow_leaves took.Accepted other s = elim (s.2) [
    | inl x ↦ arrived None x
    | inr x ↦ leaves_is d.processes d'.processes (ap (λ (z : DifSeen). z.processes) x.new_is)
  ]
  flow_leaves took.Relayed other s = subst (λ (z : DifSeen). LeavesLinks d.processes z.processes) (sym s.2.new_is) (passed_on d.config.cap d.processes i process at hop s.2.process' is_process (other s.0) s.2.passed)
  flow_leaves (took.Off cause) other s = settled_off cause s

  pub settling_leaves : (end : Took) → Settles d lines i member process at hop end d' lines' → LeavesLinks d.processes d'.processes
  settling_leaves end s = elim s [
    | inl flow ↦ flow_leaves end flow.0 flow.1
    | inr link ↦ subst (λ (z : DifSeen). LeavesLinks d.processes z.processes) (sym link.new_is) (noted d.processes i process _ _ is_process refl)
  ]

-- ---- a link is lost

none_in : {X : Type 0} (i : ℕ) (x : X) → slice_get [] i ≡ Some x → ⊥
none_in i x h = cc

was_if : (b : Bool) (q : Queue) (at : ℕ) (item : Queued) → slice_get (cond b (record q { items = [] }) q).items at ≡ Some item → slice_get q.items at ≡ Some item
was_if true q at item h = absurd (none_in at item h)
was_if false q at item h = h

link_if : (b : Bool) (q : Queue) → (cond b (record q { items = [] }) q).link ≡ q.link
link_if true q = refl
link_if false q = refl

waits_lost : (ps : List Process) (i place : ℕ) (p : Process) (link : Link) (routes : List Route) → slice_get ps i ≡ Some p → (j n : ℕ) (item : Queued) → Waits (slice_set ps i (without_link place link routes p)) j n item → Waits ps j n item
waits_lost ps i place p link routes is j n item w = elim (set_at ps i j p (without_link place link routes p) w.process is w.is_process) [
  | inl t ↦
      let there = subst (λ (z : Process). slice_get z.queues w.place ≡ Some w.queue) t.1 w.is_queue in
      let q = map_at (without_items link) p.queues w.place w.queue there in
      let b : Bool = eqb q.0.link link.number in
      record {
        process = p;
        is_process = ap (slice_get ps) t.0 ∙ is;
        place = w.place;
        queue = q.0;
        is_queue = q.1;
        link = sym (link_if b q.0) ∙ ap (λ (z : Queue). z.link) (sym q.2) ∙ w.link;
        at = w.at;
        is_item = was_if b q.0 w.at item (subst (λ (z : Queue). slice_get z.items w.at ≡ Some item) q.2 w.is_item);
      }
  | inr f ↦ record { process = w.process; is_process = f.1; place = w.place; queue = w.queue; is_queue = w.is_queue; link = w.link; at = w.at; is_item = w.is_item }
]

dead_live : (l : Link) (dead : Link) → l ≡ dead → dead.live ≡ false → l.live ≡ true → ⊥
dead_live l dead is gone living = cc

live_lost : (ps : List Process) (i place : ℕ) (p : Process) (link : Link) (routes : List Route) → slice_get ps i ≡ Some p → slice_get p.links place ≡ Some link → (j n : ℕ) (port : Port) → HasLive (slice_set ps i (without_link place link routes p)) j n port → HasLive ps j n port
live_lost ps i place p link routes is stands j n port l = elim (set_at ps i j p (without_link place link routes p) l.process is l.is_process) [
  | inl t ↦
      let dead : Link = record link { live = false } in
      elim (set_at p.links place l.place link dead l.link stands (subst (λ (z : Process). slice_get z.links l.place ≡ Some l.link) t.1 l.stands)) [
        | inl u ↦ absurd (dead_live l.link dead u.1 refl l.live)
        | inr u ↦ record { process = p; is_process = ap (slice_get ps) t.0 ∙ is; place = l.place; link = l.link; stands = u.1; live = l.live; number_is = l.number_is; port_is = l.port_is }
      ]
  | inr f ↦ record { process = l.process; is_process = f.1; place = l.place; link = l.link; stands = l.stands; live = l.live; number_is = l.number_is; port_is = l.port_is }
]

pub losing_leaves : (d : DifSeen) (below : Seen) (i number : ℕ) (routes : List Route) (d' : DifSeen) → Loses d below i number routes d' → LeavesLinks d.processes d'.processes
losing_leaves d below i number routes d' s = subst (λ (z : DifSeen). LeavesLinks d.processes z.processes) (sym s.new_is) (record {
  waits = λ j n item w. inl (waits_lost d.processes i s.place s.process s.link routes s.is_process j n item w);
  live = live_lost d.processes i s.place s.process s.link routes s.is_process s.first.lost.stands;
})
