-- What holds of a DIF stays as it takes a step.
use Rattle.std.proofs.Common.{◌≡◌, ◌∙◌, ℕ, ◌+◌, ◌==◌, ◌&&◌, not, Bool, cond, zero, suc, List, [], ◌∷◌, ◌++◌, drop, map, slice_get, slice_set, Option, Some, option_map, refl, sym, ap, subst, arith}
use Rattle.std.specs.Prelude.{Contains, IsSome, position}
use Rattle.std.specs.List.{position_or_len}
use Rattle.std.proofs.lemmas.List.{length-map, map-set}
use Rattle.std.proofs.lemmas.Option.{slice_get-map, slice_get_within}
use Rattle.rina_iface.proofs.Changed.{slice_set-same}
use Rattle.rina_iface.specs.Seen.{Seen}
use Rattle.rina_law.specs.Direction.{Direction}
use Rattle.rina_queue.specs.declared.queue.Queued.{Queued}
use Rattle.rina_data.specs.declared.link.Link.{Link}
use Rattle.rina_data.specs.declared.process.IpcProcess.{IpcProcess}
use Rattle.rina_data.specs.declared.settings.Member.{Member as Kept}
use Rattle.rina_data.specs.Configs.{Config, config_of, member_of}
use Rattle.rina_data.specs.Deciding.{process_of, queue_settings, QueueSettings}
use Rattle.rina_data.specs.Process.{IsQueue, Process, Queue, next_hop, queue_place, with_put, with_taken}
use Rattle.rina_data.proofs.Finding.{there}
use Rattle.rina_member.specs.Knowing.{HasLiveLink}
use Rattle.rina_member.proofs.Knowing.{knows_live}
use Rattle.rina_dif_law.specs.Sending.{home}
use Rattle.rina_dif.specs.declared.dif.Dif.{Dif}
use Rattle.rina_dif.specs.Holding.{AreHoused, AreWhole, HasQueues, HaveQueues, Holds, IsHoused}
use Rattle.rina_dif.specs.Managing.{AreManagedBy}
use Rattle.rina_dif.proofs.LinkEnds.{StayLive, set_stays}
use Rattle.rina_dif.proofs.Managed.{its_agent, managed_set}
use Rattle.rina_dif.proofs.WaitsOnLive.{BeginsOnWays, IsWay, begins_none, begins_put, begins_taken, way_on_live}

place_map : {X Y : Type 0} → (h : X → Y) (p : Y → Bool) (xs : List X) → position_or_len p (map h xs) ≡ position_or_len (λ x. p (h x)) xs
place_map h p [] = refl
place_map h p (x ∷ xs) = ap (λ (n : ℕ). cond (not (p (h x))) (1 + n) 0) (place_map h p xs)

-- where a test of what stands behind elements holds first
pub position_map : {X Y : Type 0} → (h : X → Y) (p : Y → Bool) (xs : List X) → position p (map h xs) ≡ position (λ x. p (h x)) xs
position_map h p xs = rw (place_map h p xs, length-map xs h) refl

-- the member at a node
pub home_is : (node : ℕ) (members : List Kept) → position (λ (m : Kept). m.node == node) members ≡ home node (map member_of members)
home_is node members = sym (position_map member_of _ members)

-- Queues that keep their places

-- what a queue is for
pub record For : Type 0 where
  link : ℕ
  qos : ℕ

abbrev for_of : Queue → For
for_of q = record { link = q.link; qos = q.qos }

-- links, next hops and queues are those that were there, and what begins to wait does so for a next hop or a live link
pub record IsSameHouse (p p' : Process) : Type 0 where
  pub links : p'.links ≡ p.links
  pub routes : p'.routes ≡ p.routes
  pub places : (qos link : ℕ) → queue_place qos link p'.queues ≡ queue_place qos link p.queues
  pub begins : BeginsOnWays p p'

for_place : (qos link : ℕ) (qs : List Queue) → queue_place qos link qs ≡ position (λ (z : For). (z.link == link) && (z.qos == qos)) (map for_of qs)
for_place qos link qs = sym (position_map for_of _ qs)

-- a queue with other PDUs stands in the place of one
pub same_places : (qos link : ℕ) (qs : List Queue) (k : ℕ) (q : Queue) (items : List Queued) → slice_get qs k ≡ Some q → queue_place qos link (slice_set qs k (record q { items = items })) ≡ queue_place qos link qs
same_places qos link qs k q items at =
    let new : Queue = record q { items = items } in
    let there : slice_get (map for_of qs) k ≡ Some (for_of q) = slice_get-map for_of qs k ∙ ap (option_map for_of) at in
    let same : map for_of (slice_set qs k new) ≡ map for_of qs = map-set for_of qs k new ∙ slice_set-same (map for_of qs) k (for_of q) there in
    for_place qos link (slice_set qs k new) ∙ ap (position (λ (z : For). (z.link == link) && (z.qos == qos))) same ∙ sym (for_place qos link qs)

-- its queues stay
pub kept_house : (p p' : Process) → p'.links ≡ p.links → p'.routes ≡ p.routes → p'.queues ≡ p.queues → IsSameHouse p p'
kept_house p p' links routes same = record { links = links; routes = routes; places = λ qos link. ap (queue_place qos link) same; begins = begins_none p p' same }

pub same_house : (p : Process) → IsSameHouse p p
same_house p = kept_house p p refl refl refl

-- the first PDU of a queue is taken
pub taken_house : (p p' : Process) (place : ℕ) (q : Queue) → slice_get p.queues place ≡ Some q → p'.links ≡ p.links → p'.routes ≡ p.routes → p'.queues ≡ (with_taken p place q).queues → IsSameHouse p p'
taken_house p p' place q is links routes same = record {
  links = links;
  routes = routes;
  places = λ qos link. ap (queue_place qos link) same ∙ same_places qos link p.queues place q (drop 1 q.items) is;
  begins = begins_taken p p' place q is same;
}

-- PDUs are put into the queue of a next hop, or of a live link
pub put_house : (p : Process) (qos n place : ℕ) (q : Queue) (items : List Queued) → IsQueue p qos n place q → IsWay p n → IsSameHouse p (with_put p place q items)
put_house p qos n place q items is way = record {
  links = refl;
  routes = refl;
  places = λ id link. same_places id link p.queues place q (q.items ++ items) is.is_queue;
  begins = begins_put p qos n place q items is way;
}

pub house_is : (p p' q : Process) → q ≡ p' → IsSameHouse p p' → IsSameHouse p q
house_is p p' q is same = subst (λ (z : Process). IsSameHouse p z) (sym is) same

pub has_queues : (g : Config) (p p' : Process) → IsSameHouse p p' → HasQueues g p → HasQueues g p'
has_queues g p p' same has dst link qos hop known =
    let before : next_hop dst p.routes ≡ Some link = ap (next_hop dst) (sym same.routes) ∙ hop in
    subst (λ (o : Option ℕ). IsSome o) (sym (same.places qos link)) (has dst link qos before known)

pub have_queues : (g : Config) (p p' : Process) → IsSameHouse p p' → HaveQueues g p → HaveQueues g p'
have_queues g p p' same have place qos link is live known =
    let was : slice_get p.links place ≡ Some link = ap (λ (ls : List Link). slice_get ls place) (sym same.links) ∙ is in
    subst (λ (o : Option ℕ). IsSome o) (sym (same.places qos link.number)) (have place qos link was live known)

pub are_whole : (g : Config) (p p' : Process) → IsSameHouse p p' → AreWhole g p.queues → AreWhole g p'.queues
are_whole g p p' same whole number a b some known =
    let before : IsSome (queue_place a number p.queues) = subst (λ (o : Option ℕ). IsSome o) (same.places a number) some in
    subst (λ (o : Option ℕ). IsSome o) (sym (same.places b number)) (whole number a b before known)

pub set_cases : {X : Type 0} (P : X → Type 0) (xs : List X) (k : ℕ) (y : X) → P y → ((i : ℕ) (x : X) → slice_get xs i ≡ Some x → P x) → (i : ℕ) (x : X) → slice_get (slice_set xs k y) i ≡ Some x → P x
set_cases P [] k y new all i x at = all i x at
set_cases P (z ∷ xs) zero y new all zero x at = (let same : y ≡ x = cc in subst P same new)
set_cases P (z ∷ xs) zero y new all (suc i) x at = all (suc i) x at
set_cases P (z ∷ xs) (suc k) y new all zero x at = all zero x at
set_cases P (z ∷ xs) (suc k) y new all (suc i) x at = set_cases P xs k y new (λ j w h. all (suc j) w h) i x at

-- one IPC process changes, and its queues keep their places and their room
pub housed_set : (g : Config) (ps : List IpcProcess) (at : ℕ) (p p' : IpcProcess) → AreHoused g ps → slice_get ps at ≡ Some p → queue_settings p' ≡ queue_settings p → IsSameHouse (process_of p) (process_of p') → ((dst n : ℕ) → next_hop dst p.routes ≡ Some n → HasLiveLink p.links n) → AreHoused g (slice_set ps at p')
housed_set g ps at p p' housed is room same hops =
    let old = housed at p is in
    set_cases (IsHoused g) ps at p' (record {
      cap = ap (λ (s : QueueSettings). s.cap) room ∙ old.cap;
      links = have_queues g (process_of p) (process_of p') same old.links;
      queues = has_queues g (process_of p) (process_of p') same old.queues;
      cubes = λ qos known. subst (λ (ids : List ℕ). Contains ids qos) (sym (ap (λ (s : QueueSettings). s.cubes) room)) (old.cubes qos known);
      whole = are_whole g (process_of p) (process_of p') same old.whole;
      waits = way_on_live (process_of p) (process_of p') same.links hops same.begins old.waits;
    }) housed

-- what holds of the IPC processes of a DIF: they are housed, and are managed, and the live links are those that they were
pub record AreHome (d : Dif) (ps : List IpcProcess) : Type 0 where
  pub housed : AreHoused (config_of d.settings) ps
  pub managed : AreManagedBy d.laid.is_static d.settings.members d.laid.links d.clock ps d.managements
  pub live : StayLive d.processes ps

-- each next hop is a live link
pub hop_lives : (d : Dif) (lines : List Direction) (below : Seen) (at : ℕ) (p : IpcProcess) (dst n : ℕ) → Holds d lines below → slice_get d.processes at ≡ Some p → next_hop dst p.routes ≡ Some n → HasLiveLink p.links n
hop_lives d lines below at p dst n h is hop =
    let alike = h.standing.aligned in
    let ps = length-map d.processes process_of in
    let ms = length-map d.settings.members member_of in
    let within = slice_get_within d.processes at p is in
    let m = there d.settings.members at (omega (arith, alike, ps, ms, within)) in
    let g = its_agent d.settings.members d.managements at m.0 h.managed.aligned m.1 in
    let one = h.managed.each at m.0 p g.0 m.1 is g.1 in
    knows_live d.clock m.0 p.links g.0.agent d.settings.members p.routes dst n one.knows one.routes hop

pub home_set : (d : Dif) (lines : List Direction) (below : Seen) (at : ℕ) (p p' : IpcProcess) (ps : List IpcProcess) → Holds d lines below → slice_get d.processes at ≡ Some p → queue_settings p' ≡ queue_settings p → IsSameHouse (process_of p) (process_of p') → ps ≡ slice_set d.processes at p' → AreHome d ps
home_set d lines below at p p' ps h is room same new = record {
  housed = subst (AreHoused (config_of d.settings)) (sym new) (housed_set (config_of d.settings) d.processes at p p' h.housed is room same (λ dst n hop. hop_lives d lines below at p dst n h is hop));
  managed = subst (λ (qs : List IpcProcess). AreManagedBy d.laid.is_static d.settings.members d.laid.links d.clock qs d.managements) (sym new) (managed_set d.laid.is_static d.settings.members d.laid.links d.clock d.processes d.managements at p p' is same.links same.routes h.managed);
  live = subst (StayLive d.processes) (sym new) (set_stays d.processes at p p' is same.links);
}
