-- PDUs wait at an IPC process for live links alone: what keeps that.
use Rattle.std.proofs.Common.{◌≡◌, ◌≢◌, ◌∙◌, ◌⊎◌, ◌&&◌, ◌==◌, ℕ, suc, Bool, true, false, cond, eqb, List, [], ◌∷◌, ◌++◌, drop, map, slice_get, Option, Some, refl, sym, ap, subst, arith, inl, inr}
use Rattle.std.proofs.lemmas.Bool.Decides.{eqb_tells}
use Rattle.rina_iface.proofs.Changed.{set_at, slice_get-set_other}
use Rattle.rina_iface.proofs.Grown.{still_at}
use Rattle.rina_queue.specs.declared.queue.Queued.{Queued}
use Rattle.rina_queue.proofs.Places.{first_passes}
use Rattle.rina_data.specs.declared.link.Link.{Link}
use Rattle.rina_data.specs.declared.link.Route.{Route}
use Rattle.rina_data.specs.declared.process.IpcProcess.{IpcProcess}
use Rattle.rina_data.specs.Configs.{Config}
use Rattle.rina_data.specs.Deciding.{process_of}
use Rattle.rina_data.specs.Losing.{without_items, without_link}
use Rattle.rina_data.specs.Process.{IsQueue, Process, Queue, next_hop, with_put, with_taken}
use Rattle.rina_dif_law.proofs.Own.{map_at}
use Rattle.rina_member.specs.Knowing.{HasLiveLink}
use Rattle.rina_dif.specs.LinkTaking.{WaitOnLive}
use Rattle.rina_dif.specs.Holding.{AreHoused, WaitsAt, WaitsOnLive}

same_some : {X : Type 0} (o : Option X) (a b : X) → o ≡ Some a → o ≡ Some b → a ≡ b
same_some o a b h g = cc

-- nothing waits at the start
pub none_on_live : (p : Process) → ((place : ℕ) (queue : Queue) → slice_get p.queues place ≡ Some queue → queue.items ≡ []) → WaitsOnLive p
none_on_live p none n item w = absurd (let e : slice_get [] w.at ≡ Some item = ap (λ (xs : List Queued). slice_get xs w.at) (sym (none w.place w.queue w.is_queue)) ∙ w.is_item in cc)

-- What begins to wait

-- the number is that of a next hop, or of a live link
abbrev pub IsWay : Process → ℕ → Type 0
IsWay p n = ((dst : ℕ) × (next_hop dst p.routes ≡ Some n)) ⊎ HasLiveLink p.links n

-- what begins to wait does so for one of these
abbrev pub BeginsOnWays : Process → Process → Type 0
BeginsOnWays p p' = (n : ℕ) (item : Queued) → WaitsAt p' n item → WaitsAt p n item ⊎ IsWay p n

-- its queues stay
pub begins_none : (p p' : Process) → p'.queues ≡ p.queues → BeginsOnWays p p'
begins_none p p' same n item w = inl (record { place = w.place; queue = w.queue; is_queue = ap (λ (qs : List Queue). slice_get qs w.place) (sym same) ∙ w.is_queue; link = w.link; at = w.at; is_item = w.is_item })

dropped : {X : Type 0} (xs : List X) (i : ℕ) (x : X) → slice_get (drop 1 xs) i ≡ Some x → slice_get xs (suc i) ≡ Some x
dropped [] i x h = absurd cc
dropped (y ∷ ys) i x h = h

-- the first PDU of a queue is taken
pub begins_taken : (p p' : Process) (place : ℕ) (q : Queue) → slice_get p.queues place ≡ Some q → p'.queues ≡ (with_taken p place q).queues → BeginsOnWays p p'
begins_taken p p' place q is same n item w = inl (elim (set_at p.queues place w.place q (record q { items = drop 1 q.items }) w.queue is (ap (λ (qs : List Queue). slice_get qs w.place) (sym same) ∙ w.is_queue)) [
  | inl t ↦ record { place = place; queue = q; is_queue = is; link = ap (λ (z : Queue). z.link) (sym t.1) ∙ w.link; at = suc w.at; is_item = dropped q.items w.at item (subst (λ (z : Queue). slice_get z.items w.at ≡ Some item) t.1 w.is_item) }
  | inr f ↦ record { place = w.place; queue = w.queue; is_queue = f.1; link = w.link; at = w.at; is_item = w.is_item }
])

of_link : (qos n : ℕ) (q : Queue) → ((q.link == n) && (q.qos == qos)) ≡ true → q.link ≡ n
of_link qos n q is = grind arith

pub queue_link : (p : Process) (qos n place : ℕ) (q : Queue) → IsQueue p qos n place q → q.link ≡ n
queue_link p qos n place q h =
    let x = first_passes (λ (z : Queue). (z.link == n) && (z.qos == qos)) p.queues place h.found in
    let same : x.0 ≡ q = same_some (slice_get p.queues place) x.0 q x.1.stands h.is_queue in
    ap (λ (z : Queue). z.link) (sym same) ∙ of_link qos n x.0 x.1.passes

-- PDUs are put into the queue of such a link
pub begins_put : (p : Process) (qos n place : ℕ) (q : Queue) (items : List Queued) → IsQueue p qos n place q → IsWay p n → BeginsOnWays p (with_put p place q items)
begins_put p qos n place q items is way m item w = elim (set_at p.queues place w.place q (record q { items = q.items ++ items }) w.queue is.is_queue w.is_queue) [
  | inl t ↦
      (let its : n ≡ m = sym (queue_link p qos n place q is) ∙ ap (λ (z : Queue). z.link) (sym t.1) ∙ w.link in
      inr (subst (IsWay p) its way))
  | inr f ↦ inl (record { place = w.place; queue = w.queue; is_queue = f.1; link = w.link; at = w.at; is_item = w.is_item })
]

same_lives : (links links' : List Link) (n : ℕ) → links' ≡ links → HasLiveLink links n → HasLiveLink links' n
same_lives links links' n same = subst (λ (ls : List Link). HasLiveLink ls n) (sym same)

-- so what waits waits for live links, where next hops are by such
pub way_on_live : (p p' : Process) → p'.links ≡ p.links → ((dst n : ℕ) → next_hop dst p.routes ≡ Some n → HasLiveLink p.links n) → BeginsOnWays p p' → WaitsOnLive p → WaitsOnLive p'
way_on_live p p' links hops begins waits n item w = same_lives p.links p'.links n links (elim (begins n item w) [
  | inl was ↦ waits n item was
  | inr (inl hop) ↦ hops hop.0 n hop.1
  | inr (inr live) ↦ live
])

-- links and queues stay
pub same_on_live : (p p' : Process) → p'.links ≡ p.links → p'.queues ≡ p.queues → WaitsOnLive p → WaitsOnLive p'
same_on_live p p' links queues waits n item w = same_lives p.links p'.links n links (waits n item (record { place = w.place; queue = w.queue; is_queue = ap (λ (qs : List Queue). slice_get qs w.place) (sym queues) ∙ w.is_queue; link = w.link; at = w.at; is_item = w.is_item }))

-- A link more

pub more_on_live : (p p' : Process) (link : Link) → p'.links ≡ p.links ++ link ∷ [] → ((place at : ℕ) (queue : Queue) (item : Queued) → slice_get p'.queues place ≡ Some queue → slice_get queue.items at ≡ Some item → slice_get p.queues place ≡ Some queue) → WaitsOnLive p → WaitsOnLive p'
more_on_live p p' link links was waits n item w =
    let l = waits n item (record { place = w.place; queue = w.queue; is_queue = was w.place w.at w.queue item w.is_queue w.is_item; link = w.link; at = w.at; is_item = w.is_item }) in
    record { place = l.place; link = l.link; stands = ap (λ (ls : List Link). slice_get ls l.place) links ∙ still_at p.links (link ∷ []) l.place l.link l.stands; live = l.live; is_number = l.is_number }

-- A link is lost

-- the queues of its number are empty, and the others stay
left_in : (b : Bool) (q : Queue) (at : ℕ) (item : Queued) → slice_get (cond b (record q { items = [] }) q).items at ≡ Some item → (b ≡ false) × (slice_get q.items at ≡ Some item)
left_in true q at item is = absurd cc
left_in false q at item is = (refl, is)

same_link : (b : Bool) (q : Queue) → (cond b (record q { items = [] }) q).link ≡ q.link
same_link true q = refl
same_link false q = refl

differs : (a c : ℕ) → eqb a c ≡ false → a ≡ c → ⊥
differs a c unlike same = elim (eqb_tells a c) [ inl t ↦ absurd (let e : true ≡ false = sym t.0 ∙ unlike in cc) | inr f ↦ f.1 same ]

-- the PDUs that waited for it are written off, so those that wait on wait for other links
pub lost_on_live : (p : Process) (place : ℕ) (link : Link) (routes : List Route) → slice_get p.links place ≡ Some link → WaitsOnLive p → WaitsOnLive (without_link place link routes p)
lost_on_live p place link routes stands waits n item w =
    let q = map_at (without_items link) p.queues w.place w.queue w.is_queue in
    let b : Bool = eqb q.0.link link.number in
    let left = left_in b q.0 w.at item (subst (λ (z : Queue). slice_get z.items w.at ≡ Some item) q.2 w.is_item) in
    let its : q.0.link ≡ n = sym (same_link b q.0) ∙ ap (λ (z : Queue). z.link) (sym q.2) ∙ w.link in
    let l = waits n item (record { place = w.place; queue = q.0; is_queue = q.1; link = its; at = w.at; is_item = left.1 }) in
    let other : l.place ≢ place = λ at. differs q.0.link link.number left.0 (its ∙ sym l.is_number ∙ ap (λ (z : Link). z.number) (same_some (slice_get p.links place) l.link link (ap (slice_get p.links) (sym at) ∙ l.stands) stands)) in
    record { place = l.place; link = l.link; stands = slice_get-set_other p.links place l.place (record link { live = false }) other ∙ l.stands; live = l.live; is_number = l.is_number }

-- All IPC processes of a DIF

pub all_on_live : (g : Config) (ps : List IpcProcess) → AreHoused g ps → WaitOnLive (map process_of ps)
all_on_live g ps housed i n item w =
    let p = map_at process_of ps i w.process w.is_process in
    let z : Process = process_of p.0 in
    let l = (housed i p.0 p.1).waits n item (record { place = w.place; queue = w.queue; is_queue = subst (λ (x : Process). slice_get x.queues w.place ≡ Some w.queue) p.2 w.is_queue; link = w.link; at = w.at; is_item = w.is_item }) in
    (l.link.port, record { process = w.process; is_process = w.is_process; place = l.place; link = l.link; stands = subst (λ (x : Process). slice_get x.links l.place ≡ Some l.link) (sym p.2) l.stands; live = l.live; number_is = l.is_number; port_is = refl })
