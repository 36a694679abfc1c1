-- The IPC processes of a DIF while its links are laid.
use Rattle.std.proofs.Common.{◌≡◌, ◌≢◌, ◌∙◌, ℕ, zero, suc, ◌+◌, ◌<◌, ◌==◌, Bool, true, false, cond, get_or, List, [], ◌∷◌, ◌++◌, length, map, slice_get, slice_set, Option, Some, Result, Ok, Err, refl, sym, ap, subst, arith, inl, inr}
use Rattle.std.specs.Prelude.{Contains, IsSome, OnOk, position}
use Rattle.std.specs.List.{list_any, position_from}
use Rattle.std.proofs.lemmas.Iterator.Adapters.{position_from-zero}
use Rattle.std.proofs.lemmas.Bool.Decides.{eqb_tells}
use Rattle.std.proofs.lemmas.List.Elements.{filter-append}
use Rattle.std.proofs.lemmas.List.{append-nil}
use Rattle.std.proofs.lemmas.Option.{get_or_from_slice_get, slice_get-get_or, slice_get_within}
use Rattle.rina_base.specs.declared.memory.Memory.{Memory}
use Rattle.rina_base.specs.declared.number.Port.{Port}
use Rattle.rina_iface.proofs.Grown.{pushed_at, still_at}
use Rattle.rina_queue.specs.declared.queue.Queue.{Queue as Waiting}
use Rattle.rina_queue.specs.Queues.{AreIds, added, has_link, is_queue, no_items, no_queues, queue_place}
use Rattle.rina_queue.proofs.Places.{first_passes}
use Rattle.rina_data.specs.declared.link.Link.{Link}
use Rattle.rina_data.specs.declared.process.IpcProcess.{IpcProcess}
use Rattle.rina_data.specs.declared.settings.Settings.{Settings}
use Rattle.rina_data.specs.Configs.{config_of, cube_by}
use Rattle.rina_data.specs.Fitting.{IsQos}
use Rattle.rina_cube.specs.declared.Cube.{Cube}
use Rattle.rina_dif.specs.Building.{IsBare, queue_ids}
use Rattle.rina_dif.specs.Laying.{AddsLink, AddsLinkAt, IsLinkedUp, links_from, ports_at}
use Rattle.rina_dif.proofs.Putting.{stands_there}

none_at : {X : Type 0} (k : ℕ) (x : X) (xs : List X) → xs ≡ [] → slice_get xs k ≡ Some x → ⊥
none_at k x xs none is = (let e : slice_get [] k ≡ Some x = ap (λ ys. slice_get ys k) (sym none) ∙ is in cc)

pub bare_up : (s : Settings) (node : ℕ) (p : IpcProcess) → IsBare s p → IsLinkedUp s node [] p
bare_up s node p b = record {
  links = b.links;
  ledger = b.ledger;
  room = b.room;
  ids = b.ids;
  empty = λ k q is. absurd (none_at k q p.queues.queues.items b.queues is);
  known = λ k q is. absurd (none_at k q p.queues.queues.items b.queues is);
  there = λ k qos link is has. absurd (none_at k link p.links b.links is);
}

-- Ports

pub links_push : (n : ℕ) (ports : List Port) (port : Port) → links_from n (ports ++ port ∷ []) ≡ links_from n ports ++ record { port = port; number = n + length ports; live = true } ∷ []
links_push n [] port = (let here : n + 0 ≡ n = omega arith in rw here refl)
links_push n (p ∷ ps) port = (let on : n + suc (length ps) ≡ n + 1 + length ps = omega arith in ap (λ (rest : List Link). record { port = p; number = n; live = true } ∷ rest) (links_push (n + 1) ps port ∙ rw (← on) refl))

pub links_length : (n : ℕ) (ports : List Port) → length (links_from n ports) ≡ length ports
links_length n [] = refl
links_length n (p ∷ ps) = ap suc (links_length (n + 1) ps)

is_at : (port : Port) (node : ℕ) → port.node ≡ node → (port.node == node) ≡ true
is_at port node same = grind arith

is_elsewhere : (port : Port) (node : ℕ) → port.node ≢ node → (port.node == node) ≡ false
is_elsewhere port node other = elim (eqb_tells port.node node) [ inl t ↦ absurd (other t.1) | inr u ↦ u.0 ]

one_here : (node : ℕ) (port : Port) → port.node ≡ node → ports_at node (port ∷ []) ≡ port ∷ []
one_here node port same = rw (is_at port node same) refl

none_here : (node : ℕ) (port : Port) → port.node ≢ node → ports_at node (port ∷ []) ≡ []
none_here node port other = rw (is_elsewhere port node other) refl

pub ports_push : (node : ℕ) (ports : List Port) (port : Port) → port.node ≡ node → ports_at node (ports ++ port ∷ []) ≡ ports_at node ports ++ port ∷ []
ports_push node ports port same = filter-append _ ports (port ∷ []) ∙ ap (λ (more : List Port). ports_at node ports ++ more) (one_here node port same)

pub ports_skip : (node : ℕ) (ports : List Port) (port : Port) → port.node ≢ node → ports_at node (ports ++ port ∷ []) ≡ ports_at node ports
ports_skip node ports port other = filter-append _ ports (port ∷ []) ∙ ap (λ (more : List Port). ports_at node ports ++ more) (none_here node port other) ∙ append-nil (ports_at node ports)

-- a port of another node changes nothing
pub up_skips : (s : Settings) (node : ℕ) (ports : List Port) (port : Port) (p : IpcProcess) → port.node ≢ node → IsLinkedUp s node ports p → IsLinkedUp s node (ports ++ port ∷ []) p
up_skips s node ports port p other up = record { links = up.links ∙ ap (links_from 0) (sym (ports_skip node ports port other)); ledger = up.ledger; room = up.room; ids = up.ids; empty = up.empty; known = up.known; there = up.there }

-- Queues of a link that has none yet

no_link_there : (link : ℕ) (qs : List Waiting) → ((k : ℕ) (q : Waiting) → slice_get qs k ≡ Some q → q.link < link) → list_any (λ (q : Waiting). q.link == link) qs ≡ false
no_link_there link [] below = refl
no_link_there link (q ∷ qs) below =
    let here : q.link ≢ link = λ same. (let lt = below zero q refl in omega (arith, lt, same)) in
    let not_here : (q.link == link) ≡ false = elim (eqb_tells q.link link) [ inl t ↦ absurd (here t.1) | inr u ↦ u.0 ] in
    let rest = no_link_there link qs (λ k r is. below (suc k) r is) in
    rw (not_here, rest) refl

pub added_is : (cap link : ℕ) (cubes : List ℕ) (qs : List Waiting) → ((k : ℕ) (q : Waiting) → slice_get qs k ≡ Some q → q.link < link) → added cap link cubes qs ≡ qs ++ no_queues cap link cubes
unfolding added has_link
added_is cap link cubes qs below = rw (no_link_there link qs below) refl

in_either : {X : Type 0} (P : X → Type 0) (xs ys : List X) → ((k : ℕ) (x : X) → slice_get xs k ≡ Some x → P x) → ((k : ℕ) (y : X) → slice_get ys k ≡ Some y → P y) → (k : ℕ) (x : X) → slice_get (xs ++ ys) k ≡ Some x → P x
in_either P [] ys all more k x is = more k x is
in_either P (z ∷ xs) ys all more zero x is = all zero x is
in_either P (z ∷ xs) ys all more (suc k) x is = in_either P xs ys (λ j y h. all (suc j) y h) more k x is

pub new_one : (cap link : ℕ) (cubes : List ℕ) (k : ℕ) (q : Waiting) → slice_get (no_queues cap link cubes) k ≡ Some q → (qos : ℕ) × (q ≡ no_items cap link qos)
new_one cap link [] k q is = cc
new_one cap link (c ∷ cs) zero q is = (c, cc)
new_one cap link (c ∷ cs) (suc k) q is = new_one cap link cs k q is

-- The cubes that have queues

its_id : (qos : ℕ) (cubes : List Cube) (cube : Cube) → cube_by qos cubes ≡ Some cube → (k : ℕ) × (slice_get (map (λ (c : Cube). c.id) cubes) k ≡ Some qos)
its_id qos [] cube found = absurd cc
its_id qos (c ∷ cs) cube found = elim (eqb_tells c.id qos) [
  | inl t ↦ (zero, ap (λ (n : ℕ). Some n) t.1)
  | inr u ↦
      let later = its_id qos cs cube (rw u.0 at found) in
      (suc later.0, later.1)
]

contains : (xs : List ℕ) (k x : ℕ) → slice_get xs k ≡ Some x → Contains xs x
contains xs k x is = (k, slice_get_within xs k x is, get_or_from_slice_get xs k x x is)

-- management, and each cube
pub has_id : (s : Settings) (qos : ℕ) → IsQos (config_of s) qos → Contains (queue_ids s.cubes) qos
has_id s qos (inl none) = contains (queue_ids s.cubes) 0 qos (ap (λ (n : ℕ). Some n) (sym none))
has_id s qos (inr known) = (let at = its_id qos s.cubes known.0 known.1 in contains (queue_ids s.cubes) (suc at.0) qos at.1)

-- Where a queue stands

contained : {X : Type 0} (xs : List X) (x : X) → Contains xs x → (k : ℕ) × (slice_get xs k ≡ Some x)
contained {X = X} xs x has = (has.0, slice_get-get_or xs has.0 x has.1 ∙ ap (λ (y : X). Some y) has.2)

from_some : {X : Type 0} (p : X → Bool) (n : ℕ) (xs : List X) (k : ℕ) (x : X) → slice_get xs k ≡ Some x → p x ≡ true → IsSome (position_from p n xs)
from_some p n [] k x is passes = absurd cc
from_some p n (y ∷ ys) zero x is passes =
    let same : y ≡ x = cc in
    let here : p y ≡ true = ap p same ∙ passes in
    rw here refl
from_some p n (y ∷ ys) (suc k) x is passes =
    let rest = from_some p (n + 1) ys k x is passes in
    elim (p y) as (λ v. IsSome (cond v (Some n) (position_from p (n + 1) ys))) [ true ↦ refl | false ↦ rest ]

pub passes_some : {X : Type 0} (p : X → Bool) (xs : List X) (k : ℕ) (x : X) → slice_get xs k ≡ Some x → p x ≡ true → IsSome (position p xs)
passes_some p xs k x is passes = subst (λ (o : Option ℕ). IsSome o) (sym (position_from-zero p xs)) (from_some p 0 xs k x is passes)

pub still_there : (qos link : ℕ) (qs more : List Waiting) → IsSome (queue_place qos link qs) → IsSome (queue_place qos link (qs ++ more))
still_there qos link qs more some =
    let t = stands_there qos link qs some in
    let q = first_passes (is_queue qos link) qs t.place t.found in
    passes_some (is_queue qos link) (qs ++ more) t.place q.0 (still_at qs more t.place q.0 q.1.stands) q.1.passes

pub its_link : (qos link : ℕ) (q : Waiting) → is_queue qos link q ≡ true → q.link ≡ link
unfolding is_queue
its_link qos link q is = grind arith

is_new : (cap link qos : ℕ) → is_queue qos link (no_items cap link qos) ≡ true
unfolding is_queue
is_new cap link qos = grind arith

new_place : (cap link : ℕ) (cubes : List ℕ) (k qos : ℕ) → slice_get cubes k ≡ Some qos → slice_get (no_queues cap link cubes) k ≡ Some (no_items cap link qos)
new_place cap link [] k qos is = absurd cc
new_place cap link (c ∷ cs) zero qos is = (let same : c ≡ qos = cc in rw same refl)
new_place cap link (c ∷ cs) (suc k) qos is = new_place cap link cs k qos is

behind : {X : Type 0} (xs ys : List X) (k n : ℕ) (y : X) → n ≡ length xs + k → slice_get ys k ≡ Some y → slice_get (xs ++ ys) n ≡ Some y
behind [] ys k n y at is = (let same : n ≡ k = omega (arith, at) in rw same is)
behind (x ∷ xs) ys k zero y at is = absurd (omega (arith, at))
behind (x ∷ xs) ys k (suc n) y at is = behind xs ys k n y (omega (arith, at)) is

pub new_there : (cap link qos : ℕ) (cubes : List ℕ) (qs : List Waiting) → Contains cubes qos → IsSome (queue_place qos link (qs ++ no_queues cap link cubes))
new_there cap link qos cubes qs has =
    let at = contained cubes qos has in
    passes_some (is_queue qos link) (qs ++ no_queues cap link cubes) (length qs + at.0) (no_items cap link qos) (behind qs (no_queues cap link cubes) at.0 (length qs + at.0) (no_items cap link qos) refl (new_place cap link cubes at.0 qos at.1)) (is_new cap link qos)

-- One link more

link_there : (p p' : IpcProcess) (port : Port) → AddsLink port p p' → ((k : ℕ) (q : Waiting) → slice_get p.queues.queues.items k ≡ Some q → q.link < length p.links) → p'.queues.queues.items ≡ p.queues.queues.items ++ no_queues p.queues.cap (length p.links) p.queues.cubes
link_there p p' port adds known = adds.queues ∙ added_is p.queues.cap (length p.links) p.queues.cubes p.queues.queues.items known

in_more : (p p' : IpcProcess) (port : Port) → p'.queues.queues.items ≡ p.queues.queues.items ++ no_queues p.queues.cap (length p.links) p.queues.cubes → (P : Waiting → Type 0) → ((k : ℕ) (q : Waiting) → slice_get p.queues.queues.items k ≡ Some q → P q) → ((qos : ℕ) → P (no_items p.queues.cap (length p.links) qos)) → (k : ℕ) (q : Waiting) → slice_get p'.queues.queues.items k ≡ Some q → P q
in_more p p' port queues P old new k q is = in_either P p.queues.queues.items (no_queues p.queues.cap (length p.links) p.queues.cubes) old (λ j r at. (let n = new_one p.queues.cap (length p.links) p.queues.cubes j r at in subst P (sym n.1) (new n.0))) k q (ap (λ (qs : List Waiting). slice_get qs k) (sym queues) ∙ is)

length_push : {X : Type 0} (xs : List X) (x : X) → length (xs ++ x ∷ []) ≡ length xs + 1
length_push [] x = refl
length_push (y ∷ ys) x = (let rest = length_push ys x in omega (arith, rest))

pub up_adds : (s : Settings) (node : ℕ) (ports : List Port) (port : Port) (p p' : IpcProcess) → port.node ≡ node → AddsLink port p p' → IsLinkedUp s node ports p → IsLinkedUp s node (ports ++ port ∷ []) p'
up_adds s node ports port p p' same adds up =
    let queues = link_there p p' port adds up.known in
    let count : length p.links ≡ length (ports_at node ports) = ap (λ (ls : List Link). length ls) up.links ∙ links_length 0 (ports_at node ports) in
    let more : length p'.links ≡ length p.links + 1 = ap (λ (ls : List Link). length ls) adds.links ∙ length_push p.links (record { port = port; number = length p.links; live = true }) in
    let on : ℕ → Link = λ n. record { port = port; number = n; live = true } in
    let number : length p.links ≡ 0 + length (ports_at node ports) = omega (arith, count) in
    let all = in_more p p' port queues in
    record {
      links = adds.links ∙ ap (λ (n : ℕ). p.links ++ on n ∷ []) number ∙ ap (λ (ls : List Link). ls ++ on (0 + length (ports_at node ports)) ∷ []) up.links ∙ sym (links_push 0 (ports_at node ports) port) ∙ ap (links_from 0) (sym (ports_push node ports port same));
      ledger = adds.ledger ∙ up.ledger;
      room = adds.cap ∙ up.room;
      ids = subst (AreIds (queue_ids s.cubes)) (sym adds.cubes) up.ids;
      empty = all (λ (q : Waiting). q.ring.items ≡ []) up.empty (λ qos. refl);
      known = all (λ (q : Waiting). q.link < length p'.links) (λ k q is. (let lt = up.known k q is in omega (arith, lt, more))) (λ qos. omega (arith, more));
      there = λ k qos link is has.
          let has' : Contains p.queues.cubes qos = subst (λ (ids : List ℕ). Contains ids qos) adds.cubes has in
          let at = pushed_at p.links (record { port = port; number = length p.links; live = true }) k link (ap (λ (ls : List Link). slice_get ls k) (sym adds.links) ∙ is) in
          subst (λ (qs : List Waiting). IsSome (queue_place qos link.number qs)) (sym queues) (elim at [
            | inl old ↦ still_there qos link.number p.queues.queues.items _ (up.there k qos link old has')
            | inr new ↦
                let number : link.number ≡ length p.links = ap (λ (l : Link). l.number) new.1 in
                subst (λ (n : ℕ). IsSome (queue_place qos n (p.queues.queues.items ++ no_queues p.queues.cap (length p.links) p.queues.cubes))) (sym number) (new_there p.queues.cap (length p.links) qos p.queues.cubes p.queues.queues.items has')
          ]);
    }

-- One of the IPC processes

pub adds_one : (port : Port) (r : Result (Unit {0}) Memory) (at : ℕ) (old : List IpcProcess) (x y : IpcProcess) → at < length old → x ≡ get_or old at x → OnOk r (AddsLink port x y) → OnOk r (AddsLinkAt port at old (slice_set old at y))
adds_one port (Ok done) at old x y lt is adds = λ p here. (let same : x ≡ p = is ∙ get_or_from_slice_get old at p x here in (y, subst (λ (z : IpcProcess). AddsLink port z y) same adds, refl))
adds_one port (Err e) at old x y lt is adds = tt
