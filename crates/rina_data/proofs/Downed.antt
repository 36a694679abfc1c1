-- The link that is lost first is found, and the lines of what waits for it are noted.
use Rattle.std.proofs.Common.{◌≡◌, ◌∙◌, ℕ, ◌+◌, ◌<◌, ◌≤◌, ◌⊎◌, Bool, true, false, cond, eqb, leb, leb-true, leb-false, List, [], ◌∷◌, ◌++◌, length, get_or, map, take, slice_get, slice_set, Option, Some, None, IsTrue, refl, sym, ap, subst, arith, inl, inr, append_assoc}
use Rattle.std.specs.Prelude.{◌↔◌}
use Rattle.std.specs.List.{flat_map}
use Rattle.std.proofs.lemmas.Bool.{cases_lt, false≢true}
use Rattle.std.proofs.lemmas.List.{map_more}
use Rattle.std.proofs.lemmas.Option.{get_or_from_slice_get, slice_get-get_or, slice_get_within}
use Rattle.rina_account.specs.declared.ledger.Off.{Off}
use Rattle.rina_base.specs.declared.number.Port.{Port}
use Rattle.rina_iface.specs.Seen.{Seen, state_of}
use Rattle.rina_queue.specs.declared.queue.Queue.{Queue as Waiting}
use Rattle.rina_queue.specs.declared.queue.Queued.{Queued}
use Rattle.rina_queue.specs.declared.queues.Queues.{Queues}
use Rattle.rina_queue.specs.Queues.{emptied, with_items}
use Rattle.rina_data.specs.declared.link.Link.{Link}
use Rattle.rina_data.specs.declared.link.Route.{Route}
use Rattle.rina_data.specs.declared.loss.Lost.{Lost}
use Rattle.rina_data.specs.declared.process.IpcProcess.{IpcProcess}
use Rattle.rina_data.specs.Deciding.{plain, process_of}
use Rattle.rina_data.specs.Process.{Process, Queue}
use Rattle.rina_data.specs.Losing.{FindsLost, IsLost, IsNoMore, lesser, line_down, lines_down, without_items, without_link}

same_some : {X : Type 0} (o : Option X) (a b : X) → o ≡ Some a → o ≡ Some b → a ≡ b
same_some o a b h g = cc

-- Of the links at the places before n the one of the least number that is lost

pub record IsLostBelow (links : List Link) (below : Seen) (n : ℕ) (lost : Lost) : Type 0 where
  pub link : Link
  pub lost_is : IsLost links below lost.place link
  pub number_is : lost.number ≡ link.number
  pub least : (k : ℕ) (its : Link) → k < n → IsLost links below k its → link.number ≤ its.number

abbrev pub LostBelow : List Link → Seen → ℕ → Option Lost → Type 0
LostBelow links below n None = (k : ℕ) (link : Link) → k < n → IsLost links below k link → ⊥
LostBelow links below n (Some lost) = IsLostBelow links below n lost

pub none_lost : (links : List Link) (below : Seen) → LostBelow links below 0 None
none_lost links below k link lt lost = absurd (omega (arith, lt))

before_or_at : (k n : ℕ) → k < n + 1 → (k < n) ⊎ (k ≡ n)
before_or_at k n lt = elim (cases_lt k n) [ inl l ↦ inl l | inr g ↦ inr (omega (arith, lt, g)) ]

same_link : (links : List Link) (below : Seen) (k n : ℕ) (link its : Link) → k ≡ n → IsLost links below k its → IsLost links below n link → its ≡ link
same_link links below k n link its is lost other = same_some (slice_get links n) its link (ap (slice_get links) (sym is) ∙ lost.stands) other.stands

lost_first : (links : List Link) (below : Seen) (n : ℕ) (link : Link) → (((k : ℕ) (its : Link) → k < n → IsLost links below k its → link.number ≤ its.number)) → IsLost links below n link → IsLostBelow links below (n + 1) (record { place = n; number = link.number })
lost_first links below n link least lost = record {
  link = link;
  lost_is = lost;
  number_is = refl;
  least = λ k its lt is. elim (before_or_at k n lt) [
    | inl l ↦ least k its l is
    | inr same ↦ (let number : its.number ≡ link.number = ap (λ (z : Link). z.number) (same_link links below k n link its same is lost) in omega (arith, number))
  ];
}

lost_by : (links : List Link) (below : Seen) (n : ℕ) (first : Lost) (link : Link) (b : Bool) → leb first.number link.number ≡ b → IsLostBelow links below n first → IsLost links below n link → IsLostBelow links below (n + 1) (cond b first (record { place = n; number = link.number }))
lost_by links below n first link true e f lost =
    let le : first.number ≤ link.number = leb-true first.number link.number e in
    record {
      link = f.link;
      lost_is = f.lost_is;
      number_is = f.number_is;
      least = λ k its lt is. elim (before_or_at k n lt) [
        | inl l ↦ f.least k its l is
        | inr same ↦
            (let number : its.number ≡ link.number = ap (λ (z : Link). z.number) (same_link links below k n link its same is lost) in
            let own = f.number_is in
            omega (arith, le, number, own))
      ];
    }
lost_by links below n first link false e f lost =
    let gt : link.number < first.number = leb-false first.number link.number e in
    let own = f.number_is in
    lost_first links below n link (λ k its l is. (let least = f.least k its l is in omega (arith, gt, own, least))) lost

lost_with : (links : List Link) (below : Seen) (n : ℕ) (first : Option Lost) (link : Link) → LostBelow links below n first → IsLost links below n link → LostBelow links below (n + 1) (Some (lesser first (record { place = n; number = link.number })))
lost_with links below n (Some first) link f lost = lost_by links below n first link (leb first.number link.number) refl f lost
lost_with links below n None link f lost = lost_first links below n link (λ k its l is. absurd (f k its l is)) lost

lost_without : (links : List Link) (below : Seen) (n : ℕ) (first : Option Lost) → LostBelow links below n first → ((link : Link) → IsLost links below n link → ⊥) → LostBelow links below (n + 1) first
lost_without links below n None f none = λ k link lt is. elim (before_or_at k n lt) [ inl l ↦ f k link l is | inr same ↦ none link (subst (λ (m : ℕ). IsLost links below m link) same is) ]
lost_without links below n (Some first) f none = record {
  link = f.link;
  lost_is = f.lost_is;
  number_is = f.number_is;
  least = λ k its lt is. elim (before_or_at k n lt) [ inl l ↦ f.least k its l is | inr same ↦ absurd (none its (subst (λ (m : ℕ). IsLost links below m its) same is)) ];
}

abbrev pub TestsLost : Seen → Link → Bool → Type 0
TestsLost below link r = IsTrue r ↔ ((link.live ≡ true) × IsNoMore (state_of below link.port))

-- what a link that is not there would be read as
abbrev pub no_link : Link
no_link = record { port = record { fac = 0; node = 0; n = 0 }; number = 0; live = false }

pub lost_here : (links : List Link) (below : Seen) (n : ℕ) (first first' : Option Lost) (won : Lost) (r : Bool) → LostBelow links below n first → n < length links → TestsLost below (get_or links n no_link) r → r ≡ true → first' ≡ Some won → won ≡ lesser first (record { place = n; number = (get_or links n no_link).number }) → LostBelow links below (n + 1) first'
lost_here links below n first first' won r f lt tests meets is win =
    let link : Link = get_or links n no_link in
    let test = tests.0 meets in
    let with = lost_with links below n first link f (record { stands = slice_get-get_or links n no_link lt; live = test.0; no_more = test.1 }) in
    subst (LostBelow links below (n + 1)) (ap (λ (z : Lost). Some z) (sym win) ∙ sym is) with

pub lost_not_here : (links : List Link) (below : Seen) (n : ℕ) (first first' : Option Lost) (r : Bool) → LostBelow links below n first → n < length links → TestsLost below (get_or links n no_link) r → r ≡ false → first' ≡ first → LostBelow links below (n + 1) first'
lost_not_here links below n first first' r f lt tests fails is =
    let link : Link = get_or links n no_link in
    subst (LostBelow links below (n + 1)) (sym is) (lost_without links below n first f (λ other lost.
    let same : other ≡ link = same_some (slice_get links n) other link lost.stands (slice_get-get_or links n no_link lt) in
    let live : link.live ≡ true = ap (λ (z : Link). z.live) (sym same) ∙ lost.live in
    let no_more : IsNoMore (state_of below link.port) = subst (λ (z : Link). IsNoMore (state_of below z.port)) same lost.no_more in
    false≢true (sym fails ∙ tests.1 (live, no_more))))

pub lost_all : (links : List Link) (below : Seen) (n : ℕ) (first : Option Lost) → length links ≤ n → LostBelow links below n first → FindsLost links below first
lost_all links below n None le f = λ k link is. f k link (let lt = slice_get_within links k link is.stands in omega (arith, lt, le)) is
lost_all links below n (Some first) le f = (f.link, record { lost = f.lost_is; least = λ k its is. f.least k its (let lt = slice_get_within links k its is.stands in omega (arith, lt, le)) is }, f.number_is)

-- Lines

pub items_more : (port : Port) (items : List Queued) (n : ℕ) (item : Queued) (base old new : List Off) → slice_get items n ≡ Some item → old ≡ base ++ map (line_down port) (take n items) → new ≡ old ++ line_down port item ∷ [] → new ≡ base ++ map (line_down port) (take (n + 1) items)
items_more port items n item base old new is before pushed =
    let lt = slice_get_within items n item is in
    let read : get_or items n item ≡ item = get_or_from_slice_get items n item item is in
    let more : map (line_down port) (take (n + 1) items) ≡ map (line_down port) (take n items) ++ line_down port item ∷ [] = map_more (line_down port) items n item lt ∙ ap (λ (z : Queued). map (line_down port) (take n items) ++ line_down port z ∷ []) read in
    pushed ∙ ap (λ (xs : List Off). xs ++ line_down port item ∷ []) before ∙ append_assoc base (map (line_down port) (take n items)) (line_down port item ∷ []) ∙ ap (λ (xs : List Off). base ++ xs) (sym more)

abbrev pub LinesOf : Link → List Waiting → List Off
LinesOf link qs = flat_map (lines_down link) (map plain qs)

-- Queues

plain_if : (b : Bool) (q : Waiting) → plain (cond b (with_items [] q) q) ≡ cond b (record (plain q) { items = [] }) (plain q)
plain_if true q = refl
plain_if false q = refl

plain_one : (link : Link) (q : Waiting) → plain (emptied link.number q) ≡ without_items link (plain q)
unfolding emptied
plain_one link q = plain_if (eqb q.link link.number) q

pub plain_emptied : (link : Link) (qs : List Waiting) → map plain (map (emptied link.number) qs) ≡ map (without_items link) (map plain qs)
plain_emptied link [] = refl
plain_emptied link (q ∷ qs) = ap (λ (z : Queue). z ∷ map plain (map (emptied link.number) qs)) (plain_one link q) ∙ ap (λ (zs : List Queue). without_items link (plain q) ∷ zs) (plain_emptied link qs)

-- The whole

process_is : (p : Process) (links : List Link) (queues : List Queue) (ledger : List Off) (place : ℕ) (link : Link) (routes : List Route) → links ≡ slice_set p.links place (record link { live = false }) → queues ≡ map (without_items link) p.queues → ledger ≡ p.ledger ++ flat_map (lines_down link) p.queues → record { links = links; routes = routes; queues = queues; ledger = ledger } ≡ without_link place link routes p
process_is p links queues ledger place link routes a b c = ap (λ (z : List Link). record { links = z; routes = routes; queues = queues; ledger = ledger }) a ∙ ap (λ (z : List Queue). record { links = slice_set p.links place (record link { live = false }); routes = routes; queues = z; ledger = ledger }) b ∙ ap (λ (z : List Off). record { links = slice_set p.links place (record link { live = false }); routes = routes; queues = map (without_items link) p.queues; ledger = z }) c

pub loses_is : (p mid : IpcProcess) (qs : List Waiting) (place : ℕ) (link found : Link) (routes : List Route) (links : List Link) (queues : Queues) (lines : List Off) → slice_get p.links place ≡ Some link → slice_get p.links place ≡ Some found → qs ≡ p.queues.queues.items → lines ≡ LinesOf found qs → mid.ledger ≡ p.ledger ++ lines → mid.links ≡ p.links → mid.queues ≡ p.queues → queues.queues.items ≡ map (emptied found.number) mid.queues.queues.items → links ≡ slice_set mid.links place (record found { live = false })
    → process_of (record { links = links; routes = routes; queues = queues; ledger = mid.ledger }) ≡ without_link place link routes (process_of p)
loses_is p mid qs place link found routes links queues lines is here same down ledger old_links old_queues empty set =
    let one : found ≡ link = same_some (slice_get p.links place) found link here is in
    let all : queues.queues.items ≡ map (emptied found.number) p.queues.queues.items = empty ∙ ap (λ (z : Queues). map (emptied found.number) z.queues.items) old_queues in
    let by_found : process_of (record { links = links; routes = routes; queues = queues; ledger = mid.ledger }) ≡ without_link place found routes (process_of p) =
    process_is (process_of p) links (map plain queues.queues.items) mid.ledger place found routes
    (set ∙ ap (λ (z : List Link). slice_set z place (record found { live = false })) old_links)
    (ap (map plain) all ∙ plain_emptied found p.queues.queues.items)
    (ledger ∙ ap (λ (z : List Off). p.ledger ++ z) (down ∙ ap (LinesOf found) same)) in
    by_found ∙ ap (λ (z : Link). without_link place z routes (process_of p)) one
