-- A message that is offered waits no more, and is on one link.
use Rattle.std.proofs.Common.{◌≡◌, ◌∙◌, inl, inr, ⊎_elim, ℕ, zero, suc, ◌+◌, ◌*◌, ◌≤◌, List, [], ◌∷◌, ◌++◌, drop, length, slice_get, slice_set, sum_by, Option, Some, ap, arith}
use Rattle.std.proofs.lemmas.Bool.Decides.{eqb_tells}
use Rattle.std.proofs.lemmas.List.{map-append}
use Rattle.rina_law.specs.declared.entry.Entry.{Entry}
use Rattle.rina_law.specs.Direction.{Direction}
use Rattle.rina_agent.specs.declared.message.ManagementMessage.{ManagementMessage}
use Rattle.rina_agent.specs.declared.message.Waiting.{Waiting}
use Rattle.rina_agent.specs.Agenda.{first_on, waits_on}
use Rattle.rina_iface.specs.declared.ends.End.{End}
use Rattle.rina_iface.specs.Ends.{with_sent}
use Rattle.rina_iface.specs.Journal.{At}
use Rattle.rina_iface.specs.Seen.{Seen}
use Rattle.rina_iface.proofs.Changed.{slice_get-set_other, slice_get-set_same}
use Rattle.rina_flood.specs.Network.{Far, Near, Side, other}
use Rattle.rina_flood.specs.Static.{end_place}
use Rattle.rina_member.specs.declared.management.Management.{Management}
use Rattle.rina_member.specs.Managements.{with_sent as with_offered}
use Rattle.rina_dif.specs.declared.dif.Dif.{Dif}
use Rattle.rina_dif.specs.Changing.{changed_at, changed_if}
use Rattle.rina_dif.specs.Flooding.{handled_at, offered_at, texts_of}
use Rattle.rina_dif.specs.Messaging.{OffersDue}
use Rattle.rina_asked.specs.Alone.{all_on_links, all_waiting, one_waiting}
use Rattle.rina_asked.specs.Messages.{on_link}
use Rattle.rina_asked.proofs.Counting.{sum_first, sum_push, sum_set}
use Rattle.rina_asked.proofs.Fewer.{FewerOnWay}
use Rattle.rina_asked.proofs.Links.{set_sends}

sum_drop_push : (G : List ℕ → ℕ) (k : ℕ) (xs : List (List ℕ)) (y : List ℕ) → sum_by G (drop k (xs ++ y ∷ [])) ≤ sum_by G (drop k xs) + G y
sum_drop_push G zero xs y = (let whole = sum_push G xs y in omega (arith, whole))
sum_drop_push G (suc zero) [] y = omega arith
sum_drop_push G (suc (suc k)) [] y = omega arith
sum_drop_push G (suc k) (x ∷ xs) y = sum_drop_push G k xs y

module _ (d d' : Dif) (at : ℕ) (e : End) (entry : Entry) (is : At d.connections.flows.journal.ends at e) (ends : d'.connections.flows.journal.ends ≡ slice_set d.connections.flows.journal.ends at (with_sent e entry)) (G : List ℕ → ℕ) where
  abbrev old : List End
  old = d.connections.flows.journal.ends

  abbrev new : List End
  new = d'.connections.flows.journal.ends

  abbrev handled : ℕ → Side → ℕ
  handled l side = length (handled_at (slice_get old (end_place l (other side))))

  path : (l : ℕ) (side : Side) → on_link d' l side ≡ drop (handled l side) (offered_at (slice_get new (end_place l side)))
  path l side = ap (λ (ts : List (List ℕ)). drop (length ts) (offered_at (slice_get new (end_place l side)))) (ap (λ (es : List End). handled_at (slice_get es (end_place l (other side)))) ends ∙ set_sends old at e entry is (end_place l (other side)))

  -- where it is offered
  here : (l : ℕ) (side : Side) → end_place l side ≡ at → sum_by G (on_link d' l side) ≤ sum_by G (on_link d l side) + G entry.bytes
  here l side same =
      let was : offered_at (slice_get old (end_place l side)) ≡ texts_of e.sent = ap (λ (o : Option End). offered_at o) (ap (slice_get old) same ∙ is) in
      let now : offered_at (slice_get new (end_place l side)) ≡ texts_of e.sent ++ entry.bytes ∷ [] =
      ap (λ (es : List End). offered_at (slice_get es (end_place l side))) ends ∙ ap (λ (o : Option End). offered_at o) (ap (slice_get (slice_set old at (with_sent e entry))) same ∙ slice_get-set_same old at e (with_sent e entry) is) ∙ map-append (λ (x : Entry). x.bytes) e.sent (entry ∷ []) in
      let all : sum_by G (on_link d' l side) ≡ sum_by G (drop (handled l side) (texts_of e.sent ++ entry.bytes ∷ [])) = ap (sum_by G) (path l side) ∙ ap (λ (ts : List (List ℕ)). sum_by G (drop (handled l side) ts)) now in
      let before : sum_by G (on_link d l side) ≡ sum_by G (drop (handled l side) (texts_of e.sent)) = ap (λ (ts : List (List ℕ)). sum_by G (drop (handled l side) ts)) was in
      let push = sum_drop_push G (handled l side) (texts_of e.sent) entry.bytes in
      omega (arith, all, before, push)

  -- and elsewhere
  there : (l : ℕ) (side : Side) → (end_place l side ≡ at → ⊥) → sum_by G (on_link d' l side) ≤ sum_by G (on_link d l side)
  there l side apart =
      let same : offered_at (slice_get new (end_place l side)) ≡ offered_at (slice_get old (end_place l side)) = ap (λ (es : List End). offered_at (slice_get es (end_place l side))) ends ∙ ap offered_at (slice_get-set_other old at (end_place l side) (with_sent e entry) apart) in
      let all : sum_by G (on_link d' l side) ≡ sum_by G (on_link d l side) = ap (sum_by G) (path l side) ∙ ap (λ (ts : List (List ℕ)). sum_by G (drop (handled l side) ts)) same in
      omega (arith, all)

  -- on the first links it is once at most
  record Once (links : ℕ) : Type 0 where
    once : all_on_links G d' links ≤ all_on_links G d links + G entry.bytes
    never : 2 * links ≤ at → all_on_links G d' links ≤ all_on_links G d links

  once_more : (l : ℕ) → Once l → Once (suc l)
  once_more l o = elim (eqb_tells (end_place l Near) at) [
    | inl t ↦
        (let same = t.1 in
        let near = here l Near same in
        let far = there l Far (λ both. omega (arith, same, both)) in
        let before = o.never (omega (arith, same)) in
        record { once = omega (arith, near, far, before); never = λ more. absurd (omega (arith, more, same)) })
    | inr u ↦
        (let near = there l Near u.1 in
        ⊎_elim
        (λ t.
        (let same = t.1 in
        let far = here l Far same in
        let before = o.never (omega (arith, same)) in
        record { once = omega (arith, near, far, before); never = λ more. absurd (omega (arith, more, same)) }))
        (λ v.
        (let far = there l Far v.1 in
        let before = o.once in
        record { once = omega (arith, near, far, before); never = λ more. (let none = o.never (omega (arith, more)) in omega (arith, near, far, none)) }))
        (eqb_tells (end_place l Far) at))
  ]

  all_once : (links : ℕ) → Once links
  all_once zero = record { once = omega arith; never = λ more. omega arith }
  all_once (suc l) = once_more l (all_once l)

  pub offered_once : (links : ℕ) → all_on_links G d' links ≤ all_on_links G d links + G entry.bytes
  offered_once links = (all_once links).once

-- the first message waits no more
pub sent_fewer : (F : ManagementMessage → ℕ) (i number : ℕ) (ms ms' : List Management) (m : Management) (w : Waiting) → slice_get ms i ≡ Some m → first_on number m.agent.agenda ≡ Some w → ms' ≡ changed_at i (λ x. with_offered x number) ms → all_waiting F ms' + F w.message ≡ all_waiting F ms
sent_fewer F i number ms ms' m w is first change =
    let path : ms' ≡ slice_set ms i (with_offered m number) = change ∙ ap (λ (o : Option Management). changed_if o i (λ x. with_offered x number) ms) is in
    let sums = sum_set (one_waiting F) ms i m (with_offered m number) is in
    let all = ap (all_waiting F) path in
    let its = sum_first (λ (x : Waiting). F x.message) (waits_on number) m.agent.agenda w first in
    omega (arith, all, sums, its)

pub offered_fewer : (d : Dif) (below : Seen) (links : List Direction) (i place number : ℕ) (d' : Dif) → OffersDue d below links i place number d' → FewerOnWay d d'
offered_fewer d below links i place number d' s F G none same n =
    let o = s.offered.offers in
    let ends : d'.connections.flows.journal.ends ≡ s.offered.ends' = (λ j. (s.offered.new_is j).ends) in
    let first = s.due.first in
    let less = sent_fewer F i number d.managements d'.managements first.management first.waiting first.is_management first.first s.managements in
    let more = offered_once d d' place o.end _ o.place.is_conn.end (ends ∙ o.offered.3) G n in
    let text = ap G s.due.cut.1 ∙ same first.waiting.message s.due.sdu first.is_sdu in
    omega (arith, less, more, text)
