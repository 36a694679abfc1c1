-- A message of an enrolment at one link: what the link becomes.
use Rattle.std.proofs.Common.{◌≡◌, ℕ, suc, true, false, ◌==◌, cond, List, [], ◌∷◌, slice_set, slice_get, Option, Some, None, refl, sym, ◌∙◌, ap, subst, inl, inr}
use Rattle.std.specs.Prelude.{find, position, is_some, option_map, option_and_then}
use Rattle.std.specs.List.{fold}
use Rattle.std.proofs.lemmas.Bool.{cases_Bool, both_ways, eqb-true, eq-eqb}
use Rattle.std.proofs.lemmas.Option.{none-some, same_Some}
use Rattle.rina_session.specs.Sessions.{Talk}
use Rattle.rina_enrol.specs.declared.event.EnrolEvent.{EnrolEvent}
use Rattle.rina_enrol.specs.declared.message.LinkMessage.{LinkMessage}
use Rattle.rina_agent.specs.declared.enrolment.Enrolment.{Enrolment}
use Rattle.rina_agent.specs.declared.link.Link.{Link}
use Rattle.rina_agent.specs.Enrolments.{exchanged, stepped, heard_as, heard_by, heard_on, heard_at, hears, is_numbered, place_of}
use Rattle.rina_agent.specs.declared.neighbours.Neighbour.{Neighbour}
use Rattle.rina_agent.specs.Neighbours.{joined, link_state, neighbour_of, with_any, with_link}
use Rattle.rina_agent.specs.Rows.{was_up}
use Rattle.rina_flood.specs.Network.{AreApart}
use Rattle.rina_flood.proofs.Calls.{AreFewer}
use Rattle.rina_flood.proofs.Places.{position_cons}

pub record IsHeard (links : List Link) (place : Option ℕ) (at : ℕ) (becomes : Link) : Type 0 where
  pub here : place ≡ Some at
  pub link : Link
  pub there : slice_get links at ≡ Some link
  pub number : becomes.number ≡ link.number
  pub up : becomes.up ≡ link.up
  -- what a link state says of it
  pub says : neighbour_of None becomes ≡ neighbour_of None link

same_said : (l : Link) (e : Option Enrolment) → neighbour_of None (record l { enrolment = e }) ≡ neighbour_of None l
unfolding neighbour_of
same_said l e = refl

talk_heard : (links : List Link) (at : ℕ) (l : Link) (e : Enrolment) (event : EnrolEvent) (t : Option Talk) (h : _) → slice_get links at ≡ Some l → option_map (heard_as at l e event) t ≡ Some h → IsHeard links (Some at) h.at h.link
talk_heard links at l e event None h there is = absurd (none-some h is)
talk_heard links at l e event (Some t) h there is =
    let same : heard_as at l e event t ≡ h = same_Some (heard_as at l e event t) h is in
    record {
      here = ap (λ g. Some g.at) same;
      link = l;
      there = ap (λ g. slice_get links g.at) (sym same) ∙ there;
      number = ap (λ g. g.link.number) (sym same);
      up = ap (λ g. g.link.up) (sym same);
      says = ap (λ g. neighbour_of None g.link) (sym same) ∙ same_said l (Some (stepped e event t));
    }

link_heard : (links : List Link) (at : ℕ) (m : LinkMessage) (replies : List LinkMessage) (event : EnrolEvent) (l : Link) (e : Option Enrolment) (h : _) → slice_get links at ≡ Some l → heard_by at l m replies event e ≡ Some h → IsHeard links (Some at) h.at h.link
link_heard links at m replies event l None h there is = absurd (none-some h is)
link_heard links at m replies event l (Some e) h there is = talk_heard links at l e event (exchanged e.session m replies) h there is

slot_heard : (links : List Link) (at : ℕ) (m : LinkMessage) (replies : List LinkMessage) (event : EnrolEvent) (o : Option Link) (h : _) → slice_get links at ≡ o → option_and_then (heard_on at m replies event) o ≡ Some h → IsHeard links (Some at) h.at h.link
slot_heard links at m replies event None h there is = absurd (none-some h is)
slot_heard links at m replies event (Some l) h there is = link_heard links at m replies event l l.enrolment h there is

place_heard : (links : List Link) (m : LinkMessage) (replies : List LinkMessage) (event : EnrolEvent) (place : Option ℕ) (h : _) → heard_at links m replies event place ≡ Some h → IsHeard links place h.at h.link
place_heard links m replies event None h is = absurd (none-some h is)
place_heard links m replies event (Some at) h is = slot_heard links at m replies event (slice_get links at) h refl is

pub is_heard : (links : List Link) (k : ℕ) (m : LinkMessage) (replies : List LinkMessage) (event : EnrolEvent) (h : _) → hears links k m replies event ≡ Some h → IsHeard links (place_of k links) h.at h.link
is_heard links k m replies event h is = place_heard links m replies event (place_of k links) h is

-- The link of a number is another

abbrev pub set_link : ℕ → Link → List Link → List Link
set_link k l [] = []
set_link k l (x ∷ links) = cond (x.number == k) (l ∷ links) (x ∷ set_link k l links)

-- the link at the place of a number
pub record IsPlaced (k : ℕ) (links : List Link) (at : ℕ) (l : Link) : Type 0 where
  pub set : (with : Link) → slice_set links at with ≡ set_link k with links
  pub found : find (is_numbered k) links ≡ Some l

placed_rest : (k : ℕ) (x : Link) (links : List Link) (l : Link) (o : Option ℕ) (at : ℕ) → (x.number == k) ≡ false → option_map suc o ≡ Some at → slice_get (x ∷ links) at ≡ Some l → ((i : ℕ) → o ≡ Some i → slice_get links i ≡ Some l → IsPlaced k links i l) → IsPlaced k (x ∷ links) at l
placed_rest k x links l None at isnt e there rest = absurd (none-some at e)
placed_rest k x links l (Some i) at isnt e there rest =
    let P : ℕ → Type 0 = λ j. slice_get (x ∷ links) j ≡ Some l in
    let same : suc i ≡ at = same_Some (suc i) at e in
    let r = rest i refl (subst P (sym same) there) in
    let Q : ℕ → Type 0 = λ j. IsPlaced k (x ∷ links) j l in
    let set : (with : Link) → slice_set (x ∷ links) (suc i) with ≡ set_link k with (x ∷ links) = λ with. rw isnt (ap (λ (ls : List Link). x ∷ ls) (r.set with)) in
    subst Q same (record { set = set; found = rw isnt r.found })

pub placed : (k : ℕ) (links : List Link) (at : ℕ) (l : Link) → place_of k links ≡ Some at → slice_get links at ≡ Some l → IsPlaced k links at l
placed k [] at l here there = absurd (none-some at here)
placed k (x ∷ links) at l here there = elim (cases_Bool (x.number == k)) [
  | inl is ↦
      (let zero : 0 ≡ at = same_Some 0 at (sym (position_cons (is_numbered k) x links ∙ rw is refl) ∙ here) in
      let P : ℕ → Type 0 = λ j. slice_get (x ∷ links) j ≡ Some l in
      let Q : ℕ → Type 0 = λ j. IsPlaced k (x ∷ links) j l in
      let first : x ≡ l = same_Some x l (subst P (sym zero) there) in
      let set : (with : Link) → slice_set (x ∷ links) 0 with ≡ set_link k with (x ∷ links) = λ with. rw is refl in
      subst Q zero (record { set = set; found = rw is (ap Some first) }))
  | inr isnt ↦ placed_rest k x links l (position (is_numbered k) links) at isnt (sym (position_cons (is_numbered k) x links ∙ rw isnt refl) ∙ here) there (λ i h t. placed k links i l h t)
]

pub found_number : (k : ℕ) (links : List Link) (l : Link) → find (is_numbered k) links ≡ Some l → l.number ≡ k
found_number k [] l e = absurd (none-some l e)
found_number k (x ∷ links) l e = elim (cases_Bool (x.number == k)) [
  | inl is ↦ ap (λ (y : Link). y.number) (sym (same_Some x l (rw is at e))) ∙ eqb-true x.number k is
  | inr isnt ↦ found_number k links l (rw isnt at e)
]

pub set_same : (k : ℕ) (with l : Link) (links : List Link) → with.number ≡ k → find (is_numbered k) links ≡ Some l → find (is_numbered k) (set_link k with links) ≡ Some with
set_same k with l [] number e = absurd (none-some l e)
set_same k with l (x ∷ links) number e = elim (cases_Bool (x.number == k)) [
  | inl is ↦ (let mine = eq-eqb with.number k number in rw (is, mine) refl)
  | inr isnt ↦ rw (isnt, isnt) (set_same k with l links number (rw isnt at e))
]

not_number : (j k : ℕ) (l : Link) → l.number ≡ k → (j ≡ k → ⊥) → (l.number == j) ≡ false
not_number j k l number apart = elim (cases_Bool (l.number == j)) [
  | inl is ↦ absurd (apart (sym (eqb-true l.number j is) ∙ number))
  | inr isnt ↦ isnt
]

pub set_other : (j k : ℕ) (with : Link) (links : List Link) → with.number ≡ k → (j ≡ k → ⊥) → find (is_numbered j) (set_link k with links) ≡ find (is_numbered j) links
set_other j k with [] number apart = refl
set_other j k with (x ∷ links) number apart = elim (cases_Bool (x.number == k)) [
  | inl is ↦
      (let off = not_number j k with number apart in
      let also = not_number j k x (eqb-true x.number k is) apart in
      rw (is, off, also) refl)
  | inr isnt ↦ elim (cases_Bool (x.number == j)) [
    | inl mine ↦ rw (isnt, mine) refl
    | inr other ↦ rw (isnt, other) (set_other j k with links number apart)
  ]
]

set_none : (j k : ℕ) (with : Link) (links : List Link) → with.number ≡ k → find (is_numbered j) links ≡ None → (j ≡ k → ⊥) → find (is_numbered j) (set_link k with links) ≡ None
set_none j k with links number e apart = set_other j k with links number apart ∙ e

pub set_apart : (k : ℕ) (with : Link) (links : List Link) → with.number ≡ k → AreApart links → AreApart (set_link k with links)
set_apart k with [] number apart = tt
set_apart k with (x ∷ links) number apart = elim (cases_Bool (x.number == k)) [
  | inl is ↦
      (let P : List Link → Type 0 = λ ls. AreApart ls in
      let set : set_link k with (x ∷ links) ≡ with ∷ links = rw is refl in
      subst P (sym set) (ap (λ (j : ℕ). find (is_numbered j) links) (number ∙ sym (eqb-true x.number k is)) ∙ apart.0, apart.1))
  | inr isnt ↦
      (let P : List Link → Type 0 = λ ls. AreApart ls in
      let set : set_link k with (x ∷ links) ≡ x ∷ set_link k with links = rw isnt refl in
      subst P (sym set) (set_none x.number k with links number apart.0 (λ is. both_ways (x.number == k) isnt (eq-eqb x.number k is)), set_apart k with links number apart.1))
]

-- a link that is set is up where it was, or anew
pub set_up : (j k : ℕ) (with : Link) (links : List Link) → with.number ≡ k → was_up (find (is_numbered j) (set_link k with links)) ≡ true → (j ≡ k → ⊥) → was_up (find (is_numbered j) links) ≡ true
set_up j k with links number e apart = ap was_up (sym (set_other j k with links number apart)) ∙ e

pub set_has : (j k : ℕ) (with l : Link) (links : List Link) → with.number ≡ k → find (is_numbered k) links ≡ Some l → is_some (find (is_numbered j) (set_link k with links)) ≡ true → is_some (find (is_numbered j) links) ≡ true
set_has j k with l links number there e = elim (cases_Bool (j == k)) [
  | inl is ↦ ap (λ (i : ℕ). is_some (find (is_numbered i) links)) (eqb-true j k is) ∙ ap is_some there
  | inr isnt ↦ ap is_some (sym (set_other j k with links number (λ is. both_ways (j == k) isnt (eq-eqb j k is)))) ∙ e
]

-- a link that is as up as it was
pub set_fewer : (k : ℕ) (with l : Link) (links : List Link) → with.number ≡ k → with.up ≡ l.up → find (is_numbered k) links ≡ Some l → AreFewer links (set_link k with links)
set_fewer k with l links number up there = record {
  up = λ j e. elim (cases_Bool (j == k)) [
    | inl is ↦
        (let P : ℕ → Type 0 = λ i. was_up (find (is_numbered i) (set_link k with links)) ≡ true in
        let now : with.up ≡ true = ap was_up (sym (set_same k with l links number there)) ∙ subst P (eqb-true j k is) e in
        ap (λ (i : ℕ). was_up (find (is_numbered i) links)) (eqb-true j k is) ∙ ap was_up there ∙ sym up ∙ now)
    | inr isnt ↦ set_up j k with links number e (λ is. both_ways (j == k) isnt (eq-eqb j k is))
  ];
  has = λ j e. set_has j k with l links number there e;
  apart = λ a. set_apart k with links number a;
}

-- a link state says the same, where it says so of the link that is set
set_said : (k : ℕ) (with l : Link) (links : List Link) (others : List Neighbour) → find (is_numbered k) links ≡ Some l → neighbour_of None with ≡ neighbour_of None l → fold (with_link None) others (set_link k with links) ≡ fold (with_link None) others links
set_said k with l [] others e says = refl
set_said k with l (x ∷ links) others e says = elim (cases_Bool (x.number == k)) [
  | inl is ↦
      (let same : x ≡ l = same_Some x l (rw is at e) in
      rw is (ap (λ (o : Option Neighbour). fold (with_link None) (with_any others o) links) (says ∙ ap (λ (y : Link). neighbour_of None y) (sym same))))
  | inr isnt ↦ rw isnt (set_said k with l links (with_link None others x) (rw isnt at e) says)
]

pub heard_text : (links : List Link) (k at : ℕ) (becomes : Link) → IsHeard links (place_of k links) at becomes → link_state None (slice_set links at becomes) ≡ link_state None links
heard_text links k at becomes q =
    let p = placed k links at q.link q.here q.there in
    ap (λ (ls : List Link). link_state None ls) (p.set becomes) ∙ ap (λ (ns : List Neighbour). fold joined [] ns) (set_said k becomes q.link links [] p.found q.says)
