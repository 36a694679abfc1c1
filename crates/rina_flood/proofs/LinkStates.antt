-- The link state of a member that lost a link.
use Rattle.std.proofs.Common.{◌≡◌, ℕ, Bool, true, false, ◌&&◌, ◌==◌, List, ◌∷◌, ◌++◌, Option, Some, None, refl, sym, ◌∙◌, ap, inl, inr, []}
use Rattle.std.specs.Prelude.{find}
use Rattle.std.specs.List.{fold}
use Rattle.std.proofs.lemmas.Bool.{cases_Bool, both_ways, eqb-true, eq-eqb}
use Rattle.std.proofs.lemmas.Option.{none-some}
use Rattle.rina_agent.specs.declared.link.Link.{Link}
use Rattle.rina_agent.specs.declared.neighbours.Neighbour.{Neighbour}
use Rattle.rina_agent.specs.Agenda.{is_flooded}
use Rattle.rina_agent.specs.Enrolments.{is_numbered}
use Rattle.rina_agent.specs.Neighbours.{neighbour_of, with_any, with_link, link_state, joined}
use Rattle.rina_agent.specs.Rows.{was_up}
use Rattle.rina_flood.specs.Network.{AreApart}
use Rattle.rina_flood.proofs.Messages.{without_number, gone_is, kept_is}

not_flooded : (out : Option ℕ) (l : Link) → is_flooded out l ≡ false → neighbour_of out l ≡ None
unfolding neighbour_of
not_flooded out l e = rw e refl

same_flooded : (one two : Option ℕ) (l : Link) → is_flooded one l ≡ is_flooded two l → neighbour_of one l ≡ neighbour_of two l
unfolding neighbour_of
same_flooded one two l e = rw e refl

and_none : (b : Bool) → (b && false) ≡ false
and_none true = refl
and_none false = refl

left_out : (k : ℕ) (others : List Neighbour) (l : Link) → (l.number == k) ≡ true → with_link (Some k) others l ≡ others
left_out k others l is =
    let same : (k == l.number) ≡ true = eq-eqb k l.number (sym (eqb-true l.number k is)) in
    let off : is_flooded (Some k) l ≡ false = rw same (and_none l.up) in
    ap (λ (o : Option Neighbour). with_any others o) (not_flooded (Some k) l off)

flip_false : (a k : ℕ) → (a == k) ≡ false → (k == a) ≡ false
flip_false a k e = elim (cases_Bool (k == a)) [
  | inl is ↦ absurd (both_ways (a == k) e (eq-eqb a k (sym (eqb-true k a is))))
  | inr isnt ↦ isnt
]

not_left_out : (k : ℕ) (others : List Neighbour) (l : Link) → (l.number == k) ≡ false → with_link (Some k) others l ≡ with_link None others l
not_left_out k others l isnt =
    let off = flip_false l.number k isnt in
    let same : is_flooded (Some k) l ≡ is_flooded None l = rw off refl in
    ap (λ (o : Option Neighbour). with_any others o) (same_flooded (Some k) None l same)

none_left_out : (k : ℕ) (others : List Neighbour) (links : List Link) → find (is_numbered k) links ≡ None → fold (with_link (Some k)) others links ≡ fold (with_link None) others links
none_left_out k others [] e = refl
none_left_out k others (l ∷ links) e = elim (cases_Bool (l.number == k)) [
  | inl is ↦ absurd (none-some l (sym (rw is at e)))
  | inr isnt ↦ ap (λ (ns : List Neighbour). fold (with_link (Some k)) ns links) (not_left_out k others l isnt) ∙ none_left_out k (with_link None others l) links (rw isnt at e)
]

without_one : (k : ℕ) (others : List Neighbour) (links : List Link) → AreApart links → fold (with_link (Some k)) others links ≡ fold (with_link None) others (without_number k links)
without_one k others [] apart = refl
without_one k others (l ∷ links) apart = elim (cases_Bool (l.number == k)) [
  | inl is ↦
      (let none : find (is_numbered k) links ≡ None = ap (λ (n : ℕ). find (is_numbered n) links) (sym (eqb-true l.number k is)) ∙ apart.0 in
      ap (λ (ns : List Neighbour). fold (with_link (Some k)) ns links) (left_out k others l is) ∙ none_left_out k others links none ∙ ap (λ (ls : List Link). fold (with_link None) others ls) (sym (gone_is k l links is)))
  | inr isnt ↦
      ap (λ (ns : List Neighbour). fold (with_link (Some k)) ns links) (not_left_out k others l isnt) ∙ without_one k (with_link None others l) links apart.1 ∙ ap (λ (ls : List Link). fold (with_link None) others ls) (sym (kept_is k l links isnt))
]

-- what a link state without a link says is what one says after the link is gone
pub state_without : (k : ℕ) (links : List Link) → AreApart links → link_state (Some k) links ≡ link_state None (without_number k links)
state_without k links apart = ap (λ (ns : List Neighbour). fold joined [] ns) (without_one k [] links apart)

-- a link that is not up is not named
not_named : (others : List Neighbour) (l : Link) → l.up ≡ false → with_link None others l ≡ others
not_named others l down =
    let off : is_flooded None l ≡ false = rw down refl in
    ap (λ (o : Option Neighbour). with_any others o) (not_flooded None l off)

without_down : (k : ℕ) (others : List Neighbour) (links : List Link) → was_up (find (is_numbered k) links) ≡ false → fold (with_link None) others (without_number k links) ≡ fold (with_link None) others links
without_down k others [] e = refl
without_down k others (l ∷ links) e = elim (cases_Bool (l.number == k)) [
  | inl is ↦
      (let down : l.up ≡ false = rw is at e in
      ap (λ (ls : List Link). fold (with_link None) others ls) (gone_is k l links is) ∙ ap (λ (ns : List Neighbour). fold (with_link None) ns links) (sym (not_named others l down)))
  | inr isnt ↦ ap (λ (ls : List Link). fold (with_link None) others ls) (kept_is k l links isnt) ∙ without_down k (with_link None others l) links (rw isnt at e)
]

pub state_same : (k : ℕ) (links : List Link) → was_up (find (is_numbered k) links) ≡ false → link_state None (without_number k links) ≡ link_state None links
state_same k links down = ap (λ (ns : List Neighbour). fold joined [] ns) (without_down k [] links down)

-- one more link, which is not up
folded_last : (others : List Neighbour) (links : List Link) (new : Link) → fold (with_link None) others (links ++ new ∷ []) ≡ with_link None (fold (with_link None) others links) new
folded_last others [] new = refl
folded_last others (l ∷ links) new = folded_last (with_link None others l) links new

pub state_more : (links : List Link) (new : Link) → new.up ≡ false → link_state None (links ++ new ∷ []) ≡ link_state None links
state_more links new down = ap (λ (ns : List Neighbour). fold joined [] ns) (folded_last [] links new ∙ not_named (fold (with_link None) [] links) new down)
