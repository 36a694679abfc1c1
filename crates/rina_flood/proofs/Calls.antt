-- What the calls of one member change in a network: its agent, and of the messages those of its own directions.
use Rattle.std.proofs.Common.{◌≡◌, ℕ, ◌≤◌, ◌<◌, ◌⊎◌, true, ◌==◌, List, ◌∷◌, ◌++◌, Contains, Option, None, refl, sym, ◌∙◌, ap, subst, inl, inr, arith, []}
use Rattle.std.specs.Prelude.{find, is_some}
use Rattle.std.proofs.lemmas.Bool.{cases_Bool, and_parts, and_from, eqb-true}
use Rattle.std.proofs.lemmas.List.{append-nil}
use Rattle.std.proofs.lemmas.List.Elements.{Contains-append_cases, Contains-push_cases}
use Rattle.rina_newest.specs.declared.item.Item.{Item}
use Rattle.rina_newest.specs.Newest.{taken, taken_all, AreTold}
use Rattle.rina_agent.specs.declared.agent.Agent.{Agent}
use Rattle.rina_agent.specs.declared.link.Link.{Link}
use Rattle.rina_agent.specs.declared.message.ManagementMessage.{ManagementMessage}
use Rattle.rina_agent.specs.Enrolments.{is_numbered}
use Rattle.rina_agent.specs.Rows.{was_up}
use Rattle.rina_flood.specs.Network.{Side, other, EndState, Unmade, There, Gone, Network, link_at, put_agent, put_offers, stands, is_up, has_link, AreApart}
use Rattle.rina_flood.proofs.Holds.{IsLaid}
use Rattle.rina_flood.proofs.Places.{put_case, is_equal}

-- The agent of one member is another

pub at_itself : (i : ℕ) (b : Agent) (agents : ℕ → Agent) → put_agent i b agents i ≡ b
at_itself i b agents = is_equal i i b (agents i) refl

pub at_others : (i : ℕ) (b : Agent) (agents : ℕ → Agent) (j : ℕ) → (j ≡ i → ⊥) → put_agent i b agents j ≡ agents j
at_others i b agents j apart = put_case (λ (c : Agent). c ≡ agents j) j i b (agents j) (λ is. absurd (apart is)) (λ n. refl)

-- its links that are up, and those that it has, were so before
pub record AreFewer (before after : List Link) : Type 0 where
  pub up : (k : ℕ) → was_up (find (is_numbered k) after) ≡ true → was_up (find (is_numbered k) before) ≡ true
  pub has : (k : ℕ) → is_some (find (is_numbered k) after) ≡ true → is_some (find (is_numbered k) before) ≡ true
  pub apart : AreApart before → AreApart after

pub same_links : (links : List Link) → AreFewer links links
same_links links = record { up = λ k e. e; has = λ k e. e; apart = λ a. a }

-- what holds of the link of each number holds of that of an end
pub at_state : (P : Option Link → Option Link → Type 0) (before after : List Link) → ((k : ℕ) → P (find (is_numbered k) before) (find (is_numbered k) after)) → P None None → (s : EndState) → P (link_at s before) (link_at s after)
at_state P before after each none Unmade = none
at_state P before after each none (There k) = each k
at_state P before after each none Gone = none

pub fewer_up : (before after : List Link) → AreFewer before after → (s : EndState) → was_up (link_at s after) ≡ true → was_up (link_at s before) ≡ true
fewer_up before after f = at_state (λ a c. was_up c ≡ true → was_up a ≡ true) before after f.up (λ e. e)

pub fewer_has : (before after : List Link) → AreFewer before after → (s : EndState) → is_some (link_at s after) ≡ true → is_some (link_at s before) ≡ true
fewer_has before after f = at_state (λ a c. is_some c ≡ true → is_some a ≡ true) before after f.has (λ e. e)

-- what holds of the agent of a member and of the new one
pub at_place : (P : Agent → Agent → Type 0) (i : ℕ) (b : Agent) (agents : ℕ → Agent) (j : ℕ) → P (agents i) b → ((a : Agent) → P a a) → P (agents j) (put_agent i b agents j)
at_place P i b agents j changed same = put_case (λ (c : Agent). P (agents j) c) j i b (agents j) (λ is. (let Q : ℕ → Type 0 = λ k. P (agents k) b in subst Q (sym is) changed)) (λ apart. same (agents j))

pub fewer_stand : (n : Network) (i : ℕ) (b : Agent) (sent : ℕ → Side → List ManagementMessage) → AreFewer (n.agents i).links b.links → (l : ℕ) (d : Side) → stands (record n { agents = put_agent i b n.agents; sent = sent }) l d ≡ true → stands n l d ≡ true
fewer_stand n i b sent fewer l d e =
    let both = and_parts _ _ e in
    let Up : Agent → Agent → Type 0 = λ a c. was_up (link_at (n.states l d) c.links) ≡ true → was_up (link_at (n.states l d) a.links) ≡ true in
    let Has : Agent → Agent → Type 0 = λ a c. is_some (link_at (n.states l (other d)) c.links) ≡ true → is_some (link_at (n.states l (other d)) a.links) ≡ true in
    let up = at_place Up i b n.agents (n.ends l d) (fewer_up (n.agents i).links b.links fewer (n.states l d)) (λ a u. u) both.0 in
    let has = at_place Has i b n.agents (n.ends l (other d)) (fewer_has (n.agents i).links b.links fewer (n.states l (other d))) (λ a u. u) both.1 in
    and_from (is_up n l d) (has_link n l (other d)) up has

-- addresses and links stay as they must be
pub laid_on : (n : Network) (i : ℕ) (b : Agent) (sent : ℕ → Side → List ManagementMessage) → IsLaid n → b.address ≡ (n.agents i).address → AreFewer (n.agents i).links b.links
    → IsLaid (record n { agents = put_agent i b n.agents; sent = sent })
laid_on n i b sent h address fewer = record {
  addresses = λ j. at_place (λ a c. c.address ≡ a.address) i b n.agents j address (λ a. refl) ∙ h.addresses j;
  laid = h.laid;
  fit = h.fit;
  apart = λ j. at_place (λ a c. AreApart a.links → AreApart c.links) i b n.agents j fewer.apart (λ a e. e) (h.apart j);
}

-- Journals

pub taken_last : (items xs : List Item) (x : Item) → taken_all items (xs ++ x ∷ []) ≡ taken (taken_all items xs) x
taken_last items [] x = refl
taken_last items (y ∷ xs) x = taken_last (taken items y) xs x

-- one more item is offered to the member that takes it
pub knows_more : (n : Network) (i : ℕ) (b : Agent) (x : Item) → ((j : ℕ) → (n.agents j).items ≡ taken_all [] (n.offered j)) → b.items ≡ taken (n.agents i).items x → (j : ℕ) → (put_agent i b n.agents j).items ≡ taken_all [] (put_offers i (x ∷ []) n.offered j)
knows_more n i b x knows items j = elim (cases_Bool (j == i)) [
  | inl e ↦
      (let is = eqb-true j i e in
      rw e (items ∙ ap (λ (k : ℕ). taken (n.agents k).items x) (sym is) ∙ ap (λ (known : List Item). taken known x) (knows j) ∙ sym (taken_last [] (n.offered j) x)))
  | inr e ↦ rw e (knows j)
]

-- none is offered
pub knows_same : (n : Network) (i : ℕ) (b : Agent) → ((j : ℕ) → (n.agents j).items ≡ taken_all [] (n.offered j)) → b.items ≡ (n.agents i).items → (j : ℕ) → (put_agent i b n.agents j).items ≡ taken_all [] (put_offers i [] n.offered j)
knows_same n i b knows items j = elim (cases_Bool (j == i)) [
  | inl e ↦
      (let is = eqb-true j i e in
      rw e (items ∙ ap (λ (k : ℕ). (n.agents k).items) (sym is) ∙ knows j ∙ ap (λ (xs : List Item). taken_all [] xs) (sym (append-nil (n.offered j)))))
  | inr e ↦ rw e (knows j)
]

pub offers_from : (i : ℕ) (xs : List Item) (offered : ℕ → List Item) (j : ℕ) (y : Item) → Contains (put_offers i xs offered j) y → Contains (offered j) y ⊎ Contains xs y
offers_from i xs offered j y e = elim (cases_Bool (j == i)) [
  | inl is ↦ Contains-append_cases (offered j) xs y (rw is at e)
  | inr isnt ↦ inl (rw isnt at e)
]

-- A new item of a member that counts them

pub new_by_count : (made : List Item) (x : Item) (last : ℕ) → ((y : Item) → Contains made y → y.version.origin ≡ x.version.origin → y.version.count ≤ last) → last < x.version.count → (y : Item) → Contains made y → y.version ≡ x.version → ⊥
new_by_count made x last counted lt y e v =
    let le = counted y e (ap (λ w. w.origin) v) in
    let same : y.version.count ≡ x.version.count = ap (λ w. w.count) v in
    omega arith

pub told_more : (made : List Item) (x : Item) → AreTold made → ((y : Item) → Contains made y → y.version ≡ x.version → ⊥) → AreTold (made ++ x ∷ [])
told_more made x told new y z a b k v = elim (Contains-push_cases made x y a) [
  | inl old_y ↦ elim (Contains-push_cases made x z b) [
    | inl old_z ↦ told y z old_y old_z k v
    | inr is_z ↦ absurd (new y old_y (v ∙ ap (λ (w : Item). w.version) (sym is_z)))
  ]
  | inr is_y ↦ elim (Contains-push_cases made x z b) [
    | inl old_z ↦ absurd (new z old_z (sym v ∙ ap (λ (w : Item). w.version) (sym is_y)))
    | inr is_z ↦ sym is_y ∙ is_z
  ]
]
