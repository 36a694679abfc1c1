-- What is kept in all that an enrolment does to a network.
use Rattle.std.proofs.Common.{◌≡◌, ℕ, ◌<◌, ◌^◌, ◌==◌, List, [], ◌∷◌, ◌++◌, Some, None, refl, sym, subst, inl, inr, arith}
use Rattle.std.proofs.lemmas.Bool.{cases_Bool, eqb-true, eq-eqb}
use Rattle.rina_newest.specs.declared.item.Item.{Item}
use Rattle.rina_agent.specs.declared.agent.Agent.{Agent}
use Rattle.rina_agent.specs.declared.message.Waiting.{Waiting}
use Rattle.rina_agent.specs.Counts.{spent}
use Rattle.rina_agent.specs.Items.{made, own_item, stated}
use Rattle.rina_agent.specs.Neighbours.{member_key}
use Rattle.rina_flood.specs.Network.{Network, put_agent, put_offers, if_counted, last_state}
use Rattle.rina_flood.proofs.Enrolling.{IsQuiet, nothing_quiet}
use Rattle.rina_flood.proofs.Raise.{IsRaised}

abbrev pub with_items : Network → ℕ → Agent → List Item → Network
with_items n i b items = record n { agents = put_agent i b n.agents; made = n.made ++ items; offered = put_offers i items n.offered }

-- it is kept where a member makes no item, where it makes its member item, and where a link of it comes up and it makes its link state
pub record IsKept (P : Network → Type 0) : Type 0 where
  pub quiet : (n : Network) (i : ℕ) (b : Agent) → IsQuiet (n.agents i) b → P n → P (with_items n i b [])
  pub introduces : (n : Network) (i : ℕ) → i < 2 ^ 32 → spent 1 (n.agents i).last_count ≡ None → P n
      → P (with_items n i (made None (n.agents i) n.now (member_key (n.agents i).address) (Some (n.agents i).node)) (own_item (n.agents i) n.now (member_key (n.agents i).address) (Some (n.agents i).node) ∷ []))
  pub raises : (n : Network) (i k : ℕ) (a : Agent) (batch : List Waiting) → i < 2 ^ 32 → IsRaised (n.agents i) a k batch → spent 1 (n.agents i).last_count ≡ None → P n → P (with_items n i (stated None a n.now) (last_state (stated None a n.now) n.now ∷ []))

pub put_twice : (i : ℕ) (b c : Agent) (agents : ℕ → Agent) (j : ℕ) → put_agent i b agents j ≡ put_agent i b (put_agent i c agents) j
put_twice i b c agents j = elim (cases_Bool (j == i)) [ inl e ↦ rw e refl | inr e ↦ rw e refl ]

-- networks that are the same, member by member
pub same_everywhere : (P : Network → Type 0) (n : Network) (agents : ℕ → Agent) (made : List Item) (offered : ℕ → List Item) → ((j : ℕ) → agents j ≡ n.agents j) → made ≡ n.made → ((j : ℕ) → offered j ≡ n.offered j) → P n → P (record n { agents = agents; made = made; offered = offered })
same_everywhere P n agents made offered same_agents same_made same_offered h =
    let is : n ≡ record n { agents = agents; made = made; offered = offered } = (λ t. record n { agents = λ j. sym (same_agents j) t; made = sym same_made t; offered = λ j. sym (same_offered j) t }) in
    subst P is h

-- the counter went on
counted_on : (a b : Agent) (items : List Item) → a.last_count < b.last_count → if_counted a b items ≡ items
counted_on a b items lt = elim (cases_Bool (b.last_count == a.last_count)) [
  | inl is ↦ (let same = eqb-true b.last_count a.last_count is in absurd (omega (arith, same, lt)))
  | inr isnt ↦ rw isnt refl
]

stayed : (a : Agent) (items : List Item) → if_counted a a items ≡ []
stayed a items = (let is = eq-eqb a.last_count a.last_count refl in rw is refl)

pub same_network : (P : Network → Type 0) → IsKept P → (n : Network) (i : ℕ) (items : List Item) → P n → P (with_items n i (n.agents i) (if_counted (n.agents i) (n.agents i) items))
same_network P kept n i items h = subst (λ (xs : List Item). P (with_items n i (n.agents i) xs)) (sym (stayed (n.agents i) items)) (kept.quiet n i (n.agents i) (nothing_quiet (n.agents i)) h)

pub made_network : (P : Network → Type 0) (n : Network) (i : ℕ) (b : Agent) (items : List Item) → (n.agents i).last_count < b.last_count → P (with_items n i b items) → P (with_items n i b (if_counted (n.agents i) b items))
made_network P n i b items lt h = subst (λ (xs : List Item). P (with_items n i b xs)) (sym (counted_on (n.agents i) b items lt)) h
