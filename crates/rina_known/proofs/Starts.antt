-- No entry is there from the start.
use Rattle.std.proofs.Common.{◌≡◌, ◌∙◌, ◌⊎◌, inl, inr, ⊎_elim, ℕ, ◌<◌, Bool, true, false, List, [], Contains, cond, length, map, slice_get, Some, refl, sym, ap, subst, arith}
use Rattle.std.proofs.lemmas.List.Elements.{Contains-append_cases}
use Rattle.std.proofs.lemmas.Option.{slice_get_within}
use Rattle.rina_access.specs.declared.rules.Rules.{Rules}
use Rattle.rina_newest.specs.declared.item.Item.{Item}
use Rattle.rina_agent.specs.declared.agent.Agent.{Agent}
use Rattle.rina_agent.specs.declared.message.Waiting.{Waiting}
use Rattle.rina_agent.specs.Neighbours.{link_key, member_key}
use Rattle.rina_data.specs.declared.link.Link.{Link}
use Rattle.rina_data.specs.declared.settings.Member.{Member}
use Rattle.rina_data.proofs.Finding.{there}
use Rattle.rina_iface.specs.Seen.{Seen}
use Rattle.rina_plan.specs.declared.dif.DifPlan.{DifPlan}
use Rattle.rina_plan.specs.declared.dif.LinkPlan.{LinkPlan}
use Rattle.rina_stack.specs.declared.plan.Plan.{Plan}
use Rattle.rina_route.proofs.Lists.{contains_unmap, in_none}
use Rattle.rina_member.specs.declared.management.Management.{Management}
use Rattle.rina_member.specs.Start.{first_enrolled, items_taken, member_item, start_items, started, starts_enrolled, state_item, state_items}
use Rattle.rina_member.proofs.Items.{from_all}
use Rattle.rina_dif.specs.declared.dif.Dif.{Dif}
use Rattle.rina_dif.specs.Holding.{Stands}
use Rattle.rina_dif.specs.Laying.{IsNew}
use Rattle.rina_dif.specs.Linking.{IsConnected}
use Rattle.rina_dif.specs.Planned.{links_of}
use Rattle.rina_dif.proofs.Leaves.{has_process}
use Rattle.rina_asked.specs.Calls.{NewAre}
use Rattle.rina_asked.proofs.Starts.{none_on, none_waits}
use Rattle.rina_known.specs.Entries.{AllAre}
use Rattle.rina_known.proofs.Agents.{OwnAre}
use Rattle.rina_known.proofs.Keeping.{InMembers, OnLinks, all_known}

-- a member item or a link state
abbrev IsOwn : Item → Type 0
IsOwn x = (a : ℕ) × ((x.key ≡ member_key a) ⊎ (x.key ≡ link_key a))

states_own : (is_static : Bool) (members : List Member) (plans : List LinkPlan) (x : Item) → Contains (state_items is_static members plans) x → IsOwn x
states_own true members plans x has = (let r = contains_unmap (state_item members plans) members x has in (r.0.addr, inr (sym (ap (λ (y : Item). y.key) r.2))))
states_own false members plans x has = absurd (in_none x has)

items_own : (is_static : Bool) (members : List Member) (plans : List LinkPlan) (x : Item) → Contains (start_items is_static members plans) x → IsOwn x
items_own is_static members plans x has = ⊎_elim
    (λ front. (let r = contains_unmap member_item (first_enrolled is_static members) x front in (r.0.addr, inl (sym (ap (λ (y : Item). y.key) r.2)))))
    (λ back. states_own is_static members plans x back)
    (Contains-append_cases (map member_item (first_enrolled is_static members)) (state_items is_static members plans) x has)

held_own : (enrolled is_static : Bool) (members : List Member) (plans : List LinkPlan) (x : Item) → Contains (cond enrolled (items_taken is_static members plans) []) x → IsOwn x
held_own true is_static members plans x has = ⊎_elim (λ none. absurd (in_none x none)) (λ some. items_own is_static members plans x some) (from_all [] (start_items is_static members plans) x has)
held_own false is_static members plans x has = absurd (in_none x has)

started_items : (is_static : Bool) (members : List Member) (plans : List LinkPlan) (rules : Rules) (m : Member) (links : List Link) → (started is_static members plans rules m links).items ≡ cond (starts_enrolled is_static members m.addr) (items_taken is_static members plans) []
unfolding started
started_items is_static members plans rules m links = refl

module _ (G : Item → Type 0) (own : OwnAre G) (plan : Plan) (i : ℕ) (dif : DifPlan) (d : Dif) (old new : Seen) (is_dif : slice_get plan.difs i ≡ Some dif) (n : IsNew plan i d old new) (c : IsConnected d dif.manage (links_of plan i) old new) (st : Stands d new) where
  held : (k : ℕ) (m : Management) (x : Item) → slice_get d.managements k ≡ Some m → Contains m.agent.items x → IsOwn x
  held k m x is has =
      let managed = n.managed dif is_dif in
      let within = slice_get_within d.managements k m is in
      let aligned = managed.aligned in
      let lt : k < length d.settings.members = omega (arith, within, aligned) in
      let member = there d.settings.members k lt in
      let process = has_process d new k st lt in
      let first = managed.each k member.0 process.0 m member.1 process.1 is in
      let items = ap (λ (g : Agent). g.items) first.is ∙ started_items dif.is_static d.settings.members dif.links first.access member.0 process.0.links in
      held_own (starts_enrolled dif.is_static d.settings.members member.0.addr) dif.is_static d.settings.members dif.links x (subst (λ (xs : List Item). Contains xs x) items has)

  first_members : InMembers G own d
  first_members k m is = record {
    kept = λ x has. (let its = held k m x is has in own x its.0 its.1);
    waits = λ w has. absurd (in_none w (subst (λ (ws : List Waiting). Contains ws w) (none_waits plan i dif d old new is_dif n c st k m is) has));
  }

  first_links : OnLinks G own d
  first_links text message x on is its = absurd (none_on plan i dif d old new is_dif n c st on.link on.side text on.among)

  new_for : AllAre G d
  new_for = all_known G own d first_members first_links

pub new_are : (G : Item → Type 0) → OwnAre G → NewAre (AllAre G)
new_are G own plan i dif d old new is_dif n c st = new_for G own plan i dif d old new is_dif n c st
