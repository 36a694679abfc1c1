-- A member of a DIF tells short messages alone from the start.
use Rattle.std.proofs.Common.{◌≡◌, ⊎_elim, ℕ, ◌≤◌, Bool, true, false, cond, List, [], Contains, None, Ok, length, map, subst, arith}
use Rattle.std.proofs.lemmas.List.{length-map}
use Rattle.rina_access.specs.declared.rules.Rules.{Rules}
use Rattle.rina_base.specs.Names.{app_at, name_at}
use Rattle.rina_graph.specs.declared.graph.Edge.{Edge}
use Rattle.rina_newest.specs.declared.item.Item.{Item}
use Rattle.rina_route.specs.declared.link.Link.{Link as Hop}
use Rattle.rina_route.specs.Written.{IsClaim}
use Rattle.rina_route.proofs.Lists.{contains_unmap, in_none}
use Rattle.rina_agent.specs.declared.link.Link.{Link as Managed}
use Rattle.rina_plan.specs.declared.dif.LinkPlan.{LinkPlan}
use Rattle.rina_data.specs.declared.link.Link.{Link}
use Rattle.rina_data.specs.declared.settings.Member.{Member}
use Rattle.rina_member.specs.Routing.{edge_to, edges_from, live_links, live_of, own_link}
use Rattle.rina_member.specs.Start.{first_version, items_held, managed_link, member_item, neighbour_link, node_of, started, starts_enrolled, state_item}
use Rattle.rina_member.specs.Knowing.{IsLaidOut}
use Rattle.rina_member.specs.Short.{AreNamed, HaveFewLinks, IsLinkInRange, IsShortItem, TellsShort}
use Rattle.rina_member.proofs.Laying.{can_claim, own_within, small_address}
use Rattle.rina_member.proofs.Lists.{keeps_few, makes_few}
use Rattle.rina_member.proofs.Names.{behind_named}
use Rattle.rina_member.proofs.Starting.{held_of}
use Rattle.rina_member.proofs.Tells.{member_short, none_short, state_short}

node_named : (m : Member) → app_at m.name ≡ Ok m.name → name_at (node_of m) ≡ Ok (node_of m)
unfolding node_of
node_named m name = behind_named m.name name

claim_ranged : (own : ℕ) (h : Hop) → IsClaim own (edge_to own h) → IsLinkInRange (managed_link h)
claim_ranged own h c = record { peer = c.to; least = c.least; weight = c.weight }

edge_ranged : (own : ℕ) (e : Edge) → IsClaim own e → IsLinkInRange (neighbour_link e)
edge_ranged own e c = record { peer = c.to; least = c.least; weight = c.weight }

module _ (members : List Member) (plans : List LinkPlan) (laid : IsLaidOut members plans) (named : AreNamed members) (few : HaveFewLinks members plans) where
  item_short : (m : Member) → Contains members m → IsShortItem (member_item m)
  item_short m among = member_short m.addr (first_version m.addr) (node_of m) (small_address members plans laid m among) (node_named m (named m among))

  state_is_short : (m : Member) → Contains members m → IsShortItem (state_item members plans m)
  state_is_short m among =
      let es : List Edge = edges_from members m.node plans in
      let same = length-map es neighbour_link in
      let fits = few m among in
      state_short None (map neighbour_link es) (omega (arith, same, fits))
      (λ l has. (
      let r = contains_unmap neighbour_link es l has in
      subst (λ (x : Managed). IsLinkInRange x) r.2 (edge_ranged m.addr r.0 (can_claim members plans laid m r.0 among r.1))))
      m.addr (first_version m.addr) (small_address members plans laid m among)

  held_short : (is_static : Bool) (m : Member) (it : Item) → Contains (items_held is_static members plans m) it → IsShortItem it
  held_short is_static m it has =
      let r = held_of is_static members plans m it has in
      ⊎_elim (λ first. subst (λ (x : Item). IsShortItem x) first (item_short r.0 r.1)) (λ second. subst (λ (x : Item). IsShortItem x) second (state_is_short r.0 r.1)) r.2

  begun_few : (enrolled : Bool) (links : List Managed) → length links ≤ 16 → length (cond enrolled links []) ≤ 16
  begun_few true links fits = fits
  begun_few false links fits = omega arith

  begun_links : (enrolled : Bool) (links : List Managed) (l : Managed) → Contains (cond enrolled links []) l → Contains links l
  begun_links true links l has = has
  begun_links false links l has = absurd (in_none l has)

  pub starts_short : (is_static : Bool) (rules : Rules) (m : Member) (links : List Link) → Contains members m → length links ≤ 16 → TellsShort (started is_static members plans rules m links)
  unfolding started
  starts_short is_static rules m links among fits =
      let es : List Edge = edges_from members m.node plans in
      let hops : List Hop = live_links members plans m links in
      let enrolled : Bool = starts_enrolled is_static members m.addr in
      let from : (x : Edge) → Contains es x → x.from ≡ m.addr = λ x has. (can_claim members plans laid m x among has).from in
      let same = length-map hops managed_link in
      let made = makes_few (own_link es) (live_of links) in
      let live = keeps_few (λ (l : Link). l.live) links in
      record {
        address = small_address members plans laid m among;
        name = named m among;
        node = node_named m (named m among);
        items = held_short is_static m;
        few = begun_few enrolled (map managed_link hops) (omega (arith, same, made, live, fits));
        ranges = λ l has. (
            let r = contains_unmap managed_link hops l (begun_links enrolled (map managed_link hops) l has) in
            subst (λ (x : Managed). IsLinkInRange x) r.2 (claim_ranged m.addr r.0 (can_claim members plans laid m (edge_to m.addr r.0) among (own_within m.addr es (live_of links) r.0 from r.1))));
        waiting = none_short;
      }
