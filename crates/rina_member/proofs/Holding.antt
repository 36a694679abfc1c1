-- What a member holds apart from the claims of its own links, and what its items claim once it made its link state.
use Rattle.std.proofs.Common.{◌≡◌, ◌∙◌, inl, inr, ⊎_elim, ℕ, ◌^◌, ◌<◌, ◌≤◌, Bool, true, false, cond, not, List, ◌++◌, Option, Some, None, Contains, map, filter, refl, sym, ap, subst, arith}
use Rattle.std.specs.Prelude.{◌↔◌, option_map}
use Rattle.std.specs.List.{filter_map}
use Rattle.std.proofs.lemmas.Bool.{cases_Bool, ne_eqb, true≢false}
use Rattle.std.proofs.lemmas.List.Elements.{Contains-append_cases, Contains-append_left, Contains-append_right, Contains-push_cases}
use Rattle.std.proofs.lemmas.Option.{same_Some}
use Rattle.rina_cdap.specs.Messages.{IfThere}
use Rattle.rina_graph.specs.declared.graph.Edge.{Edge}
use Rattle.rina_newest.specs.declared.item.Item.{Item}
use Rattle.rina_newest.specs.Newest.{has_key, is_newer, kept_at, taken, without}
use Rattle.rina_route.specs.declared.link.Link.{Link as Hop}
use Rattle.rina_route.specs.Routes.{claims_of}
use Rattle.rina_route.specs.Written.{IsClaim}
use Rattle.rina_route.proofs.Lists.{contains_filter, contains_unmap}
use Rattle.rina_agent.specs.declared.agent.Agent.{Agent}
use Rattle.rina_agent.specs.declared.link.Link.{Link as Managed}
use Rattle.rina_agent.specs.declared.neighbours.Neighbour.{Neighbour}
use Rattle.rina_agent.specs.Agenda.{is_flooded}
use Rattle.rina_agent.specs.Counts.{next_of, spent}
use Rattle.rina_agent.specs.Items.{made, own_item, own_version, stated}
use Rattle.rina_agent.specs.Neighbours.{link_key, link_state, neighbour, neighbour_of}
use Rattle.rina_member.specs.Knowing.{ClaimLinks, IsItemKey, KeepsOtherClaims, all_claims, hops_of}
use Rattle.rina_member.specs.Routing.{edge_to}
use Rattle.rina_member.specs.Short.{IsLinkInRange}
use Rattle.rina_member.proofs.Counting.{counts_on, newer_by}
use Rattle.rina_member.proofs.Hops.{Within}
use Rattle.rina_member.proofs.Items.{claimed_from, from_taken, is_foreign, key_itself, key_same, not_foreign, restated_within, taken_new, within_restated}
use Rattle.rina_member.proofs.Keeping.{kept_still, stays}
use Rattle.rina_member.proofs.Lists.{found, from_flat, into_flat, kept, made_of}
use Rattle.rina_member.proofs.States.{edge_by, edges_out, out_edges, state_of, state_within, stays_in, within_state}

-- the member of an address knows that; its links are in range; it keeps member items, link states and directory entries alone; and it made its
-- own link state no later than now, as the last of its items at the latest
pub record IsHolding (own now : ℕ) (g : Agent) : Type 0 where
  pub address : g.address ≡ own
  pub fits : own < 2 ^ 32
  pub ranges : (l : Managed) → Contains g.links l → IsLinkInRange l
  pub keys : (item : Item) → Contains g.items item → IsItemKey item.key
  pub past : (item : Item) → kept_at g.items (link_key own) ≡ Some item → (item.version.tick ≤ now) × (item.version.count ≤ g.last_count)

-- An item of another key than that of the own link state is taken

module _ (own : ℕ) (items : List Item) (x : Item) (keys : (z : Item) → Contains items z → IsItemKey z.key) (key : IsItemKey x.key) (other : x.key ≡ link_key own → ⊥) where
  -- from the own address the items claim what they claimed
  pub other_own : (e : Edge) → e.from ≡ own → Contains (all_claims (taken items x)) e ↔ Contains (all_claims items) e
  other_own e from = (
    (λ has. (
        let r = from_flat claims_of (taken items x) e has in
        ⊎_elim
        (λ old. into_flat claims_of items r.0 e old r.2)
        (λ same. absurd (other ((claimed_from x e key (subst (λ (z : Item). Contains (claims_of z) e) (sym same) r.2)).0 ∙ ap (λ (a : ℕ). link_key a) from)))
        (from_taken items x r.0 r.1))),
    (λ has. (
        let r = from_flat claims_of items e has in
        let named = claimed_from r.0 e (keys r.0 r.1) r.2 in
        into_flat claims_of (taken items x) r.0 e (stays items x r.0 r.1 (λ same. other (same ∙ named.0 ∙ ap (λ (a : ℕ). link_key a) from))) r.2)),
  )

  pub other_claims : (links : List Hop) → ClaimLinks items own links → ClaimLinks (taken items x) own links
  other_claims links h e from = (
    (λ has. (h e from).0 ((other_own e from).0 has)),
    (λ has. (other_own e from).1 ((h e from).1 has)),
  )

  pub other_keys : (z : Item) → Contains (taken items x) z → IsItemKey z.key
  other_keys z has = ⊎_elim (λ old. keys z old) (λ same. subst (λ (y : Item). IsItemKey y.key) same key) (from_taken items x z has)

  pub other_state : kept_at (taken items x) (link_key own) ≡ kept_at items (link_key own)
  other_state = kept_still items x (link_key own) (⊎_elim (λ same. absurd (other (sym (key_same (link_key own) x.key same)))) (λ apart. apart) (cases_Bool (has_key (link_key own) x)))

-- where the member made it
pub made_holding : (own now : ℕ) (g : Agent) (key : List ℕ) (value : Option (List ℕ)) → IsHolding own now g → spent 1 g.last_count ≡ None → IsItemKey key → (key ≡ link_key own → ⊥) → IsHolding own now (made None g now key value)
made_holding own now g key value h may is other =
    let x = own_item g now key value in
    record {
      address = h.address;
      fits = h.fits;
      ranges = h.ranges;
      keys = other_keys own g.items x h.keys is other;
      past = λ item at. (
          let r = h.past item (sym (other_state own g.items x h.keys is other) ∙ at) in
          let more = counts_on g.last_count may in
          (r.0, omega (arith, r.1, more)));
    }

-- A link state can name each neighbour

peer_claim : (own weight : ℕ) (peer : Option ℕ) (b : Bool) (z : Neighbour) → IfThere peer (2 ^ 32) → 1 ≤ weight → weight ≤ 65535 → cond b (option_map (neighbour weight) peer) None ≡ Some z → IsClaim own (edge_by own z)
peer_claim own weight None true z small least most is = absurd cc
peer_claim own weight (Some address) true z small least most is =
    let same : neighbour weight address ≡ z = same_Some (neighbour weight address) z is in
    subst (λ (n : Neighbour). IsClaim own (edge_by own n)) same (record { from = refl; to = small; least = least; weight = most })
peer_claim own weight peer false z small least most is = absurd cc

neighbour_claim : (own : ℕ) (out : Option ℕ) (l : Managed) (z : Neighbour) → IsLinkInRange l → neighbour_of out l ≡ Some z → IsClaim own (edge_by own z)
unfolding neighbour_of
neighbour_claim own out l z h is = peer_claim own l.weight l.peer (is_flooded out l) z h.peer h.least h.weight is

-- The member made its link state, with or without one of its links

module _ (own now : ℕ) (g : Agent) (out : Option ℕ) (h : IsHolding own now g) (may : spent 1 g.last_count ≡ None) where
  abbrev state : Item
  state = own_item g now (link_key g.address) (Some (link_state out g.links))

  abbrev items' : List Item
  items' = taken g.items state

  abbrev named : List Hop
  named = filter (stays_in out) (hops_of g.links)

  state_key : state.key ≡ link_key own
  state_key = ap (λ (a : ℕ). link_key a) h.address

  state_newer : is_newer state.version (kept_at g.items state.key) ≡ true
  state_newer = newer_by now (next_of g.last_count) g.address (kept_at g.items state.key) (λ it is. (
      let r = h.past it (ap (λ (key : List ℕ). kept_at g.items key) (sym state_key) ∙ is) in
      let more = counts_on g.last_count may in
      (r.0, omega (arith, r.1, more))))

  state_claims : claims_of state ≡ state_of own (own_version g now) out g.links
  state_claims = ap (λ (a : ℕ). claims_of (record { key = link_key a; version = own_version g now; value = Some (link_state out g.links) })) h.address

  out_fits : (e : Edge) → Contains (edges_out own out g.links) e → IsClaim own e
  out_fits e has =
      let r = contains_unmap (edge_by own) (filter_map (neighbour_of out) g.links) e has in
      let s = made_of (neighbour_of out) g.links r.0 r.1 in
      subst (λ (x : Edge). IsClaim own x) r.2 (neighbour_claim own out s.0 r.0 (h.ranges s.0 s.1) s.2)

  state_named : Within (claims_of state) (map (edge_to own) named)
  state_named e has = subst (λ (es : List Edge). Contains es e) (out_edges own out g.links)
      (state_within own (own_version g now) out g.links h.fits out_fits e (subst (λ (es : List Edge). Contains es e) state_claims has))

  named_state : Within (map (edge_to own) named) (claims_of state)
  named_state e has = subst (λ (es : List Edge). Contains es e) (sym state_claims)
      (within_state own (own_version g now) out g.links h.fits out_fits e (subst (λ (es : List Edge). Contains es e) (sym (out_edges own out g.links)) has))

  abbrev foreign_claims : List Edge
  foreign_claims = filter (is_foreign own) (all_claims g.items)

  restated : Within (all_claims items') (foreign_claims ++ claims_of state)
  restated = restated_within own g.items state h.fits h.keys state_key state_newer

  restating : Within (foreign_claims ++ claims_of state) (all_claims items')
  restating = within_restated own g.items state h.fits h.keys state_key state_newer

  -- from its own address its items claim the neighbours that this names
  pub stated_own : ClaimLinks items' own named
  stated_own e from = (
    (λ has. ⊎_elim
        (λ other. absurd (not_foreign own e from (contains_filter (is_foreign own) (all_claims g.items) e other).1))
        (λ mine. state_named e mine)
        (Contains-append_cases foreign_claims (claims_of state) e (restated e has))),
    (λ mine. restating e (Contains-append_right foreign_claims (claims_of state) e (named_state e mine))),
  )

  -- and from the others what they claimed
  pub stated_others : KeepsOtherClaims own g.items items'
  stated_others e apart = (
    (λ has. ⊎_elim
        (λ other. (contains_filter (is_foreign own) (all_claims g.items) e other).0)
        (λ mine. (let s = contains_unmap (edge_to own) named e (state_named e mine) in absurd (apart (sym (ap (λ (x : Edge). x.from) s.2)))))
        (Contains-append_cases foreign_claims (claims_of state) e (restated e has))),
    (λ has. restating e (Contains-append_left foreign_claims (claims_of state) e (kept (is_foreign own) (all_claims g.items) e has (ap not (ne_eqb e.from own apart))))),
  )

  stated_keys : (z : Item) → Contains items' z → IsItemKey z.key
  stated_keys z has = ⊎_elim
      (λ old. h.keys z old)
      (λ same. subst (λ (x : Item). IsItemKey x.key) same (inl (own, h.fits, inr state_key)))
      (from_taken g.items state z has)

  stated_past : (z : Item) → kept_at items' (link_key own) ≡ Some z → (z.version.tick ≤ now) × (z.version.count ≤ next_of g.last_count)
  stated_past z is =
      let r = found (has_key (link_key own)) items' z is in
      let others : List Item = without state.key g.items in
      ⊎_elim
      (λ old. (
      let test = (contains_filter (λ item. not (has_key state.key item)) g.items z old).1 in
      let has : has_key state.key z ≡ true = key_itself state.key z.key (state_key ∙ key_same (link_key own) z.key r.1) in
      absurd (true≢false (sym test ∙ ap not has))))
      (λ same. subst (λ (x : Item). (x.version.tick ≤ now) × (x.version.count ≤ next_of g.last_count)) same (omega arith, omega arith))
      (Contains-push_cases others state z (subst (λ (is : List Item). Contains is z) (taken_new g.items state state_newer) r.0))

  pub stated_holding : IsHolding own now (stated out g now)
  stated_holding = record {
    address = h.address;
    fits = h.fits;
    ranges = h.ranges;
    keys = stated_keys;
    past = stated_past;
  }
