-- What a member knows once it took or made a directory entry.
use Rattle.std.proofs.Common.{◌≡◌, ◌∙◌, inr, ⊎_elim, ℕ, List, Option, None, Contains, refl, sym, subst}
use Rattle.std.specs.List.{flat_map}
use Rattle.rina_graph.specs.declared.graph.Edge.{Edge}
use Rattle.rina_newest.specs.declared.item.Item.{Item}
use Rattle.rina_newest.specs.Newest.{taken}
use Rattle.rina_route.specs.Routes.{claims_of}
use Rattle.rina_route.proofs.Lists.{in_none}
use Rattle.rina_agent.specs.declared.agent.Agent.{Agent}
use Rattle.rina_agent.specs.Counts.{spent}
use Rattle.rina_agent.specs.Items.{made, own_item}
use Rattle.rina_agent.specs.Neighbours.{link_key}
use Rattle.rina_dir.specs.Directory.{key_of}
use Rattle.rina_data.specs.declared.link.Link.{Link}
use Rattle.rina_data.specs.declared.link.Route.{Route}
use Rattle.rina_data.specs.declared.settings.Member.{Member}
use Rattle.rina_member.specs.Knowing.{AreRoutesOf, IsItemKey, Knows, hops_of}
use Rattle.rina_member.specs.Managements.{entry_of, takes_item}
use Rattle.rina_member.proofs.Holding.{made_holding, other_claims, other_keys, other_state}
use Rattle.rina_member.proofs.Hops.{Within, same_hops}
use Rattle.rina_member.proofs.Items.{claimed_from, entry_claims, entry_not_link, from_taken}
use Rattle.rina_member.proofs.Keeping.{stays}
use Rattle.rina_member.proofs.Lists.{from_flat, into_flat}
use Rattle.rina_member.proofs.Losing.{holding_of}

-- it knows what it knew where it took one

pub enters : (now : ℕ) (m : Member) (links : List Link) (g : Agent) (app : List ℕ) (address : ℕ) → Knows now m links g → Knows now m links (takes_item g (entry_of app address))
enters now m links g app address h =
    let x : Item = entry_of app address in
    let other : x.key ≡ link_key m.addr → ⊥ = λ same. entry_not_link app m.addr same in
    record {
      address = h.address;
      fits = h.fits;
      apart = h.apart;
      numbers = h.numbers;
      ranges = h.ranges;
      own = other_claims m.addr g.items x h.keys (inr (app, refl)) other (hops_of g.links) h.own;
      keys = other_keys m.addr g.items x h.keys (inr (app, refl)) other;
      past = λ item is. h.past item (sym (other_state m.addr g.items x h.keys (inr (app, refl)) other) ∙ is);
    }

-- and made one

pub makes_knowing : (now : ℕ) (m : Member) (links : List Link) (g : Agent) (app : List ℕ) (value : Option (List ℕ)) → spent 1 g.last_count ≡ None → Knows now m links g → Knows now m links (made None g now (key_of app) value)
makes_knowing now m links g app value may h =
    let x : Item = own_item g now (key_of app) value in
    let other : x.key ≡ link_key m.addr → ⊥ = λ same. entry_not_link app m.addr same in
    let after = made_holding m.addr now g (key_of app) value (holding_of now m links g h) may (inr (app, refl)) other in
    record {
      address = h.address;
      fits = h.fits;
      apart = h.apart;
      numbers = h.numbers;
      ranges = h.ranges;
      own = other_claims m.addr g.items x h.keys (inr (app, refl)) other (hops_of g.links) h.own;
      keys = after.keys;
      past = after.past;
    }

-- Its next hops are those that they were

module _ (items : List Item) (entry : Item) (app : List ℕ) (key_is : entry.key ≡ key_of app) (keys : (z : Item) → Contains items z → IsItemKey z.key) where
  -- the items claim the edges that they claimed
  entered_within : Within (flat_map claims_of (taken items entry)) (flat_map claims_of items)
  entered_within e has =
      let r = from_flat claims_of (taken items entry) e has in
      ⊎_elim
      (λ old. into_flat claims_of items r.0 e old r.2)
      (λ same. absurd (in_none e (subst (λ (es : List Edge). Contains es e) (entry_claims entry app key_is) (subst (λ (z : Item). Contains (claims_of z) e) (sym same) r.2))))
      (from_taken items entry r.0 r.1)

  within_entered : Within (flat_map claims_of items) (flat_map claims_of (taken items entry))
  within_entered e has =
      let r = from_flat claims_of items e has in
      let link = (claimed_from r.0 e (keys r.0 r.1) r.2).0 in
      into_flat claims_of (taken items entry) r.0 e (stays items entry r.0 r.1 (λ same. entry_not_link app e.from (sym key_is ∙ same ∙ link))) r.2

pub routes_stay : (members : List Member) (routes : List Route) (g : Agent) (app : List ℕ) (address : ℕ) → ((z : Item) → Contains g.items z → IsItemKey z.key) → AreRoutesOf g members routes → AreRoutesOf (takes_item g (entry_of app address)) members routes
routes_stay members routes g app address keys are = record {
  rows = are.rows;
  hops = same_hops g.address (hops_of g.links) (flat_map claims_of g.items) (flat_map claims_of (taken g.items (entry_of app address))) are.rows (within_entered g.items (entry_of app address) app refl keys) (entered_within g.items (entry_of app address) app refl keys) are.hops;
  are = are.are;
}

pub made_routes : (members : List Member) (routes : List Route) (g : Agent) (now : ℕ) (app : List ℕ) (value : Option (List ℕ)) → ((z : Item) → Contains g.items z → IsItemKey z.key) → AreRoutesOf g members routes → AreRoutesOf (made None g now (key_of app) value) members routes
made_routes members routes g now app value keys are =
    let x = own_item g now (key_of app) value in
    record {
      rows = are.rows;
      hops = same_hops g.address (hops_of g.links) (flat_map claims_of g.items) (flat_map claims_of (taken g.items x)) are.rows (within_entered g.items x app refl keys) (entered_within g.items x app refl keys) are.hops;
      are = are.are;
    }
