-- What the members of a DIF keep, and what waits at them, after what happens to the managements.
use Rattle.std.proofs.Common.{◌≡◌, ◌∙◌, inl, inr, ⊎_elim, ℕ, List, Contains, map, option_map, slice_get, slice_set, Option, Some, None, refl, sym, ap, subst}
use Rattle.std.proofs.lemmas.List.Elements.{Contains-push_cases}
use Rattle.std.proofs.lemmas.Option.{slice_get-map}
use Rattle.rina_iface.proofs.Changed.{set_at}
use Rattle.rina_newest.specs.declared.item.Item.{Item}
use Rattle.rina_alloc.specs.declared.message.FlowMessage.{FlowMessage}
use Rattle.rina_agent.specs.declared.agent.Agent.{Agent}
use Rattle.rina_agent.specs.declared.message.ManagementMessage.TheVariants.{ToMember}
use Rattle.rina_agent.specs.declared.message.Waiting.{Waiting}
use Rattle.rina_flood.specs.Network.{carried}
use Rattle.rina_route.proofs.Lists.{in_none}
use Rattle.rina_member.specs.declared.management.Management.{Management}
use Rattle.rina_member.specs.Managements.{entered, entry_of, takes_item, with_flow, without_flow}
use Rattle.rina_dif.specs.declared.dif.Dif.{Dif}
use Rattle.rina_dif.specs.Allocating.{way}
use Rattle.rina_dif.specs.Changing.{changed_at, changed_if, with_flow_at, without_flow_at}
use Rattle.rina_dif.specs.Managing.{agents_of}
use Rattle.rina_dif.specs.Posting.{posted, posts, with_message}
use Rattle.rina_dif.proofs.Bare.{map_at}
use Rattle.rina_known.proofs.Agents.{IsGood, OwnAre, takes_good}

module _ (G : Item → Type 0) (own : OwnAre G) where
  -- so it is of each member
  abbrev pub AreGood : List Management → Type 0
  AreGood ms = (k : ℕ) (m : Management) → slice_get ms k ≡ Some m → IsGood G m.agent

  pub good_same : (ms ms' : List Management) → ms' ≡ ms → AreGood ms → AreGood ms'
  good_same ms ms' same good = subst AreGood (sym same) good

  -- One member

  pub good_set : (ms : List Management) (i : ℕ) (m m' : Management) → slice_get ms i ≡ Some m → (IsGood G m.agent → IsGood G m'.agent) → AreGood ms → AreGood (slice_set ms i m')
  good_set ms i m m' is keeps good k z at = elim (set_at ms i k m m' z is at) [
    | inl t ↦ subst (λ (x : Management). IsGood G x.agent) (sym t.1) (keeps (good i m is))
    | inr u ↦ good k z u.1
  ]

  changed_by : (o : Option Management) (at : ℕ) (f : Management → Management) (ms : List Management) → slice_get ms at ≡ o → ((m : Management) → IsGood G m.agent → IsGood G (f m).agent) → AreGood ms → AreGood (changed_if o at f ms)
  changed_by None at f ms is keeps good = good
  changed_by (Some m) at f ms is keeps good = good_set ms at m (f m) is (keeps m) good

  pub good_changed : (at : ℕ) (f : Management → Management) (ms : List Management) → ((m : Management) → IsGood G m.agent → IsGood G (f m).agent) → AreGood ms → AreGood (changed_at at f ms)
  good_changed at f ms = changed_by (slice_get ms at) at f ms refl

  -- Objects alone

  pub good_shown : (at cep : ℕ) (ms : List Management) → AreGood ms → AreGood (with_flow_at at cep ms)
  good_shown at cep ms = good_changed at (λ m. with_flow m cep) ms (λ m g. g)

  pub good_hidden : (at cep : ℕ) (ms : List Management) → AreGood ms → AreGood (without_flow_at at cep ms)
  good_hidden at cep ms = good_changed at (λ m. without_flow m cep) ms (λ m g. g)

  -- the agents stay
  pub good_agents : (ms ms' : List Management) → agents_of ms' ≡ agents_of ms → AreGood ms → AreGood ms'
  good_agents ms ms' same good k m is =
      let there : slice_get (agents_of ms) k ≡ Some m.agent = ap (λ (gs : List Agent). slice_get gs k) (sym same) ∙ slice_get-map (λ (z : Management). z.agent) ms' k ∙ ap (option_map (λ (z : Management). z.agent)) is in
      let old = map_at (λ (z : Management). z.agent) ms k m.agent there in
      subst (IsGood G) old.2 (good k old.0 old.1)

  -- All members take an entry

  entered_agent : (app : List ℕ) (address : ℕ) (m : Management) → (entered app address m).agent ≡ takes_item m.agent (entry_of app address)
  unfolding entered
  entered_agent app address m = refl

  pub good_entered : (app : List ℕ) (address : ℕ) (ms : List Management) → G (entry_of app address) → AreGood ms → AreGood (map (entered app address) ms)
  good_entered app address ms entry good k m is =
      let old = map_at (entered app address) ms k m is in
      subst (λ (z : Management). IsGood G z.agent) old.2 (subst (IsGood G) (sym (entered_agent app address old.0)) (takes_good G own old.0.agent (entry_of app address) entry (good k old.0 old.1)))

  -- A message about a flow is posted

  with_good : (m : Management) (link : ℕ) (message : FlowMessage) → IsGood G m.agent → IsGood G (with_message m link message).agent
  with_good m link message g = record {
    kept = g.kept;
    waits = λ w has x its. ⊎_elim (λ old. g.waits w old x its) (λ same. absurd (in_none x (subst (λ (z : Waiting). Contains (carried z.message) x) (sym same) its))) (Contains-push_cases m.agent.agenda (record { link = link; message = ToMember message }) w has);
  }

  posted_by : (at : ℕ) (o : Option ℕ) (message : FlowMessage) (ms : List Management) → AreGood ms → AreGood (posted at o message ms)
  posted_by at None message ms good = good
  posted_by at (Some link) message ms good = good_changed at (λ m. with_message m link message) ms (λ m g. with_good m link message g) good

  pub good_posted : (d : Dif) (at : ℕ) (message : FlowMessage) (ms : List Management) → AreGood ms → AreGood (posts d at message ms)
  good_posted d at message = posted_by at (way d at message.to) message
