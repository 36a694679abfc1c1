-- What holds of the managements of a DIF stays as it takes a step, and what follows of its next hops.
use Rattle.std.proofs.Common.{◌≡◌, ◌∙◌, ℕ, ◌<◌, ◌≤◌, Bool, true, false, List, [], ◌∷◌, length, slice_get, slice_set, Option, Some, None, option_map, Ok, refl, sym, ap, subst, arith, inl, inr, length-set}
use Rattle.std.specs.Prelude.{Contains}
use Rattle.std.proofs.lemmas.List.{length-map, map-set}
use Rattle.std.proofs.lemmas.Option.{get_or_from_slice_get, same_Some, slice_get-map, slice_get_within}
use Rattle.rina_iface.proofs.Changed.{set_at, slice_set-same}
use Rattle.rina_member.specs.declared.management.Management.{Management}
use Rattle.rina_agent.specs.Rows.{lost as loses_link}
use Rattle.rina_plan.specs.declared.dif.LinkPlan.{LinkPlan}
use Rattle.rina_data.specs.declared.link.Link.{Link}
use Rattle.rina_data.specs.declared.link.Route.{Route}
use Rattle.rina_data.specs.declared.process.IpcProcess.{IpcProcess}
use Rattle.rina_data.specs.declared.settings.Member.{Member}
use Rattle.rina_data.proofs.Finding.{there}
use Rattle.rina_graph.specs.declared.graph.Edge.{Edge}
use Rattle.rina_route.specs.declared.link.Link.{Link as Hop}
use Rattle.rina_member.specs.Knowing.{AreRoutesOf, IsPlanned, Knows, all_claims, hops_of}
use Rattle.rina_member.specs.Routing.{AreRoutesOver}
use Rattle.rina_member.specs.Short.{TellsShort}
use Rattle.rina_member.proofs.Knowing.{knows_later, knows_routes}
use Rattle.rina_member.proofs.Losing.{loses}
use Rattle.rina_member.proofs.Planned.{loses_planned, planned_hops}
use Rattle.rina_agent.specs.declared.agent.Agent.{Agent}
use Rattle.rina_member.specs.Managements.{without_flow, without_flows}
use Rattle.rina_dif.specs.declared.dif.Dif.{Dif}
use Rattle.rina_dif.specs.Changing.{changed_at, changed_if}
use Rattle.rina_dif.specs.Managing.{AreBounded, AreManagedBy, IsManaged, agents_of}
use Rattle.rina_dif.specs.Routing.{HaveRoutes}
use Rattle.rina_member.proofs.Tells.{lost_short}

-- the management of a member
pub its_agent : (members : List Member) (managements : List Management) (k : ℕ) (m : Member) → length managements ≡ length members → slice_get members k ≡ Some m → (g : Management) × (slice_get managements k ≡ Some g)
its_agent members managements k m aligned is =
    let within = slice_get_within members k m is in
    there managements k (omega (arith, within, aligned))

pub is_among : {X : Type 0} (xs : List X) (k : ℕ) (x : X) → slice_get xs k ≡ Some x → Contains xs x
is_among xs k x is = (k, slice_get_within xs k x is, get_or_from_slice_get xs k x x is)

-- its next hops are over its live links and what its items claim
pub managed_routed : (is_static : Bool) (members : List Member) (plans : List LinkPlan) (now : ℕ) (ps : List IpcProcess) (managements : List Management) → AreManagedBy is_static members plans now ps managements → HaveRoutes is_static members plans ps managements
managed_routed is_static members plans now ps managements h k m p g is here at = (let one = h.each k m p g is here at in (knows_routes now m p.links g.agent members p.routes one.knows one.routes, λ still. planned_hops members plans m now p.links g.agent (one.planned still) one.knows))

-- whatever these claim
pub routed_at : (is_static : Bool) (members : List Member) (plans : List LinkPlan) (now : ℕ) (ps : List IpcProcess) (managements : List Management) (k : ℕ) (m : Member) (p : IpcProcess) → AreManagedBy is_static members plans now ps managements → slice_get members k ≡ Some m → slice_get ps k ≡ Some p
    → (hops : List Hop) × (claimed : List Edge) × AreRoutesOver m.addr hops claimed members p.routes
routed_at is_static members plans now ps managements k m p h is here = (let g = its_agent members managements k m h.aligned is in (hops_of g.0.agent.links, all_claims g.0.agent.items, (managed_routed is_static members plans now ps managements h k m p g.0 is here g.1).0))

-- time goes on
pub managed_later : (is_static : Bool) (members : List Member) (plans : List LinkPlan) (now now' : ℕ) (ps : List IpcProcess) (managements : List Management) → now ≤ now' → AreManagedBy is_static members plans now ps managements → AreManagedBy is_static members plans now' ps managements
managed_later is_static members plans now now' ps managements le h = record {
  laid_out = h.laid_out;
  aligned = h.aligned;
  each = λ k m p g is here at. (let one = h.each k m p g is here at in record { knows = knows_later now now' m p.links g.agent le one.knows; planned = one.planned; bounded = one.bounded; routes = one.routes; tells = one.tells });
}

-- One IPC process changes

moved : (is_static : Bool) (members : List Member) (plans : List LinkPlan) (now : ℕ) (m : Member) (p p' : IpcProcess) (g : Management) → p'.links ≡ p.links → p'.routes ≡ p.routes → IsManaged is_static members plans now m p g → IsManaged is_static members plans now m p' g
moved is_static members plans now m p p' g links routes h = record {
  knows = subst (λ (ls : List Link). Knows now m ls g.agent) (sym links) h.knows;
  planned = λ still. subst (λ (ls : List Link). IsPlanned members plans m ls g.agent) (sym links) (h.planned still);
  bounded = subst AreBounded (sym links) h.bounded;
  routes = subst (λ (rs : List Route). AreRoutesOf g.agent members rs) (sym routes) h.routes;
  tells = h.tells;
}

-- its links and next hops are those that were there
pub managed_set : (is_static : Bool) (members : List Member) (plans : List LinkPlan) (now : ℕ) (ps : List IpcProcess) (managements : List Management) (at : ℕ) (p p' : IpcProcess) → slice_get ps at ≡ Some p → p'.links ≡ p.links → p'.routes ≡ p.routes → AreManagedBy is_static members plans now ps managements → AreManagedBy is_static members plans now (slice_set ps at p') managements
managed_set is_static members plans now ps managements at p p' is links routes h = record {
  laid_out = h.laid_out;
  aligned = h.aligned;
  each = λ k m q g is_m here at_k. elim (set_at ps at k p p' q is here) [
    | inl t ↦
        (let was : IsManaged is_static members plans now m p g = h.each at m p g (ap (slice_get members) (sym t.0) ∙ is_m) is (ap (slice_get managements) (sym t.0) ∙ at_k) in
        subst (λ (z : IpcProcess). IsManaged is_static members plans now m z g) (sym t.1) (moved is_static members plans now m p p' g links routes was))
    | inr u ↦ h.each k m q g is_m u.1 at_k
  ];
}

-- Objects change

-- each member is managed as before where its management has other objects alone
pub managed_shown : (is_static : Bool) (members : List Member) (plans : List LinkPlan) (now : ℕ) (ps : List IpcProcess) (old new : List Management) → agents_of new ≡ agents_of old → AreManagedBy is_static members plans now ps old → AreManagedBy is_static members plans now ps new
managed_shown is_static members plans now ps old new same h = record {
  laid_out = h.laid_out;
  aligned = sym (length-map new (λ (m : Management). m.agent)) ∙ ap (λ (gs : List Agent). length gs) same ∙ length-map old (λ (m : Management). m.agent) ∙ h.aligned;
  each = λ k m p g is_m is_p is_g.
      let was = its_agent members old k m h.aligned is_m in
      let before : slice_get (agents_of old) k ≡ Some was.0.agent = slice_get-map (λ (z : Management). z.agent) old k ∙ ap (option_map (λ (z : Management). z.agent)) was.1 in
      let after : slice_get (agents_of new) k ≡ Some g.agent = slice_get-map (λ (z : Management). z.agent) new k ∙ ap (option_map (λ (z : Management). z.agent)) is_g in
      let agent : was.0.agent ≡ g.agent = same_Some was.0.agent g.agent (sym before ∙ ap (λ (gs : List Agent). slice_get gs k) (sym same) ∙ after) in
      let one = h.each k m p was.0 is_m is_p was.1 in
      record {
        knows = subst (λ (a : Agent). Knows now m p.links a) agent one.knows;
        planned = λ still. subst (λ (a : Agent). IsPlanned members plans m p.links a) agent (one.planned still);
        bounded = one.bounded;
        routes = subst (λ (a : Agent). AreRoutesOf a members p.routes) agent one.routes;
        tells = subst (λ (a : Agent). TellsShort a) agent one.tells;
      };
}

-- one member changes its objects alone
changed_agents_if : (o : Option Management) (at : ℕ) (f : Management → Management) (ms : List Management) → slice_get ms at ≡ o → ((m : Management) → (f m).agent ≡ m.agent) → agents_of (changed_if o at f ms) ≡ agents_of ms
changed_agents_if None at f ms is same = refl
changed_agents_if (Some m) at f ms is same =
    let there : slice_get (agents_of ms) at ≡ Some (f m).agent = slice_get-map (λ (z : Management). z.agent) ms at ∙ ap (option_map (λ (z : Management). z.agent)) is ∙ ap (λ (a : Agent). Some a) (sym (same m)) in
    map-set (λ (z : Management). z.agent) ms at (f m) ∙ slice_set-same (agents_of ms) at (f m).agent there

pub changed_agents : (at : ℕ) (f : Management → Management) (ms : List Management) → ((m : Management) → (f m).agent ≡ m.agent) → agents_of (changed_at at f ms) ≡ agents_of ms
changed_agents at f ms same = changed_agents_if (slice_get ms at) at f ms refl same

-- and so it is once several flows have ended
pub ended_agent : (m : Management) (ceps : List ℕ) → (without_flows m ceps).agent ≡ m.agent
ended_agent m [] = refl
ended_agent m (cep ∷ ceps) = ended_agent (without_flow m cep) ceps

-- A link is lost

-- the management of the member at a place after it lost its link of a number now, whatever became of its objects
abbrev pub IsWithout : Dif → ℕ → ℕ → Management → Type 0
IsWithout d at number after = (g : Management) → slice_get d.managements at ≡ Some g → loses_link g.agent d.clock number ≡ Ok after.agent

-- what is known of the loss of the link at a place of a member, whose management was g and is g'
pub record IsLoss (now : ℕ) (members : List Member) (g g' : Management) (link : Link) (hops : List Route) : Type 0 where
  pub loses : loses_link g.agent now link.number ≡ Ok g'.agent
  pub routes : AreRoutesOf g'.agent members hops

-- it knows the links that are left
pub loses_managed : (is_static : Bool) (members : List Member) (plans : List LinkPlan) (now : ℕ) (ps : List IpcProcess) (managements : List Management) (at : ℕ) (m : Member) (p : IpcProcess) (g g' : Management) (place : ℕ) (link : Link) (routes : List Route) → AreManagedBy is_static members plans now ps managements
    → slice_get members at ≡ Some m → slice_get ps at ≡ Some p → slice_get managements at ≡ Some g → slice_get p.links place ≡ Some link → link.live ≡ true → IsLoss now members g g' link routes → Knows now m (slice_set p.links place (record link { live = false })) g'.agent
loses_managed is_static members plans now ps managements at m p g g' place link routes h is_m is_p is_g stands live loss =
    (loses now m p.links g.agent place link (h.each at m p g is_m is_p is_g).knows stands live g'.agent loss.loses).0

pub same_some : {X : Type 0} (xs : List X) (k : ℕ) (a b : X) → slice_get xs k ≡ Some a → slice_get xs k ≡ Some b → a ≡ b
same_some xs k a b h f = cc

-- its number is as before
lost_bounded : (links : List Link) (place : ℕ) (link : Link) → slice_get links place ≡ Some link → AreBounded links → AreBounded (slice_set links place (record link { live = false }))
lost_bounded links place link stands h = λ k l is. elim (set_at links place k link (record link { live = false }) l stands is) [
  | inl t ↦ subst (λ (x : Link). x.number < 16) (sym t.1) (h place link stands)
  | inr u ↦ h k l u.1
]

-- and the others are managed as before
pub managed_lost : (is_static : Bool) (members : List Member) (plans : List LinkPlan) (now : ℕ) (ps : List IpcProcess) (managements : List Management) (at : ℕ) (m : Member) (p p' : IpcProcess) (g g' : Management) (place : ℕ) (link : Link) (routes : List Route) → AreManagedBy is_static members plans now ps managements
    → slice_get members at ≡ Some m → slice_get ps at ≡ Some p → slice_get managements at ≡ Some g → slice_get p.links place ≡ Some link → link.live ≡ true → IsLoss now members g g' link routes
    → p'.links ≡ slice_set p.links place (record link { live = false }) → p'.routes ≡ routes → AreManagedBy is_static members plans now (slice_set ps at p') (slice_set managements at g')
managed_lost is_static members plans now ps managements at m p p' g g' place link routes h is_m is_p is_g stands live loss links_are routes_are =
    let was : IsManaged is_static members plans now m p g = h.each at m p g is_m is_p is_g in
    let knows = loses_managed is_static members plans now ps managements at m p g g' place link routes h is_m is_p is_g stands live loss in
    let after : IsManaged is_static members plans now m p' g' = record {
      knows = subst (λ (ls : List Link). Knows now m ls g'.agent) (sym links_are) knows;
      planned = λ still. subst (λ (ls : List Link). IsPlanned members plans m ls g'.agent) (sym links_are) (loses_planned members plans now m p.links g.agent g'.agent place link was.knows (was.planned still) stands live loss.loses);
      bounded = subst AreBounded (sym links_are) (lost_bounded p.links place link stands was.bounded);
      routes = subst (λ (rs : List Route). AreRoutesOf g'.agent members rs) (sym routes_are) loss.routes;
      tells = lost_short g.agent g'.agent now link.number was.tells loss.loses;
    } in
    record {
      laid_out = h.laid_out;
      aligned = length-set managements at g' ∙ h.aligned;
      each = λ k x q y is_x is_q is_y. elim (set_at ps at k p p' q is_p is_q) [
        | inl t ↦ elim (set_at managements at k g g' y is_g is_y) [
          | inl s ↦
              (let member : x ≡ m = same_some members at x m (ap (slice_get members) (sym t.0) ∙ is_x) is_m in
              subst (λ (z : Member). IsManaged is_static members plans now z q y) (sym member) (subst (λ (z : IpcProcess). IsManaged is_static members plans now m z y) (sym t.1) (subst (λ (z : Management). IsManaged is_static members plans now m p' z) (sym s.1) after)))
          | inr v ↦ absurd (v.0 t.0)
        ]
        | inr u ↦ elim (set_at managements at k g g' y is_g is_y) [
          | inl s ↦ absurd (u.0 s.0)
          | inr v ↦ h.each k x q y is_x u.1 v.1
        ]
      ];
    }
