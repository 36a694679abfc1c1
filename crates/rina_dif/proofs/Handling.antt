-- A DIF holds after a member handled the messages of a link.
use Rattle.std.proofs.Common.{◌≡◌, ◌∙◌, ℕ, Bool, List, [], length, length-set, map, slice_get, slice_set, Some, refl, sym, ap, subst, inl, inr}
use Rattle.std.proofs.lemmas.List.{map-set}
use Rattle.rina_iface.specs.Seen.{Seen}
use Rattle.rina_iface.proofs.Changed.{set_at, slice_set-same}
use Rattle.rina_law.specs.Direction.{Direction}
use Rattle.rina_plan.specs.declared.dif.LinkPlan.{LinkPlan}
use Rattle.rina_data.specs.declared.link.Route.{Route}
use Rattle.rina_data.specs.declared.process.IpcProcess.{IpcProcess}
use Rattle.rina_data.specs.declared.settings.Member.{Member}
use Rattle.rina_data.specs.Configs.{config_of}
use Rattle.rina_data.specs.Deciding.{process_of}
use Rattle.rina_dif_law.specs.Dif.{DifSeen, with_process}
use Rattle.rina_dif_law.specs.Caused.{AreCaused}
use Rattle.rina_dif_law.specs.Written.{AreWrittenOff}
use Rattle.rina_flows.specs.declared.flows.Flows.{Flows}
use Rattle.rina_channel.specs.FlowLaws.{FlowsStand}
use Rattle.rina_member.specs.declared.management.Management.{Management}
use Rattle.rina_dif.specs.declared.dif.Dif.{Dif}
use Rattle.rina_dif.specs.Connected.{AreConnected}
use Rattle.rina_dif.specs.Flooding.{handled_at, link_end, members_seen, offered_at}
use Rattle.rina_dif.specs.Holding.{Holds, LinksStand}
use Rattle.rina_dif.specs.LinkDue.{IsLinkEnd}
use Rattle.rina_dif.specs.Managing.{AreManagedBy, IsManaged, agents_of, nodes_with}
use Rattle.rina_dif.specs.Routing.{with_routes}
use Rattle.rina_dif.specs.Shown.{seen_of}
use Rattle.rina_dif.proofs.Causing.{process_caused}
use Rattle.rina_dif.proofs.Closing.{flows_stand}
use Rattle.rina_dif.proofs.Connected.{kept_by}
use Rattle.rina_dif.proofs.Hearing.{agent_at, turn}
use Rattle.rina_dif.proofs.Leaves.{shown_at, stepped}
use Rattle.rina_dif.proofs.Rerouted.{admitted, admitted_flows, admitted_written, rerouted_flows, rerouted_leaves, rerouted_written}
use Rattle.rina_dif.proofs.LinkEnds.{ends_stay, set_stays}

-- One member is managed otherwise

pub managed_both : (is_static : Bool) (members : List Member) (plans : List LinkPlan) (now : ℕ) (ps : List IpcProcess) (ms : List Management) (at : ℕ) (p p' : IpcProcess) (g g' : Management) → AreManagedBy is_static members plans now ps ms → slice_get ps at ≡ Some p → slice_get ms at ≡ Some g
    → ((m : Member) → slice_get members at ≡ Some m → IsManaged is_static members plans now m p' g') → AreManagedBy is_static members plans now (slice_set ps at p') (slice_set ms at g')
managed_both is_static members plans now ps ms at p p' g g' h is_p is_g own = record {
  laid_out = h.laid_out;
  aligned = length-set ms at g' ∙ h.aligned;
  each = λ k x q y is_x is_q is_y. elim (set_at ps at k p p' q is_p is_q) [
    | inl t ↦ elim (set_at ms at k g g' y is_g is_y) [
      | inl s ↦ subst (λ (z : IpcProcess). IsManaged is_static members plans now x z y) (sym t.1) (subst (λ (z : Management). IsManaged is_static members plans now x p' z) (sym s.1) (own x (ap (slice_get members) (sym t.0) ∙ is_x)))
      | inr v ↦ absurd (v.0 t.0)
    ]
    | inr u ↦ elim (set_at ms at k g g' y is_g is_y) [
      | inl s ↦ absurd (u.0 s.0)
      | inr v ↦ h.each k x q y is_x u.1 v.1
    ]
  ];
}

-- The DIF after it

-- the DIF once these are its management connections, this is the management of the member at a place, these are its next hops, and it
-- knows who is enrolled then
abbrev pub with_handled : Dif → ℕ → Management → IpcProcess → List Route → Flows → Dif
with_handled d i after p routes flows = record d {
  connections = record d.connections { flows = flows };
  managements = slice_set d.managements i after;
  processes = slice_set d.processes i (with_routes p routes);
  enrolled = nodes_with d i after;
}

module _ (d : Dif) (i place number : ℕ) (here : IsLinkEnd d i place number) (g after : Management) (is_g : slice_get d.managements i ≡ Some g) (p : IpcProcess) (is_p : slice_get d.processes i ≡ Some p) (routes : List Route) (flows : Flows) where
  abbrev d' : Dif
  d' = with_handled d i after p routes flows

  -- the IPC process has other next hops
  abbrev pub mid : DifSeen
  mid = with_process (seen_of d) i (record (process_of p) { routes = routes })

  pub handled_seen : seen_of d' ≡ admitted mid (nodes_with d i after)
  handled_seen = ap (λ (z : DifSeen). admitted z (nodes_with d i after)) (stepped d i (with_routes p routes) (slice_set d.processes i (with_routes p routes)) refl)

  -- as flooding sees it
  pub first_turn : (below : Seen) (links : LinksStand d below) → turn d i place number here g is_g below links here.end.taken g ≡ members_seen d
  first_turn below links = (λ j. record {
    members = d.settings.members;
    agents = slice_set-same (agents_of d.managements) i g.agent (agent_at d i place number here g is_g below links) j;
    now = d.clock;
    ends = map (link_end d.processes) d.connections.channels;
    sent = λ k. offered_at (slice_get (slice_set-same d.connections.flows.journal.ends place here.end here.is_end j) k);
    got = λ k. handled_at (slice_get (slice_set-same d.connections.flows.journal.ends place here.end here.is_end j) k);
  })

  pub last_turn : (below : Seen) (links : LinksStand d below) → flows.journal.ends ≡ slice_set d.connections.flows.journal.ends place (record here.end { taken = length here.end.got }) → members_seen d' ≡ turn d i place number here g is_g below links (length here.end.got) after
  last_turn below links ends = (λ j. record {
    members = d.settings.members;
    agents = map-set (λ (z : Management). z.agent) d.managements i after j;
    now = d.clock;
    ends = ends_stay d.processes d'.processes (set_stays d.processes i p (with_routes p routes) is_p refl) d.connections.channels j;
    sent = λ k. offered_at (slice_get (ends j) k);
    got = λ k. handled_at (slice_get (ends j) k);
  })

  -- the flows stand as they stood
  pub handled_flows : (lines : List Direction) (below : Seen) → Holds d lines below → FlowsStand (seen_of d') lines below
  handled_flows lines below h = subst (λ (z : DifSeen). FlowsStand z lines below) (sym handled_seen) (admitted_flows mid (nodes_with d i after) lines below (rerouted_flows (seen_of d) lines below i (process_of p) routes (shown_at d i p is_p) (flows_stand d lines below h)))

  pub handled_written : AreWrittenOff (seen_of d) → AreWrittenOff (seen_of d')
  handled_written w = subst AreWrittenOff (sym handled_seen) (admitted_written mid (nodes_with d i after) (rerouted_written (seen_of d) [] (record { now = 0; facs = [] }) i (process_of p) routes (shown_at d i p is_p) w))

  pub handled_caused : (below : Seen) → AreCaused (seen_of d) below → AreCaused (seen_of d') below
  handled_caused below c = subst (λ (z : DifSeen). AreCaused z below) (sym handled_seen) (process_caused (seen_of d) mid below i (record (process_of p) { routes = routes }) refl c)

  -- and the management connections
  pub handled_connected : (below : Seen) → LinksStand (record d { connections = record d.connections { flows = flows } }) below → LinksStand d' below
  handled_connected below links =
      let g' = config_of d.settings in
      let kept = kept_by g' d.clock (record d.connections { flows = flows }) (seen_of d).processes (slice_set (seen_of d).processes i (record (process_of p) { routes = routes })) below (λ may. rerouted_leaves (seen_of d) [] below i (process_of p) routes (shown_at d i p is_p)) links in
      subst (λ (z : DifSeen). AreConnected g' d.clock (record d.connections { flows = flows }) z.processes below) (sym handled_seen) kept
