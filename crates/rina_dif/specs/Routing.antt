-- The next hops of the IPC processes of a DIF.
use Rattle.std.specs.Prelude.{◌≡◌, ℕ, ◌<◌, ◌⊎◌, Bool, true, List, length, slice_get, slice_set, Some}
use Rattle.rina_plan.specs.declared.dif.LinkPlan.{LinkPlan}
use Rattle.rina_data.specs.declared.link.Route.{Route}
use Rattle.rina_data.specs.declared.process.IpcProcess.{IpcProcess}
use Rattle.rina_data.specs.declared.settings.Member.{Member}
use Rattle.rina_data.specs.Process.{Process}
use Rattle.rina_dif_law.specs.Dif.{DifSeen, with_process}
use Rattle.rina_member.specs.Knowing.{AreHopsOfPlan, AreRoutesOf, all_claims, hops_of}
use Rattle.rina_member.specs.Routing.{AreRoutesOver, edges_of, live_links}
use Rattle.rina_member.specs.declared.management.Management.{Management}

-- each IPC process has its next hops over the links that are up at its management, with known neighbours, and the edges that the items of
-- this claim. In a static DIF, where these are the links of the DIF as they were laid, the first of those are its live ones of these, and
-- each other one is a live link that an enrolment made
abbrev pub HaveRoutes : Bool → List Member → List LinkPlan → List IpcProcess → List Management → Type 0
HaveRoutes is_static members plans processes managements = (k : ℕ) (m : Member) (p : IpcProcess) (g : Management) → slice_get members k ≡ Some m → slice_get processes k ≡ Some p → slice_get managements k ≡ Some g
    → AreRoutesOver m.addr (hops_of g.agent.links) (all_claims g.agent.items) members p.routes × (is_static ≡ true → AreHopsOfPlan members plans m p.links (hops_of g.agent.links))

-- each has them over its live links and the links of the DIF as they were laid, as from the start
abbrev pub HaveFirstRoutes : List Member → List LinkPlan → List IpcProcess → Type 0
HaveFirstRoutes members plans processes = (k : ℕ) (m : Member) (p : IpcProcess) → slice_get members k ≡ Some m → slice_get processes k ≡ Some p → AreRoutesOver m.addr (live_links members plans m p.links) (edges_of members plans) members p.routes

-- One after the other

-- with other next hops
abbrev pub with_routes : IpcProcess → List Route → IpcProcess
with_routes p routes = record p { routes = routes }

-- the IPC process at a place has other next hops, and no other does anything
abbrev pub SetsRoutes : ℕ → List Route → List IpcProcess → List IpcProcess → Type 0
SetsRoutes at routes old new = (p : IpcProcess) → slice_get old at ≡ Some p → new ≡ slice_set old at (with_routes p routes)

-- the first of the IPC processes have the next hops over the items that their managements hold, and nothing else changed
pub record AreRouted (members : List Member) (managements : List Management) (count : ℕ) (old new : List IpcProcess) : Type 0 where
  pub aligned : length new ≡ length old
  pub routes : (k : ℕ) (g : Management) (p : IpcProcess) → k < count → slice_get managements k ≡ Some g → slice_get new k ≡ Some p → AreRoutesOf g.agent members p.routes
  pub same : (k : ℕ) (p : IpcProcess) → slice_get new k ≡ Some p → (q : IpcProcess) × (routes : List Route) × (slice_get old k ≡ Some q) × (p ≡ with_routes q routes)

-- As the laws see it

-- one IPC process of a DIF has other next hops, and these are the nodes of the enrolled members; nothing else changed
pub record IsRerouted (d d' : DifSeen) : Type 0 where
  pub place : ℕ
  pub process : Process
  pub is_process : slice_get d.processes place ≡ Some process
  pub routes : List Route
  pub nodes : List ℕ
  pub is : d' ≡ record (with_process d place (record process { routes = routes })) { enrolled = nodes }

-- or nothing changed at all
abbrev pub MayReroute : DifSeen → DifSeen → Type 0
MayReroute d d' = (d' ≡ d) ⊎ IsRerouted d d'
