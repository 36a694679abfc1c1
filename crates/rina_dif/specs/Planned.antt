-- What the plan of a stack says of a DIF.
use Rattle.std.specs.Prelude.{ℕ, ◌+◌, ◌-◌, ◌*◌, ◌^◌, List, [], ◌∷◌, ◌++◌, flat_map, length, map, slice_get, slice_index_or, take, Option, Some, None, if◌then◌else◌}
use Rattle.rina_plan.specs.declared.dif.DifPlan.{DifPlan}
use Rattle.rina_plan.specs.declared.dif.FlowPlan.{FlowPlan}
use Rattle.rina_plan.specs.declared.dif.LinkPlan.{LinkPlan}
use Rattle.rina_plan.specs.declared.dif.MemberPlan.{MemberPlan}
use Rattle.rina_plan.specs.Numbers.{facility_number, number_in_rank}
use Rattle.rina_stack.specs.declared.plan.Plan.{Plan}
use Rattle.rina_iface.specs.declared.ask.Fixed.{Fixed}
use Rattle.rina_data.specs.declared.settings.Member.{Member}
use Rattle.rina_data.specs.declared.settings.Settings.{Settings}

-- Numbers

-- how many IPC processes the DIFs before the i-th have
abbrev pub processes_before : List DifPlan → ℕ → ℕ
processes_before difs i = length (flat_map (λ (d : DifPlan). d.members) (take i difs))

-- Names

abbrev pub node_name : Plan → ℕ → List ℕ
node_name plan node = slice_index_or plan.nodes node []

-- the name of an IPC process of a DIF: that of the DIF, a slash, and that of its node
unfoldable pub ipc_name : Plan → DifPlan → ℕ → List ℕ
ipc_name plan d node = d.name ++ 47 ∷ node_name plan node

-- Links and flows

-- a link of a DIF as a fixed flow of the facility below; the IPC process at its end `a` is the asker
abbrev pub link_fixed : Plan → DifPlan → LinkPlan → Fixed
link_fixed plan d l = record {
  fac = facility_number plan.difs l.on;
  cube = l.cube;
  a = l.a;
  a_app = ipc_name plan d l.a;
  b = l.b;
  b_app = ipc_name plan d l.b;
}

-- a flow of the i-th DIF as a fixed flow of that DIF; the application at its end `from` is the asker
abbrev pub flow_fixed : Plan → ℕ → FlowPlan → Fixed
flow_fixed plan i f = record {
  fac = number_in_rank plan.difs i;
  cube = f.cube;
  a = f.from.node;
  a_app = f.from.app;
  b = f.to.node;
  b_app = f.to.app;
}

abbrev pub links_in : Plan → Option DifPlan → List Fixed
links_in plan (Some d) = map (link_fixed plan d) d.links
links_in plan None = []

abbrev pub flows_in : Plan → ℕ → Option DifPlan → List Fixed
flows_in plan i (Some d) = map (flow_fixed plan i) d.flows
flows_in plan i None = []

-- the links of the i-th DIF, in stack order
abbrev pub links_of : Plan → ℕ → List Fixed
links_of plan i = links_in plan (slice_get plan.difs i)

-- the flows of the i-th DIF, in stack order
abbrev pub flows_of : Plan → ℕ → List Fixed
flows_of plan i = flows_in plan i (slice_get plan.difs i)

-- Settings

-- an IPC process of a DIF, which has this number in the stack
abbrev pub member_of : Plan → DifPlan → ℕ → MemberPlan → Member
member_of plan d number m = record { addr = m.addr; name = ipc_name plan d m.node; node = m.node; number = number }

-- its IPC processes, whose numbers go on from one to the next
abbrev pub members_from : Plan → DifPlan → ℕ → List MemberPlan → List Member
members_from plan d number [] = []
members_from plan d number (m ∷ ms) = member_of plan d number m ∷ members_from plan d (number + 1) ms

-- the settings of a DIF that is the i-th of the stack; one that is not static has no fixed flows
abbrev pub settings_by : Plan → ℕ → DifPlan → Settings
settings_by plan i d = record {
  fac = number_in_rank plan.difs i;
  members = members_from plan d (processes_before plan.difs i) d.members;
  cubes = d.cubes;
  widths = d.widths;
  pdu = d.pdu;
  cap = d.queue;
  admits = if d.is_static then 2 ^ (8 * d.widths.cep) - 1 else 0;
  policy = d.policy;
}

abbrev pub settings_in : Plan → ℕ → Option DifPlan → Option Settings
settings_in plan i (Some d) = Some (settings_by plan i d)
settings_in plan i None = None

-- the settings of the i-th DIF of the stack; none where there are fewer
abbrev pub settings_of : Plan → ℕ → Option Settings
settings_of plan i = settings_in plan i (slice_get plan.difs i)
