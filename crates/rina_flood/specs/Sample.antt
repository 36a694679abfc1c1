-- A run of two members, with addresses 1 and 2 and one link: both take a directory entry at once; then the first makes one, which is
-- flooded to the second.
use Rattle.std.specs.Prelude.{◌≡◌, ℕ, ◌==◌, true, List, [], ◌∷◌, codes, Some, None, if◌then◌else◌}
use Rattle.rina_access.specs.declared.rules.Rules.{Rules}
use Rattle.rina_enrol.specs.declared.message.LinkMessage.TheVariants as messages
use Rattle.rina_newest.specs.declared.item.Item.{Item}
use Rattle.rina_newest.specs.Newest.{kept_at}
use Rattle.rina_agent.specs.declared.agent.Agent.{Agent}
use Rattle.rina_agent.specs.declared.link.Link.{Link}
use Rattle.rina_agent.specs.declared.message.ManagementMessage.{ManagementMessage}
use Rattle.rina_agent.specs.declared.message.ManagementMessage.TheVariants.{ToNeighbour}
use Rattle.rina_agent.specs.declared.state.MemberState.TheVariants.{Enrolled}
use Rattle.rina_flood.specs.Network.{Side, Near, Far, There, Network, Row, Make, Know, Take, Handle, IsRun, after_rows, IsStart}
use Rattle.rina_flood.specs.Laws.{IsQuietWalk}

abbrev pub sample_link : ℕ → Link
sample_link peer = record { number = 0; peer = Some peer; weight = 1; up = true; enrolment = None }

-- a member that keeps nothing yet, with any rules of access
abbrev pub sample_agent : Rules → ℕ → Agent
sample_agent rules i = record {
  state = Enrolled;
  address = i;
  name = [];
  node = [];
  rules = rules;
  items = [];
  last_count = 0;
  last_invoke = 0;
  links = sample_link (if i == 1 then 2 else 1) ∷ [];
  agenda = [];
}

abbrev pub sample_end : ℕ → Side → ℕ
sample_end l Near = 1
sample_end l Far = 2

abbrev pub sample : Rules → Network
sample rules = record { now = 0; agents = sample_agent rules; ends = sample_end; states = λ l d. There l; sent = λ l d. []; made = []; offered = λ i. [] }

abbrev pub sample_item : Item
sample_item = record { key = codes "/dir/echo"; version = record { tick = 0; count = 1; origin = 1 }; value = Some (codes "1") }

abbrev pub sample_entry : Item
sample_entry = record { key = codes "/dir/sink"; version = record { tick = 0; count = 0; origin = 2 }; value = Some (codes "2") }

abbrev pub sample_flood : ManagementMessage
sample_flood = ToNeighbour (messages.Flood sample_item)

abbrev pub sample_rows : List Row
sample_rows = Know sample_entry ∷ Make 1 (codes "/dir/echo") (Some (codes "1")) ∷ Take 0 Near 0 sample_flood ∷ Handle 0 Near 0 sample_flood [] ∷ []

-- the run is one from a static start, at its end nothing is on its way on the link, and the second member keeps both entries
pub record SampleSettles (rules : Rules) : Type 0 where
  pub start : IsStart (sample rules) []
  pub run : IsRun (sample rules) sample_rows
  pub quiet : IsQuietWalk (after_rows (sample rules) sample_rows) 1 ((0, Near) ∷ []) 2
  pub kept : kept_at ((after_rows (sample rules) sample_rows).agents 2).items (codes "/dir/echo") ≡ Some sample_item
  pub knows : kept_at ((after_rows (sample rules) sample_rows).agents 2).items (codes "/dir/sink") ≡ Some sample_entry
