-- A run in which a member is enrolled: member 1 is enrolled and keeps an entry, and member 2 joins it over a link. All names are empty.
use Rattle.std.specs.Prelude.{◌≡◌, ℕ, ◌==◌, true, false, List, [], ◌∷◌, ◌++◌, codes, Some, None, if◌then◌else◌}
use Rattle.rina_access.specs.declared.rules.Rules.{Rules}
use Rattle.rina_enrol.specs.declared.message.LinkMessage.TheVariants as messages
use Rattle.rina_newest.specs.declared.item.Item.{Item}
use Rattle.rina_newest.specs.Newest.{kept_at}
use Rattle.rina_agent.specs.declared.agent.Agent.{Agent}
use Rattle.rina_agent.specs.declared.message.ManagementMessage.{ManagementMessage}
use Rattle.rina_agent.specs.declared.message.ManagementMessage.TheVariants.{ToNeighbour}
use Rattle.rina_agent.specs.declared.state.MemberState.TheVariants.{Outside, Enrolled}
use Rattle.rina_flood.specs.Network.{Near, Far, Unmade, Network, Row, Enrol, Claim, Take, Handle, IsRun, IsStart, after_rows, is_enrolled}
use Rattle.rina_enrolled.specs.Enrolled.{BothHaveLink, start_row, stop_row}

-- the entry, made by member 1
abbrev pub entry : Item
entry = record { key = codes "/dir/sink"; version = record { tick = 0; count = 1; origin = 1 }; value = Some (codes "1") }

-- a member that keeps the entry, with any rules of access, and one that is outside and keeps nothing
abbrev pub member : Rules → ℕ → Agent
member rules i = record { state = Enrolled; address = i; name = []; node = []; rules = rules; items = entry ∷ []; last_count = 1; last_invoke = 0; links = []; agenda = [] }

abbrev pub outside : Rules → ℕ → Agent
outside rules i = record { state = Outside; address = i; name = []; node = []; rules = rules; items = []; last_count = 0; last_invoke = 0; links = []; agenda = [] }

-- the start: no link is made
abbrev pub network : Rules → Network
network rules = record {
  now = 0;
  agents = λ i. if i == 2 then outside rules i else member rules i;
  ends = λ l d. 1;
  states = λ l d. Unmade;
  sent = λ l d. [];
  made = entry ∷ [];
  offered = λ i. if i == 2 then [] else entry ∷ [];
}

-- The messages of the enrolment, in order

abbrev connect : ManagementMessage
connect = ToNeighbour (messages.Connect 1 [] [])

abbrev connected : ManagementMessage
connected = ToNeighbour (messages.ConnectR 1 None)

abbrev start : ManagementMessage
start = ToNeighbour (messages.Start 2 2)

abbrev started : ManagementMessage
started = ToNeighbour (messages.StartR 2)

abbrev item : ManagementMessage
item = ToNeighbour (messages.Item entry)

abbrev stop : ManagementMessage
stop = ToNeighbour (messages.Stop 1)

-- The rows before START is handled, those between it and STOP, and all before STOP: member 2 is at the near end of link 0

abbrev pub before : List Row
before = Enrol 0 Near 0 2 1 [] [] ∷ Take 0 Near 0 connect ∷ Claim 0 Far 0 ∷ Handle 0 Near 0 connect [] ∷ Take 0 Far 0 connected ∷ Handle 0 Far 0 connected [] ∷ Take 0 Near 0 start ∷ []

abbrev pub between : List Row
between = Take 0 Far 0 started ∷ Take 0 Far 0 item ∷ Take 0 Far 0 stop ∷ Handle 0 Far 0 started (item ∷ stop ∷ []) ∷ Handle 0 Far 0 item (stop ∷ []) ∷ []

abbrev pub asked : List Row
asked = before ++ start_row 0 Near 0 2 2 [] ∷ between

-- it is a run from a start, and both ends have the link as STOP comes; as START came the member kept the entry, and the joiner nothing; and
-- the joiner is enrolled by STOP
pub record SampleEnrols (rules : Rules) : Type 0 where
  pub start : IsStart (network rules) (entry ∷ [])
  pub run : IsRun (network rules) (asked ++ stop_row 0 Near 0 1 [] ∷ [])
  pub both : BothHaveLink (network rules) asked 0
  pub kept : kept_at ((after_rows (network rules) before).agents 1).items (codes "/dir/sink") ≡ Some entry
  pub lacks : ((after_rows (network rules) before).agents 2).items ≡ []
  pub outside : is_enrolled ((after_rows (network rules) asked).agents 2) ≡ false
  pub inside : is_enrolled ((after_rows (network rules) (asked ++ stop_row 0 Near 0 1 [] ∷ [])).agents 2) ≡ true
