-- What is kept of the messages about flows of a DIF by each of its calls, and what it is for.
use Rattle.std.specs.Prelude.{◌+◌, ◌^◌, ◌<◌, ◌≤◌, ◌≡◌, ◌↔◌, ℕ, true, false, List, slice_get, Option, Some, Result, Err, OnErr}
use Rattle.rina_base.specs.declared.number.FlowName.{FlowName}
use Rattle.rina_base.specs.declared.number.Num.{Num}
use Rattle.rina_base.specs.declared.number.Port.{Port}
use Rattle.rina_agent.specs.declared.message.ManagementMessage.{ManagementMessage}
use Rattle.rina_agent.specs.declared.message.ManagementMessage.TheVariants.{ToMember}
use Rattle.rina_alloc.specs.declared.answer.FlowAnswer.{FlowAnswer}
use Rattle.rina_alloc.specs.declared.answer.FlowAnswer.TheVariants as answers
use Rattle.rina_alloc.specs.declared.message.FlowAsk.{FlowAsk}
use Rattle.rina_alloc.specs.declared.message.FlowMessage.{FlowMessage}
use Rattle.rina_alloc.specs.declared.message.FlowWord.TheVariants as words
use Rattle.rina_data.specs.declared.step.ClockStep.{ClockStep}
use Rattle.rina_data.specs.declared.step.InStep.{InStep}
use Rattle.rina_data.specs.declared.step.StepError.{StepError}
use Rattle.rina_data.specs.declared.step.StepError.TheVariants as step
use Rattle.rina_iface.specs.declared.ask.Ask.{Ask}
use Rattle.rina_iface.specs.declared.ask.Fixed.{Fixed}
use Rattle.rina_iface.specs.declared.error.AllocateError.{AllocateError}
use Rattle.rina_iface.specs.declared.error.AllocateError.TheVariants as allocate
use Rattle.rina_iface.specs.declared.error.FreeError.{FreeError}
use Rattle.rina_iface.specs.declared.error.FreeError.TheVariants as free
use Rattle.rina_iface.specs.declared.error.RegisterError.{RegisterError}
use Rattle.rina_iface.specs.declared.error.RegisterError.TheVariants as register
use Rattle.rina_iface.specs.declared.error.SendError.{SendError}
use Rattle.rina_iface.specs.declared.error.SendError.TheVariants as send
use Rattle.rina_iface.specs.declared.error.UnregisterError.{UnregisterError}
use Rattle.rina_iface.specs.declared.error.UnregisterError.TheVariants as unregister
use Rattle.rina_iface.specs.Ends.{place_in}
use Rattle.rina_iface.specs.Journal.{AreKept}
use Rattle.rina_iface.specs.Seen.{Seen}
use Rattle.rina_law.specs.Direction.{Direction}
use Rattle.rina_member.specs.Managements.{IsSduOf}
use Rattle.rina_plan.specs.declared.dif.DifPlan.{DifPlan}
use Rattle.rina_stack.specs.declared.plan.Plan.{Plan}
use Rattle.rina_dif.specs.declared.dif.Dif.{Dif}
use Rattle.rina_dif.specs.declared.enrol.EnrolError.{EnrolError}
use Rattle.rina_dif.specs.declared.enrol.EnrolError.TheVariants as enrol
use Rattle.rina_dif.specs.Asking.{KeepsAll}
use Rattle.rina_dif.specs.Binding.{BindsTo}
use Rattle.rina_dif.specs.Changing.{BindsManaged}
use Rattle.rina_dif.specs.Clocking.{ClockSteps}
use Rattle.rina_dif.specs.Enrolling.{EnrolsAs}
use Rattle.rina_dif.specs.Facade.{GoesOn, NotesMemory, PassesAt}
use Rattle.rina_dif.specs.FarMaking.{HasFar, IsAskerOf}
use Rattle.rina_dif.specs.FlowAnswers.{IsFarEndAt}
use Rattle.rina_dif.specs.FlowEnds.{FreesManaged}
use Rattle.rina_dif.specs.Freeing.{FreesAt}
use Rattle.rina_dif.specs.Holding.{Holds, Stands}
use Rattle.rina_dif.specs.Laying.{IsNew}
use Rattle.rina_dif.specs.Linking.{IsConnected}
use Rattle.rina_dif.specs.Planned.{links_of}
use Rattle.rina_dif.specs.Registering.{RegistersManaged, UnregistersManaged}
use Rattle.rina_dif.specs.Requesting.{AsksTo, RequestsAs}
use Rattle.rina_dif.specs.Sending.{SendsAt}
use Rattle.rina_dif.specs.Taking.{TakesHome}
use Rattle.rina_dif.specs.WaitingAsks.{FreesAsks}
use Rattle.rina_dif.specs.Whole.{IsDif}
use Rattle.rina_asked.specs.Alone.{AreAlone, IsName, all_on_links, all_waiting, asks, one, text_asks}
use Rattle.rina_asked.specs.Ends.{HaveEnds}
use Rattle.rina_asked.specs.Messages.{IsMessage}
use Rattle.rina_asked.specs.Single.{AreSingle, AskId, IsAskId, belongs, text_belongs}

-- What it is for: the look of a member that an ask comes to finds the asker's end, where the flow has no far end yet
abbrev pub AskersAreFound : Type 0
AskersAreFound = (d : Dif) (m : FlowMessage) (invoke : ℕ) (ask : FlowAsk) → HaveEnds d → IsMessage d m → m.word ≡ words.Ask invoke ask → (HasFar d.flows.journal.ends ask.flow → ⊥) → (place : ℕ) × IsAskerOf d place m.to m.from ask

-- of a yes that comes the far end is found that it tells of, be it that of the flow that was asked for or not
abbrev pub YesesFind : Type 0
YesesFind = (d : Dif) (m : FlowMessage) (invoke cep scep : ℕ) → HaveEnds d → IsMessage d m → m.word ≡ words.Answer invoke (answers.Yes cep scep) → (place : ℕ) × (flow : FlowName) × IsFarEndAt d place flow m.from cep

-- a message is counted as an ask for the flow of a name exactly where it is one, and a text as its message
abbrev pub AsksAreCounted : Type 0
AsksAreCounted = (f : FlowName) → ((to from invoke : ℕ) (ask : FlowAsk) → IsName f → IsName ask.flow → asks f (ToMember (record { to = to; from = from; word = words.Ask invoke ask })) ≡ true ↔ (ask.flow ≡ f)) × ((x : ManagementMessage) (text : List ℕ) → IsSduOf x text → text_asks f text ≡ asks f x)

-- of a flow one ask at most is among the messages
abbrev pub AsksAreOne : Type 0
AsksAreOne = (d : Dif) (lines : List Direction) (below : Seen) → Holds d lines below → AreAlone d → (f : FlowName) (links : ℕ) → IsName f → all_waiting (λ x. one (asks f x)) d.managements + all_on_links (λ t. one (text_asks f t)) d links ≤ 1

-- and the flow has no far end then, so each ask finds the asker's end
abbrev pub AsksFind : Type 0
AsksFind = (d : Dif) (lines : List Direction) (below : Seen) (m : FlowMessage) (invoke : ℕ) (ask : FlowAsk) → Holds d lines below → HaveEnds d → AreAlone d → IsMessage d m → m.word ≡ words.Ask invoke ask → (place : ℕ) × IsAskerOf d place m.to m.from ask

-- a message is counted as one of an ask exactly where it is the ask or the answer, and a text as its message
abbrev pub MessagesAreCounted : Type 0
MessagesAreCounted = (k : AskId) → IsAskId k
    → ((to from invoke : ℕ) (ask : FlowAsk) → invoke < 2 ^ 32 → from < 2 ^ 32 → belongs k (ToMember (record { to = to; from = from; word = words.Ask invoke ask })) ≡ true ↔ ((from ≡ k.addr) × (invoke ≡ k.invoke)))
    × ((to from invoke : ℕ) (answer : FlowAnswer) → invoke < 2 ^ 32 → to < 2 ^ 32 → belongs k (ToMember (record { to = to; from = from; word = words.Answer invoke answer })) ≡ true ↔ ((to ≡ k.addr) × (invoke ≡ k.invoke)))
    × ((x : ManagementMessage) (text : List ℕ) → IsSduOf x text → text_belongs k text ≡ belongs k x)

-- of an ask one message at most is among the messages
abbrev pub MessagesAreSingle : Type 0
MessagesAreSingle = (d : Dif) (lines : List Direction) (below : Seen) → Holds d lines below → AreSingle d → (k : AskId) (links : ℕ) → IsAskId k → all_waiting (λ x. one (belongs k x)) d.managements + all_on_links (λ t. one (text_belongs k t)) d links ≤ 1

-- From the start

-- no message is there in a DIF of a plan as it was made
abbrev pub NewAre : (Dif → Type 0) → Type 0
NewAre P = (plan : Plan) (i : ℕ) (dif : DifPlan) (d : Dif) (old new : Seen) → slice_get plan.difs i ≡ Some dif → IsNew plan i d old new → IsConnected d dif.manage (links_of plan i) old new → Stands d new → P d

-- Each call, by what its contract says of it

-- it keeps what holds of a DIF, unless an allocation failed in it or before
abbrev pub Stays : (Dif → Type 0) → Dif → Dif → Type 0
Stays P d d' = (d.failed ≡ false → P d) → d'.failed ≡ false → P d'

-- a flow is asked for
abbrev pub AllocateKeeps : (Dif → Type 0) → Type 0
AllocateKeeps P = (d d' : Dif) (ask : Ask) (result : Result Port AllocateError) → IsDif d → ((lines : List Direction) (below : Seen) → Holds d lines below → AsksTo d lines below ask result d') → RequestsAs result d ask d' → GoesOn d d'
    → d' ≡ record d { flows = d'.flows; ids = d'.ids; managements = d'.managements; asks = d'.asks; failed = d'.failed } → NotesMemory d d' result (Err allocate.Memory) → Stays P d d'

-- a far end is claimed
abbrev pub IncomingKeeps : (Dif → Type 0) → Type 0
IncomingKeeps P = (d d' : Dif) → d' ≡ record d { waiting = d'.waiting } → Stays P d d'

-- a flow is fixed
abbrev pub BindKeeps : (Dif → Type 0) → Type 0
BindKeeps P = (d d' : Dif) (fixed : Fixed) (result : Result (Port × Port) AllocateError) → IsDif d → ((lines : List Direction) (below : Seen) → Holds d lines below → BindsTo d lines below fixed result d') → BindsManaged result d fixed d'.managements → GoesOn d d'
    → d' ≡ record d { flows = d'.flows; ids = d'.ids; names = d'.names; managements = d'.managements; failed = d'.failed } → NotesMemory d d' result (Err allocate.Memory) → Stays P d d'

-- an SDU is sent, and passed
abbrev pub SendKeeps : (Dif → Type 0) → Type 0
SendKeeps P = (d d' : Dif) (port : Port) (sdu : List ℕ) (result : Result Num SendError) → IsDif d → ((lines : List Direction) (below : Seen) → Holds d lines below → SendsAt (place_in port d.flows.journal.ends) d lines below sdu result d') → GoesOn d d'
    → d' ≡ record d { processes = d'.processes; flows = d'.flows; failed = d'.failed } → NotesMemory d d' result (Err send.Memory) → Stays P d d'

abbrev pub PassKeeps : (Dif → Type 0) → Type 0
PassKeeps P = (d d' : Dif) (port : Port) → IsDif d → ((lines : List Direction) (below : Seen) → Holds d lines below → PassesAt d lines port d' below) → GoesOn d d' → d' ≡ record d { flows = d'.flows } → Stays P d d'

-- an end is freed
abbrev pub FreeKeeps : (Dif → Type 0) → Type 0
FreeKeeps P = (d d' : Dif) (port : Port) (result : Result (Unit {0}) FreeError) → IsDif d → ((lines : List Direction) (below : Seen) → Holds d lines below → FreesAt (place_in port d.flows.journal.ends) d lines below result d') → FreesManaged (place_in port d.flows.journal.ends) result d d'.managements → GoesOn d d'
    → d' ≡ record d { processes = d'.processes; managements = d'.managements; flows = d'.flows; ids = d'.ids; asks = d'.asks; failed = d'.failed } → NotesMemory d d' result (Err free.Memory) → Stays P d d'

-- so it is where its ask waits no more, as the contract says too
abbrev pub FreeAsksKeeps : (Dif → Type 0) → Type 0
FreeAsksKeeps P = (d d' : Dif) (port : Port) (result : Result (Unit {0}) FreeError) → IsDif d → ((lines : List Direction) (below : Seen) → Holds d lines below → FreesAt (place_in port d.flows.journal.ends) d lines below result d') → FreesManaged (place_in port d.flows.journal.ends) result d d'.managements → GoesOn d d'
    → d' ≡ record d { processes = d'.processes; managements = d'.managements; flows = d'.flows; ids = d'.ids; asks = d'.asks; failed = d'.failed } → FreesAsks (place_in port d.flows.journal.ends) result d d'.asks.items → NotesMemory d d' result (Err free.Memory) → Stays P d d'

-- a name is registered, and taken back
abbrev pub RegisterKeeps : (Dif → Type 0) → Type 0
RegisterKeeps P = (d d' : Dif) (node : ℕ) (app : List ℕ) (result : Result (Unit {0}) RegisterError) → RegistersManaged result d node app d'.managements → d' ≡ record d { names = d'.names; managements = d'.managements; failed = d'.failed } → NotesMemory d d' result (Err register.Memory) → Stays P d d'

abbrev pub UnregisterKeeps : (Dif → Type 0) → Type 0
UnregisterKeeps P = (d d' : Dif) (node : ℕ) (app : List ℕ) (result : Result (Unit {0}) UnregisterError) → UnregistersManaged result d node app d'.managements → d' ≡ record d { names = d'.names; managements = d'.managements; failed = d'.failed } → NotesMemory d d' result (Err unregister.Memory) → Stays P d d'

-- a CDAP message is answered
abbrev pub CdapKeeps : (Dif → Type 0) → Type 0
CdapKeeps P = (d d' : Dif) → KeepsAll d d' → Stays P d d'

-- a member asks to enrol; `own` is what the rank below refuses by what it alone knows
abbrev pub EnrolKeeps : (Dif → Type 0) → Type 0
EnrolKeeps P = (d d' : Dif) (below below' : Seen) (own : Ask → Option AllocateError) (node fac peer : ℕ) (result : Result (Unit {0}) EnrolError) → (d.failed ≡ false → EnrolsAs own d below node fac peer result d' below') → NotesMemory d d' result (Err enrol.Memory) → Stays P d d'

-- Each step

-- an SDU comes on a link
abbrev pub InKeeps : (Dif → Type 0) → Type 0
InKeeps P = (d d' : Dif) (below below' : Seen) (node link : ℕ) (result : Result InStep StepError) → AreKept below → AreKept below' → Stands d below → ((lines : List Direction) → Holds d lines below → TakesHome d lines below node link result d' below') → NotesMemory d d' result (Err step.Memory) → Stays P d d'

-- an SDU leaves on a link
abbrev pub OutKeeps : (Dif → Type 0) → Type 0
OutKeeps P = (d d' : Dif) → d' ≡ record d { processes = d'.processes; failed = d'.failed } → (d'.failed ≡ false → d.failed ≡ false) → Stays P d d'

-- what is due is done
abbrev pub ClockKeeps : (Dif → Type 0) → Type 0
ClockKeeps P = (d d' : Dif) (below below' : Seen) (node : ℕ) (result : Result ClockStep StepError) → Stands d below → ((lines : List Direction) → Holds d lines below → ClockSteps d lines below node result d' below') → OnErr result (d'.connections ≡ d.connections) → GoesOn d d' → NotesMemory d d' result (Err step.Memory) → Stays P d d'

-- the clock goes on
abbrev pub TimeKeeps : (Dif → Type 0) → Type 0
TimeKeeps P = (d d' : Dif) (now : ℕ) → d' ≡ record d { clock = now } → Stays P d d'
