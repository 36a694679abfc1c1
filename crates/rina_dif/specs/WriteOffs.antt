-- What the calls of a DIF write off: whatever a call writes into a ledger, the condition of its cause held before it.
use Rattle.std.specs.Prelude.{◌≡◌, ◌⊎◌, ℕ, List, length, slice_get, Option, Some, Result, Ok}
use Rattle.rina_account.specs.declared.ledger.Off.{Off}
use Rattle.rina_alloc.specs.declared.message.FlowMessage.{FlowMessage}
use Rattle.rina_base.specs.declared.cause.Cause.TheVariants.{QueueFull}
use Rattle.rina_base.specs.declared.number.Num.{Num}
use Rattle.rina_base.specs.declared.number.Port.{Port}
use Rattle.rina_iface.specs.declared.error.FreeError.{FreeError}
use Rattle.rina_iface.specs.declared.error.SendError.{SendError}
use Rattle.rina_iface.specs.Seen.{Seen}
use Rattle.rina_law.specs.Direction.{Direction}
use Rattle.rina_data.specs.declared.step.ClockStep.{ClockStep}
use Rattle.rina_data.specs.declared.step.InStep.{InStep}
use Rattle.rina_data.specs.declared.step.OutStep.{OutStep}
use Rattle.rina_data.specs.declared.step.StepError.{StepError}
use Rattle.rina_channel.specs.declared.channel.Channel.{Channel}
use Rattle.rina_channel.specs.Changes.{IsQueueOf}
use Rattle.rina_data.specs.Process.{Process, Queue}
use Rattle.rina_dif_law.specs.Dif.{DifSeen}
use Rattle.rina_dif_law.specs.Sending.{home}
use Rattle.rina_dif_law.specs.WriteOffLaws.{MayFailOff, Nothing}
use Rattle.rina_dif_law.specs.WriteOffs.{IsOverNow, MayWriteOff, NoPort, RefusesOver, Writes}
use Rattle.rina_dif.specs.declared.dif.Dif.{Dif}
use Rattle.rina_dif.specs.Clocking.{ClockSteps}
use Rattle.rina_dif.specs.Facade.{PassesAt}
use Rattle.rina_dif.specs.FlowMessages.{HandlesFlows}
use Rattle.rina_dif.specs.Freeing.{FreesAt}
use Rattle.rina_dif.specs.Holding.{Holds}
use Rattle.rina_dif.specs.Sending.{SendsAt}
use Rattle.rina_dif.specs.Shown.{seen_of}
use Rattle.rina_dif.specs.Steps.{OutsAt}
use Rattle.rina_dif.specs.Taking.{TakesHome}
use Rattle.rina_dif.specs.Unlinking.{LosesLink, LosesWith, with_lost}
use Rattle.rina_dif.specs.Closing.{IsHeldThere, IsOpenOn}
use Rattle.rina_dif.specs.Connected.{AreConnected}
use Rattle.rina_data.specs.Configs.{config_of}

-- a link is lost, and the connection of its open end held the piece
pub record MayCloseOff (d : Dif) (below : Seen) (i : ℕ) (off : Off) : Type 0 where
  pub number : ℕ
  pub between : DifSeen
  pub loses : LosesLink d below i number between
  pub place : ℕ
  pub is_open : IsOpenOn d.connections loses.loses.link.port place
  pub links : AreConnected (config_of d.settings) d.clock d.connections (seen_of d).processes below
  pub held : IsHeldThere d.connections links.lines place off

-- a link is lost, the flows of the node fail with it, and the condition holds once those before have failed
pub record MayFailWith (d : Dif) (lines : List Direction) (below : Seen) (node : ℕ) (i : ℕ) (off : Off) : Type 0 where
  pub place : ℕ
  pub number : ℕ
  pub d' : Dif
  pub loses : LosesWith d lines below place node number d'
  pub may : MayFailOff (with_lost (seen_of d) place loses.loses.loses.place loses.loses.loses.link loses.loses.routes loses.loses.loses.process loses.offs) lines below node loses.loses.loses.link.port i off

-- a step of the member at a node takes an SDU, of the messages about flows that this makes whole some were handled, and the condition holds then:
-- the next one closes an end, whose connection held the piece
pub record MayTellOff (d : Dif) (lines : List Direction) (below : Seen) (node : ℕ) (i : ℕ) (off : Off) : Type 0 where
  pub n : ℕ
  pub result : Result InStep StepError
  pub d' : Dif
  pub below' : Seen
  pub takes : TakesHome d lines below node n result d' below'
  pub place : ℕ
  pub at_home : home node (config_of d.settings).members ≡ Some place
  pub before : List FlowMessage
  pub mid : Dif
  pub between : List Direction
  pub handles : HandlesFlows takes.handled takes.between below' place before (Ok tt) mid between
  pub holds : Holds mid between below'
  pub may : MayWriteOff (seen_of mid) between below' NoPort i off

-- what an in step at a node may write
abbrev pub MayByIn : Dif → List Direction → Seen → ℕ → ℕ → Off → Type 0
MayByIn d lines below node i off = MayWriteOff (seen_of d) lines below NoPort i off ⊎ MayTellOff d lines below node i off

-- the management connection of a live link made the PDU, whose queue there is full
pub record MayFillOff (d : Dif) (i : ℕ) (off : Off) : Type 0 where
  pub place : ℕ
  pub channel : Channel
  pub stands : slice_get d.connections.channels place ≡ Some channel
  pub member : channel.member ≡ i
  pub process : Process
  pub at : ℕ
  pub queue : Queue
  pub is_of : IsQueueOf (seen_of d).processes channel process at queue
  pub full : length queue.items ≡ (config_of d.settings).cap
  pub src : off.key.src ≡ 0
  pub scep : off.key.scep ≡ 0
  pub cause_is : off.cause ≡ QueueFull (config_of d.settings).cap

-- what a clock step at a node may write
abbrev pub MayByClock : Dif → List Direction → Seen → ℕ → ℕ → Off → Type 0
MayByClock d lines below node i off = MayWriteOff (seen_of d) lines below (IsOverNow below) i off ⊎ (MayCloseOff d below i off ⊎ (MayFailWith d lines below node i off ⊎ MayFillOff d i off))

abbrev pub OutStepsOfDifsWrite : Type 0
OutStepsOfDifsWrite = (refuses : Port → ℕ → Option SendError) (d : Dif) (lines : List Direction) (below : Seen) (node n : ℕ) (result : Result OutStep StepError) (d' : Dif) (below' : Seen) →
    Holds d lines below → OutsAt refuses (seen_of d) below node n result (seen_of d') below' → Writes (MayWriteOff (seen_of d) lines below (RefusesOver refuses below)) (seen_of d) (seen_of d')

abbrev pub InStepsOfDifsWrite : Type 0
InStepsOfDifsWrite = (d : Dif) (lines : List Direction) (below : Seen) (node n : ℕ) (result : Result InStep StepError) (d' : Dif) (below' : Seen) →
    Holds d lines below → TakesHome d lines below node n result d' below' → Writes (MayByIn d lines below node) (seen_of d) (seen_of d')

abbrev pub ClockStepsOfDifsWrite : Type 0
ClockStepsOfDifsWrite = (d : Dif) (lines : List Direction) (below : Seen) (node : ℕ) (result : Result ClockStep StepError) (d' : Dif) (below' : Seen) →
    Holds d lines below → ClockSteps d lines below node result d' below' → Writes (MayByClock d lines below node) (seen_of d) (seen_of d')

abbrev pub FreesOfDifsWrite : Type 0
FreesOfDifsWrite = (d : Dif) (lines : List Direction) (below : Seen) (at : Option ℕ) (result : Result (Unit {0}) FreeError) (d' : Dif) →
    Holds d lines below → FreesAt at d lines below result d' → Writes (MayWriteOff (seen_of d) lines below NoPort) (seen_of d) (seen_of d')

abbrev pub SendsOfDifsWriteNothing : Type 0
SendsOfDifsWriteNothing = (d : Dif) (lines : List Direction) (below : Seen) (at : Option ℕ) (sdu : List ℕ) (result : Result Num SendError) (d' : Dif) → SendsAt at d lines below sdu result d' → Writes Nothing (seen_of d) (seen_of d')

abbrev pub PassesOfDifsWriteNothing : Type 0
PassesOfDifsWriteNothing = (d : Dif) (lines : List Direction) (port : Port) (d' : Dif) (below : Seen) → PassesAt d lines port d' below → Writes Nothing (seen_of d) (seen_of d')
