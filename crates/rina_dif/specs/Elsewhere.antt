-- What a call at a DIF leaves as it was.
use Rattle.std.specs.Prelude.{◌≡◌, ◌≤◌, ◌⊎◌, ℕ, List, length, map, slice_get, Option, Some, None, Result, Ok, Err, if◌then◌else◌}
use Rattle.rina_base.specs.declared.number.Key.{Key}
use Rattle.rina_base.specs.declared.number.Port.{Port}
use Rattle.rina_iface.specs.declared.ends.End.{End}
use Rattle.rina_iface.specs.Ends.{place_in}
use Rattle.rina_iface.specs.Journal.{At}
use Rattle.rina_iface.specs.Seen.{is_member}
use Rattle.rina_data.specs.declared.process.IpcProcess.{IpcProcess}
use Rattle.rina_data.specs.declared.step.ClockStep.{ClockStep}
use Rattle.rina_data.specs.declared.step.ClockStep.TheVariants as clock
use Rattle.rina_data.specs.declared.step.InStep.{InStep}
use Rattle.rina_data.specs.declared.step.InStep.TheVariants.{Took}
use Rattle.rina_data.specs.declared.step.StepError.{StepError}
use Rattle.rina_data.specs.declared.step.StepError.TheVariants.{Memory}
use Rattle.rina_data.specs.Configs.{config_of}
use Rattle.rina_data.specs.Deciding.{queue_settings}
use Rattle.rina_dif_law.specs.Ids.{Ids}
use Rattle.rina_dif_law.specs.Sending.{home}
use Rattle.rina_flows.specs.Elsewhere.{ChangesAt, SameBut}
use Rattle.rina_flows.specs.Tied.{conns_of}
use Rattle.rina_dif.specs.declared.dif.Dif.{Dif}

-- the IPC process at this place may change, where there is one, and no other does; and of each, that one too, a queue
-- holds as many PDUs as before, and the cubes for which it makes queues when a link is added are the same
abbrev pub ChangesProcess : Option ℕ → List IpcProcess → List IpcProcess → Type 0
ChangesProcess process old new = SameBut (λ i. process ≡ Some i) old new × (map queue_settings new ≡ map queue_settings old)

-- the ends at these places may change, with their connections, and the IPC process at this place, where there is one; no
-- other end, no other connection and no other IPC process does
abbrev pub ChangesOnly : (ℕ → Type 0) → Option ℕ → Dif → Dif → Type 0
ChangesOnly Ends process d d' = ChangesAt Ends d.flows d'.flows × ChangesProcess process d.processes d'.processes

-- the place of the IPC process at a node
abbrev pub home_of : Dif → ℕ → Option ℕ
home_of d node = home node (config_of d.settings).members

-- the place of the enrolled member at a node
abbrev pub enrolled_home : Dif → ℕ → Option ℕ
enrolled_home d node = if is_member d.enrolled node then home_of d node else None

-- it was done, and this holds
abbrev pub WhenOk : {T E : Type 0} → Result T E → Type 0 → Type 0
WhenOk (Ok done) P = P
WhenOk (Err e) P = ⊥

-- Which ends

-- the end of a port
abbrev pub IsPortAt : Dif → Port → ℕ → Type 0
IsPortAt d port at = place_in port d.flows.journal.ends ≡ Some at

-- the end at a place is one of the IPC process at this place
pub record IsEndOf (d : Dif) (process : Option ℕ) (at : ℕ) : Type 0 where
  pub end : End
  pub is_end : At d.flows.journal.ends at end
  pub at_home : home_of d end.port.node ≡ process

-- and PDUs of this key come to its connection
pub record IsTaker (d : Dif) (process : Option ℕ) (key : Key) (at : ℕ) : Type 0 where
  pub end_of : IsEndOf d process at
  pub ids : Ids
  pub ids_are : slice_get (conns_of d.flows.conns) at ≡ Some ids
  pub src : key.src ≡ ids.far
  pub scep : key.scep ≡ ids.dcep

-- and its connection has this CEP-id
pub record IsOfCep (d : Dif) (process : Option ℕ) (cep at : ℕ) : Type 0 where
  pub end_of : IsEndOf d process at
  pub ids : Ids
  pub ids_are : slice_get (conns_of d.flows.conns) at ≡ Some ids
  pub cep_is : cep ≡ ids.scep

-- and it is the end of this port
pub record IsOfPort (d : Dif) (process : Option ℕ) (port : Port) (at : ℕ) : Type 0 where
  pub end_of : IsEndOf d process at
  pub port_is : port ≡ end_of.end.port

-- an end of the IPC process of this place, or one that is new
abbrev pub IsEndHere : Dif → Option ℕ → ℕ → Type 0
IsEndHere d process at = IsEndOf d process at ⊎ (length d.flows.journal.ends ≤ at)

-- by its answer an in step may change ends of the IPC process where the PDU came, and make some there: the one to which the PDU came, or those of
-- which messages came. Where memory runs out behind the PDU, some of the messages were handled
abbrev pub MayTake : Result InStep StepError → Dif → Option ℕ → ℕ → Type 0
MayTake (Ok (Took key end)) d process at = IsEndHere d process at
MayTake (Err Memory) d process at = IsEndHere d process at
MayTake answer d process at = ⊥

-- a clock step the end whose connection or port it names, or, where a link is lost, each end of the IPC process
abbrev pub MayClock : Result ClockStep StepError → Dif → Option ℕ → ℕ → Type 0
MayClock (Ok (clock.LinkLost link)) d process at = IsEndOf d process at
MayClock (Ok (clock.Gone cep)) d process at = IsOfCep d process cep at
MayClock (Ok (clock.GaveUp num)) d process at = IsOfCep d process num.cep at
MayClock (Ok (clock.Ack cep)) d process at = IsOfCep d process cep at
MayClock (Ok (clock.Again num)) d process at = IsOfCep d process num.cep at
MayClock (Ok (clock.Timeout port)) d process at = IsOfPort d process port at
MayClock answer d process at = ⊥
