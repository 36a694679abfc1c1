-- The asks for flows that wait for their answers: which of them are late, what becomes of their ends, and what a clock step keeps.
use Rattle.std.specs.Prelude.{◌≡◌, ℕ, ◌+◌, ◌<◌, ◌≤◌, ◌==◌, List, position, slice_get, Option, Some, None, Result, Ok, Err}
use Rattle.std.specs.List.{remove}
use Rattle.rina_base.specs.declared.number.Port.{Port}
use Rattle.rina_iface.specs.declared.ends.End.{End}
use Rattle.rina_iface.specs.declared.state.PortState.{PortState}
use Rattle.rina_iface.specs.declared.state.PortState.TheVariants.{Pending, Refused}
use Rattle.rina_iface.specs.declared.state.Why.TheVariants.{Timeout}
use Rattle.rina_iface.specs.Journal.{At}
use Rattle.rina_data.specs.declared.step.ClockStep.{ClockStep}
use Rattle.rina_data.specs.declared.step.ClockStep.TheVariants as step
use Rattle.rina_data.specs.declared.step.StepError.{StepError}
use Rattle.rina_data.specs.declared.step.StepError.TheVariants.{Memory}
use Rattle.rina_dif_law.specs.Answering.{IsTurnedDown}
use Rattle.rina_dif.specs.declared.dif.Dif.{Dif}
use Rattle.rina_dif.specs.declared.waiting_asks.WaitingAsk.{WaitingAsk}
use Rattle.rina_dif.specs.Elsewhere.{home_of}
use Rattle.rina_dif.specs.Shown.{seen_of}

-- an ask of the member at a node waits there, since as many ticks as an asker waits, or more: its end stands at this node, and is pending
pub record HasWaited (d : Dif) (node : ℕ) (ask : WaitingAsk) : Type 0 where
  pub at_home : home_of d node ≡ Some ask.member
  pub end : End
  pub is_end : At d.flows.journal.ends ask.place end
  pub node_is : end.port.node ≡ node
  pub waits : end.state ≡ Pending
  pub late : end.flow.tick + d.laid.wait ≤ d.clock

-- so does the one that stands here among the asks that wait: it is late
pub record IsLateAt (d : Dif) (node which : ℕ) : Type 0 where
  pub ask : WaitingAsk
  pub stands : slice_get d.asks.items which ≡ Some ask
  pub waited : HasWaited d node ask

-- no ask of the member at a node is late
abbrev pub NoneLate : Dif → ℕ → Type 0
NoneLate d node = (which : ℕ) → IsLateAt d node which → ⊥

-- of those that are late this one was made first
pub record IsFirstLate (d : Dif) (node which : ℕ) : Type 0 where
  pub is_late : IsLateAt d node which
  pub least : (other : ℕ) → IsLateAt d node other → which ≤ other

-- it is found, or there is none
abbrev pub FindsLate : Dif → ℕ → Option ℕ → Type 0
FindsLate d node (Some which) = IsFirstLate d node which
FindsLate d node None = NoneLate d node

-- no ask of any member is late as long as the clock is before a tick
abbrev pub NoneLateUntil : ℕ → Dif → Type 0
NoneLateUntil until d = (now node : ℕ) → now < until → NoneLate (record d { clock = now }) node

-- the end at a place waits no more: it has this state now, its CEP-id rests, and no management changes
pub record TurnsDown (d : Dif) (place : ℕ) (state : PortState) (d' : Dif) : Type 0 where
  pub turned : IsTurnedDown (seen_of d) place state (seen_of d')
  pub managed : d'.managements ≡ d.managements

-- the first ask that is late at a node has waited for its whole time: its end is refused, and the ask waits no more. The step tells the port
pub record TimesOut (d : Dif) (node : ℕ) (port : Port) (d' : Dif) : Type 0 where
  pub which : ℕ
  pub first : IsFirstLate d node which
  pub port_is : port ≡ first.is_late.waited.end.port
  pub turns_down : TurnsDown d first.is_late.ask.place (Refused (Timeout first.is_late.waited.end.flow.tick d.clock)) d'
  pub asks : d'.asks.items ≡ remove d.asks.items which

-- The ask of an end

-- the asks that wait, but for the one that stands here, if there is one
abbrev pub without_at : Option ℕ → List WaitingAsk → List WaitingAsk
without_at (Some which) asks = remove asks which
without_at None asks = asks

-- but for that of the end at a place
abbrev pub without_ask : ℕ → List WaitingAsk → List WaitingAsk
without_ask place asks = without_at (position (λ (a : WaitingAsk). a.place == place) asks) asks

-- what waits once an end with this state was freed
abbrev pub asks_freed : PortState → ℕ → List WaitingAsk → List WaitingAsk
asks_freed Pending place asks = without_ask place asks
asks_freed state place asks = asks

-- what waits once `free` was called at the end of a place: an end that waited waits no more
abbrev pub FreesAsks : {E : Type 0} → Option ℕ → Result (Unit {0}) E → Dif → List WaitingAsk → Type 0
FreesAsks (Some at) (Ok done) d new = (end : End) × (slice_get d.flows.journal.ends at ≡ Some end) × (new ≡ asks_freed end.state at d.asks.items)
FreesAsks place result d new = new ≡ d.asks.items

-- What a clock step keeps

-- where it tells of an ask that has waited for its whole time, that one waits no more; else all that wait wait on. A step that is refused
-- changes nothing at all, but where memory was not found
abbrev pub KeepsStep : Result ClockStep StepError → Dif → ℕ → Dif → Type 0
KeepsStep (Ok (step.Timeout port)) d node d' = TimesOut d node port d'
KeepsStep (Ok done) d node d' = d'.asks ≡ d.asks
KeepsStep (Err Memory) d node d' = d'.asks ≡ d.asks
KeepsStep (Err other) d node d' = d' ≡ d
