-- An ask for a flow that waits for its answer: what is among the messages with its invoke id, the ask or a yes, is of its own flow.
use Rattle.std.specs.Prelude.{◌≡◌, ℕ, ◌^◌, ◌<◌, ◌≤◌, List, Contains, slice_get, Some}
use Rattle.rina_alloc.specs.declared.answer.FlowAnswer.TheVariants as answers
use Rattle.rina_alloc.specs.declared.message.FlowMessage.{FlowMessage}
use Rattle.rina_alloc.specs.declared.message.FlowWord.{FlowWord}
use Rattle.rina_alloc.specs.declared.message.FlowWord.TheVariants as words
use Rattle.rina_base.specs.declared.number.FlowName.{FlowName}
use Rattle.rina_conn.specs.declared.conn.Conn.{Conn}
use Rattle.rina_flows.specs.Tied.{IsAt}
use Rattle.rina_iface.specs.declared.ends.End.{End}
use Rattle.rina_iface.specs.Journal.{At}
use Rattle.rina_member.specs.declared.management.Management.{Management}
use Rattle.rina_dif.specs.declared.dif.Dif.{Dif}
use Rattle.rina_dif.specs.declared.waiting_asks.WaitingAsk.{WaitingAsk}
use Rattle.rina_dif.specs.AnswersIn.{FarOf}
use Rattle.rina_asked.specs.Messages.{IsMessage}
use Rattle.rina_asked.specs.Single.{AreSingle}

-- its end stands, and its member has drawn its invoke id
pub record StandsWaiting (d : Dif) (waiting : WaitingAsk) : Type 0 where
  pub end : End
  pub conn : Conn
  pub is_at : IsAt d.flows.journal.ends d.flows.conns waiting.place end conn
  pub management : Management
  pub is_management : slice_get d.managements waiting.member ≡ Some management
  pub fits : waiting.invoke < 2 ^ 32
  pub drawn : waiting.invoke ≤ management.agent.last_invoke

-- it is that of the member of an address, with this invoke id
pub record IsAskFrom (d : Dif) (waiting : WaitingAsk) (addr invoke : ℕ) : Type 0 where
  pub management : Management
  pub is_management : slice_get d.managements waiting.member ≡ Some management
  pub address : management.agent.address ≡ addr
  pub invoke_is : waiting.invoke ≡ invoke

-- of the flow of the end at a place the far end stands that has this CEP-id at the member of an address
abbrev pub HasFarOf : Dif → (place from cep : ℕ) → Type 0
HasFarOf d place from cep = (far_at : ℕ) × FarOf d place from cep far_at

-- the end at a place is of this flow
abbrev pub IsEndOf : Dif → (place : ℕ) → FlowName → Type 0
IsEndOf d place flow = (end : End) → At d.flows.journal.ends place end → end.flow ≡ flow

-- and its member drew this CEP-id for it
abbrev pub HasOwnCep : Dif → (place scep : ℕ) → Type 0
HasOwnCep d place scep = (conn : Conn) → slice_get d.flows.conns place ≡ Some conn → conn.sending.form.peer.scep ≡ scep

-- a message with its invoke id is of the flow that it waits for: the ask is for this flow, and a yes tells of the far end of this flow. Both have the
-- CEP-id that the member of the ask drew
abbrev pub IsOfAsk : Dif → WaitingAsk → (to from : ℕ) → FlowWord → Type 0
IsOfAsk d waiting to from (words.Ask invoke ask) = IsAskFrom d waiting from invoke → IsEndOf d waiting.place ask.flow × HasOwnCep d waiting.place ask.scep
IsOfAsk d waiting to from (words.Answer invoke (answers.Yes cep scep)) = IsAskFrom d waiting to invoke → HasFarOf d waiting.place from cep × HasOwnCep d waiting.place scep
IsOfAsk d waiting to from word = Unit {0}

-- so it is of these asks
pub record AreOwn (asks : List WaitingAsk) (d : Dif) : Type 0 where
  pub stand : (waiting : WaitingAsk) → Contains asks waiting → StandsWaiting d waiting
  pub own : (waiting : WaitingAsk) → Contains asks waiting → (m : FlowMessage) → IsMessage d m → IsOfAsk d waiting m.to m.from m.word

-- and of all that wait; and of each ask that was made one message at most is on its way
abbrev pub AreAwaited : Dif → Type 0
AreAwaited d = AreSingle d × AreOwn d.asks.items d
