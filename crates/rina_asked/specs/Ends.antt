-- The end that a message about a flow tells of: the asker's of an ask, and the far end of a yes.
use Rattle.std.specs.Prelude.{◌≡◌, ℕ}
use Rattle.rina_alloc.specs.declared.answer.FlowAnswer.TheVariants as answers
use Rattle.rina_alloc.specs.declared.message.FlowAsk.{FlowAsk}
use Rattle.rina_alloc.specs.declared.message.FlowMessage.{FlowMessage}
use Rattle.rina_alloc.specs.declared.message.FlowWord.{FlowWord}
use Rattle.rina_alloc.specs.declared.message.FlowWord.TheVariants as words
use Rattle.rina_conn.specs.declared.conn.Conn.{Conn}
use Rattle.rina_flows.specs.Tied.{IsAt}
use Rattle.rina_iface.specs.declared.ends.End.{End}
use Rattle.rina_iface.specs.declared.state.Role.TheVariants.{Far}
use Rattle.rina_dif.specs.declared.dif.Dif.{Dif}
use Rattle.rina_dif.specs.FarMaking.{AsksFor, LeadsTo}
use Rattle.rina_asked.specs.Messages.{IsMessage}

-- at a place stands the asker's end of an ask from the member of an address to that of another: it has the name, the applications and the cube
-- of the ask, and its connection the two addresses, and the CEP-id of the ask as its own
pub record IsAskersEnd (d : Dif) (place own from : ℕ) (ask : FlowAsk) : Type 0 where
  pub end : End
  pub conn : Conn
  pub is_at : IsAt d.flows.journal.ends d.flows.conns place end conn
  pub asks : AsksFor end ask
  pub leads : LeadsTo conn.sending.form.peer own from ask.scep

-- at a place stands the far end of a yes from the member of an address to that of another: its connection has the two addresses, and the CEP-id
-- of the yes as its own
pub record IsFarEnd (d : Dif) (place own from cep : ℕ) : Type 0 where
  pub end : End
  pub conn : Conn
  pub is_at : IsAt d.flows.journal.ends d.flows.conns place end conn
  pub is_far : end.role ≡ Far
  pub leads : LeadsTo conn.sending.form.peer own from cep

-- the end that a message tells of: that of the asker where it is an ask, the far end where it is a yes
abbrev pub HasEnd : Dif → (own from : ℕ) → FlowWord → Type 0
HasEnd d own from (words.Ask invoke ask) = (place : ℕ) × IsAskersEnd d place own from ask
HasEnd d own from (words.Answer invoke (answers.Yes cep scep)) = (place : ℕ) × IsFarEnd d place own from cep
HasEnd d own from word = Unit {0}

-- that of each message stands
abbrev pub HaveEnds : Dif → Type 0
HaveEnds d = (m : FlowMessage) → IsMessage d m → HasEnd d m.to m.from m.word
