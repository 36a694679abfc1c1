-- What comes late: an ask that no answer came to for its whole time, and a yes for which no ask waits any more.
use Rattle.std.specs.Prelude.{◌≡◌, ℕ, ◌+◌, ◌≤◌, List, slice_get, Some, Ok}
use Rattle.rina_base.specs.declared.number.Port.{Port}
use Rattle.rina_alloc.specs.declared.answer.FlowAnswer.TheVariants as answers
use Rattle.rina_alloc.specs.declared.message.FlowMessage.{FlowMessage}
use Rattle.rina_alloc.specs.declared.message.FlowWord.TheVariants as words
use Rattle.rina_data.specs.declared.settings.Member.{Member}
use Rattle.rina_data.specs.declared.step.ClockStep.TheVariants as step
use Rattle.rina_iface.specs.declared.ends.End.{End}
use Rattle.rina_iface.specs.declared.state.PortState.TheVariants.{Pending, Refused}
use Rattle.rina_iface.specs.declared.state.Why.TheVariants.{Timeout}
use Rattle.rina_iface.specs.Journal.{At}
use Rattle.rina_iface.specs.Seen.{Seen}
use Rattle.rina_law.specs.Direction.{Direction}
use Rattle.rina_dif.specs.declared.dif.Dif.{Dif}
use Rattle.rina_dif.specs.AnswersIn.{NoAsk}
use Rattle.rina_dif.specs.Clocking.{ClockSteps}
use Rattle.rina_dif.specs.FlowMessages.{HandlesFlow}
use Rattle.rina_dif.specs.Posting.{message_of, posts}

-- the end of a port was pending and has waited its whole time, since the tick of its flow; it is refused for that now
pub record WaitedInVain (d : Dif) (port : Port) (d' : Dif) : Type 0 where
  pub place : ℕ
  pub end : End
  pub stands : At d.flows.journal.ends place end
  pub port_is : end.port ≡ port
  pub waits : end.state ≡ Pending
  pub whole : end.flow.tick + d.laid.wait ≤ d.clock
  pub after : End
  pub is_after : At d'.flows.journal.ends place after
  pub refused : after.state ≡ Refused (Timeout end.flow.tick d.clock)

-- so it is in each clock step that tells of a time-out
abbrev pub TimeOutsComeLate : Type 0
TimeOutsComeLate = (d d' : Dif) (lines : List Direction) (below below' : Seen) (node : ℕ) (port : Port) → ClockSteps d lines below node (Ok (step.Timeout port)) d' below' → WaitedInVain d port d'

-- where a yes comes for which no ask of its invoke id waits at the member of a place, a DELETE to its sender is posted, and nothing else happens
abbrev pub LateYesesGoBack : Type 0
LateYesesGoBack = (d d' : Dif) (lines lines' : List Direction) (below : Seen) (i : ℕ) (member : Member) (m : FlowMessage) (invoke cep scep : ℕ) → slice_get d.settings.members i ≡ Some member → m.to ≡ member.addr → m.word ≡ words.Answer invoke (answers.Yes cep scep)
    → NoAsk d i invoke → HandlesFlow d lines below i m (Ok tt) d' lines' → d' ≡ record d { managements = posts d i (message_of m.from member.addr (words.Delete cep scep)) d.managements }
