-- Printed answers.
use Rattle.std.specs.Prelude.{ℕ, Bool, true, false, List, [], ◌∷◌, ◌++◌, codes}
use Rattle.std.specs.Fmt.{decimal}
use Rattle.rina_iface.specs.declared.state.Role.{Role}
use Rattle.rina_iface.specs.declared.state.Role.TheVariants as roles
use Rattle.rina_schedule.specs.Spelling.{spelling}
use Rattle.rina_base.specs.Classes.{class_text}
use Rattle.rina_report.specs.declared.answer.FlowNote.{FlowNote}
use Rattle.rina_report.specs.declared.answer.Answer.{Answer}
use Rattle.rina_report.specs.declared.answer.Answer.TheVariants as answers
use Rattle.rina_report.specs.Values.{num_text, flow_text, port_text, key_fields}
use Rattle.rina_report.specs.States.{state_fields, member_fields}
use Rattle.rina_report.specs.Causes.{cause_fields}
use Rattle.rina_report.specs.Refusals.{refusal_fields}
use Rattle.rina_report.specs.Steps.{took_fields, clock_fields}

unfoldable pub role_word : Role → List ℕ
role_word roles.Asker = codes "asker"
role_word roles.Far = codes "far"

-- APP PEER CUBE TAKEN STATE
unfoldable pub end_fields : FlowNote → List (List ℕ)
end_fields e = e.app ∷ e.peer ∷ decimal e.cube ∷ decimal e.taken ∷ state_fields e.state

-- flow NAME ROLE PORT APP PEER CUBE TAKEN STATE
unfoldable pub flow_fields : FlowNote → List (List ℕ)
flow_fields e = codes "flow" ∷ flow_text e.flow ∷ role_word e.role ∷ port_text e.port ∷ end_fields e

-- the word, and its fields
unfoldable pub answer_fields : Answer → List (List ℕ)
answer_fields answers.Done = codes "ok" ∷ []
answer_fields (answers.Port state) = codes "ok" ∷ state_fields state
answer_fields (answers.Member state) = codes "ok" ∷ member_fields state
answer_fields answers.Nothing = codes "none" ∷ []
answer_fields (answers.Sent num) = codes "sent" ∷ num_text num ∷ []
answer_fields (answers.Got at bytes) = codes "got" ∷ decimal at ∷ spelling bytes ∷ []
answer_fields (answers.In key end) = codes "in" ∷ key_fields key ++ took_fields end
answer_fields (answers.Out key) = codes "out" ∷ key_fields key
answer_fields (answers.OutOff key cause) = codes "out" ∷ key_fields key ++ codes "off" ∷ cause_fields cause
answer_fields (answers.Held why) = codes "held" ∷ refusal_fields why
answer_fields (answers.Clock step) = codes "clock" ∷ clock_fields step
answer_fields answers.Idle = codes "idle" ∷ []
answer_fields (answers.Cdap bytes) = codes "cdap" ∷ spelling bytes ∷ []
answer_fields (answers.Object name class value) = codes "obj" ∷ name ∷ class_text class ∷ spelling value ∷ []
answer_fields (answers.Off key cause) = codes "off" ∷ key_fields key ++ cause_fields cause
answer_fields (answers.Flow end) = flow_fields end
answer_fields (answers.SentEntry at num bytes) = codes "s" ∷ decimal at ∷ num_text num ∷ spelling bytes ∷ []
answer_fields (answers.GotEntry at num bytes) = codes "g" ∷ decimal at ∷ num_text num ∷ spelling bytes ∷ []
answer_fields (answers.Refused why) = codes "no" ∷ refusal_fields why
answer_fields (answers.Label label state) = codes "state" ∷ label ∷ state_fields state

-- the answer is about a RIB, a ledger or a journal
abbrev pub is_shown : Answer → Bool
is_shown (answers.Object name class value) = true
is_shown (answers.Off key cause) = true
is_shown (answers.Flow end) = true
is_shown (answers.SentEntry at num bytes) = true
is_shown (answers.GotEntry at num bytes) = true
is_shown answer = false

-- the answer is about an IPC process, a RIB, a ledger or a journal
abbrev pub is_of_ipc : Answer → Bool
is_of_ipc answers.Done = false
is_of_ipc (answers.Port state) = false
is_of_ipc (answers.Member state) = false
is_of_ipc answers.Nothing = false
is_of_ipc (answers.Sent num) = false
is_of_ipc (answers.Got at bytes) = false
is_of_ipc answers.Idle = false
is_of_ipc (answers.Refused why) = false
is_of_ipc (answers.Label label state) = false
is_of_ipc answer = true
