-- A member that is enrolled stays so, whatever message it handles.
use Rattle.std.proofs.Common.{◌≡◌, ℕ, Bool, true, false, cond, ◌++◌, Some, Result, refl, subst}
use Rattle.rina_newest.specs.declared.item.Item.{Item}
use Rattle.rina_newest.specs.Newest.{is_newer, kept_at, taken}
use Rattle.rina_enrol.specs.declared.message.LinkMessage.{LinkMessage}
use Rattle.rina_agent.specs.declared.agent.Agent.{Agent}
use Rattle.rina_agent.specs.declared.state.AgentError.{AgentError}
use Rattle.rina_agent.specs.declared.state.MemberState.TheVariants.{Enrolled}
use Rattle.rina_agent.specs.Agenda.{floods}
use Rattle.rina_member.specs.declared.management.Management.{Management}
use Rattle.rina_member.specs.Managements.{Handles}
use Rattle.rina_member.proofs.ByRows.{PutOr, handled_rows}

abbrev IsIn : Agent → Type 0
IsIn g = g.state ≡ Enrolled

took_in : (newer : Bool) (k : ℕ) (g : Agent) (item : Item) → IsIn g → IsIn (cond newer (record g { items = taken g.items item; agenda = g.agenda ++ floods (Some k) item g.links }) g)
took_in true k g item is = is
took_in false k g item is = is

pub handles_enrolled : (now link : ℕ) (message : LinkMessage) (m m' : Management) → Handles now link message m m' → m.agent.state ≡ Enrolled → m'.agent.state ≡ Enrolled
handles_enrolled now link message m m' h is =
    let g : Agent = m.agent in
    subst (λ (r : Result Agent AgentError). PutOr IsIn r) h.handles
    (handled_rows IsIn g now link message is (λ at l state invoke agenda heard stays. stays is) (λ at l invoke address heard same may. is) (λ at l invoke heard may. refl) (λ item same. took_in (is_newer item.version (kept_at g.items item.key)) link g item is))
