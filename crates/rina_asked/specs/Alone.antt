-- Of each flow that is asked for in a DIF one ask at most is among the messages, and while it is, the flow has no far end.
use Rattle.std.specs.Prelude.{ℕ, zero, suc, ◌+◌, ◌^◌, ◌<◌, ◌≤◌, ◌==◌, ◌&&◌, if◌then◌else◌, Bool, false, List, ◌++◌, bytes_eq, drop, slice_index_or, sum_by, take}
use Rattle.rina_base.specs.declared.number.FlowName.{FlowName}
use Rattle.rina_cdap.specs.Messages.{be4}
use Rattle.rina_agent.specs.declared.message.ManagementMessage.{ManagementMessage}
use Rattle.rina_agent.specs.declared.message.ManagementMessage.TheVariants.{ToMember, ToNeighbour}
use Rattle.rina_agent.specs.declared.message.Waiting.{Waiting}
use Rattle.rina_alloc.specs.declared.message.FlowWord.{FlowWord}
use Rattle.rina_alloc.specs.declared.message.FlowWord.TheVariants as words
use Rattle.rina_flood.specs.Network.{Far, Near}
use Rattle.rina_iface.specs.declared.ends.End.{End}
use Rattle.rina_iface.specs.declared.state.Role.{Role}
use Rattle.rina_iface.specs.declared.state.Role.TheVariants as roles
use Rattle.rina_member.specs.declared.management.Management.{Management}
use Rattle.rina_dif.specs.declared.dif.Dif.{Dif}
use Rattle.rina_asked.specs.Messages.{on_link}

-- How many there are

abbrev pub one : Bool → ℕ
one b = if b then 1 else 0

-- of the messages that wait at the members
abbrev pub one_waiting : (ManagementMessage → ℕ) → Management → ℕ
one_waiting F m = sum_by (λ (w : Waiting). F w.message) m.agent.agenda

abbrev pub all_waiting : (ManagementMessage → ℕ) → List Management → ℕ
all_waiting F ms = sum_by (one_waiting F) ms

-- of the texts on the first links
abbrev pub all_on_links : (List ℕ → ℕ) → Dif → ℕ → ℕ
all_on_links F d zero = 0
all_on_links F d (suc l) = all_on_links F d l + (sum_by F (on_link d l Near) + sum_by F (on_link d l Far))

-- Asks for one flow

-- a name as an ask has it
abbrev pub name_text : FlowName → List ℕ
name_text f = be4 f.src ++ (be4 f.tick ++ be4 f.count)

abbrev pub word_asks : FlowName → FlowWord → Bool
word_asks f (words.Ask invoke ask) = bytes_eq (name_text ask.flow) (name_text f)
word_asks f word = false

abbrev pub asks : FlowName → ManagementMessage → Bool
asks f (ToMember m) = word_asks f m.word
asks f (ToNeighbour m) = false

-- a text is that of one: it says CREATE, its class has four bytes, and its value begins with the name
abbrev pub text_asks : FlowName → List ℕ → Bool
text_asks f text = (slice_index_or text 3 0 == 4) && ((slice_index_or text 13 0 == 4) && bytes_eq (take 12 (drop 29 text)) (name_text f))

-- Ends of one flow

abbrev pub is_of : FlowName → FlowName → Bool
is_of f name = (name.src == f.src) && ((name.tick == f.tick) && (name.count == f.count))

abbrev pub is_far : FlowName → Role → FlowName → Bool
is_far f roles.Far name = is_of f name
is_far f roles.Asker name = false

abbrev pub is_asker : FlowName → Role → FlowName → Bool
is_asker f roles.Asker name = is_of f name
is_asker f roles.Far name = false

abbrev pub far_ends : FlowName → List End → ℕ
far_ends f ends = sum_by (λ (e : End). one (is_far f e.role e.flow)) ends

abbrev pub askers : FlowName → List End → ℕ
askers f ends = sum_by (λ (e : End). one (is_asker f e.role e.flow)) ends

-- its numbers are those of its type
pub record IsName (f : FlowName) : Type 0 where
  pub src : f.src < 2 ^ 32
  pub tick : f.tick < 2 ^ 32
  pub count : f.count < 2 ^ 32

-- the asks on their way and the far ends are no more than the askers' ends, of which a flow has one
abbrev pub AreAlone : Dif → Type 0
AreAlone d = (f : FlowName) (links : ℕ) → IsName f
    → all_waiting (λ x. one (asks f x)) d.managements + all_on_links (λ t. one (text_asks f t)) d links + far_ends f d.flows.journal.ends ≤ askers f d.flows.journal.ends
