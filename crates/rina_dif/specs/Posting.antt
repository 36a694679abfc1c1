-- Messages about flows that wait at a member for one of its links.
use Rattle.std.specs.Prelude.{ℕ, List, [], ◌∷◌, ◌++◌, Option, Some, None}
use Rattle.rina_agent.specs.declared.message.ManagementMessage.TheVariants.{ToMember}
use Rattle.rina_alloc.specs.declared.message.FlowMessage.{FlowMessage}
use Rattle.rina_alloc.specs.declared.message.FlowWord.{FlowWord}
use Rattle.rina_member.specs.declared.management.Management.{Management}
use Rattle.rina_dif.specs.declared.dif.Dif.{Dif}
use Rattle.rina_dif.specs.Allocating.{way}
use Rattle.rina_dif.specs.Changing.{changed_at}

-- a message waits at a member for a link, behind what waits there
abbrev pub with_message : Management → ℕ → FlowMessage → Management
with_message m link message = record m { agent = record m.agent { agenda = m.agent.agenda ++ record { link = link; message = ToMember message } ∷ [] } }

-- so at the member of a place; where there is no link it is dropped
abbrev pub posted : ℕ → Option ℕ → FlowMessage → List Management → List Management
posted at None message ms = ms
posted at (Some link) message ms = changed_at at (λ m. with_message m link message) ms

-- a message waits at the member of a place for the link on which the way to its address begins
abbrev pub posts : Dif → ℕ → FlowMessage → List Management → List Management
posts d at message ms = posted at (way d at message.to) message ms

-- a message to the member of an address, from that of another
abbrev pub message_of : ℕ → ℕ → FlowWord → FlowMessage
message_of to from word = record { to = to; from = from; word = word }
