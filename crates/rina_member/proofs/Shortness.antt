-- Messages that wait are short enough for an SDU of a management connection.
use Rattle.std.proofs.Common.{◌≡◌, ℕ, ◌≤◌, List, length, Some, arith}
use Rattle.rina_alloc.proofs.Proper.{messages_short as flows_short}
use Rattle.rina_enrol.proofs.Sizes.{messages_short}
use Rattle.rina_agent.specs.declared.message.ManagementMessage.{ManagementMessage}
use Rattle.rina_agent.specs.declared.message.ManagementMessage.TheVariants.{ToMember, ToNeighbour}
use Rattle.rina_agent.specs.declared.message.Waiting.{Waiting}
use Rattle.rina_agent.specs.Agenda.{first_on, waits_on}
use Rattle.rina_member.specs.Managements.{IsSduOf}
use Rattle.rina_member.specs.Short.{AreShort, IsShort}
use Rattle.rina_member.proofs.Lists.{found}

pub text_short : (m : ManagementMessage) (bytes : List ℕ) → IsShort m → IsSduOf m bytes → length bytes ≤ 325
text_short (ToNeighbour m) bytes short spelled = messages_short m bytes short.0 short.1 spelled.spelled
text_short (ToMember m) bytes short spelled = (let few = flows_short m bytes short spelled in omega (arith, few))

-- the first message of a link is one that waits
pub first_short : (link : ℕ) (agenda : List Waiting) (waiting : Waiting) → AreShort agenda → first_on link agenda ≡ Some waiting → IsShort waiting.message
first_short link agenda waiting short first = short waiting (found (waits_on link) agenda waiting first).0
