-- What comes over a link of a DIF.
use Rattle.std.specs.Prelude.{◌≡◌, ℕ, ◌<◌, Bool, true, List, length, slice_get, Some}
use Rattle.rina_enrol.specs.declared.message.LinkMessage.{LinkMessage}
use Rattle.rina_enrol.specs.Messages.{IsInRange, IsSpelled}
use Rattle.rina_newest.specs.declared.item.Item.{Item}
use Rattle.rina_agent.specs.declared.agent.Agent.{Agent}
use Rattle.rina_agent.specs.declared.message.ManagementMessage.TheVariants.{ToNeighbour}
use Rattle.rina_plan.specs.declared.dif.LinkPlan.{LinkPlan}
use Rattle.rina_member.specs.Handling.{OwnIsNewest, item_in}
use Rattle.rina_member.specs.Short.{IsShort}
use Rattle.rina_flood.specs.Network.{Side, other}
use Rattle.rina_flood.specs.Static.{LinkEnd, end_place}
use Rattle.rina_flood.specs.Members.{IsAgentAt, IsRunOf, MembersSeen}

-- of the texts that one end of a link offered, the first that is not handled at the other end, where this agent is, is that of a message of a
-- neighbour
pub record ComesNext (s : MembersSeen) (l : ℕ) (d : Side) (end : LinkEnd) (agent : Agent) (message : LinkMessage) : Type 0 where
  pub at : IsAgentAt s l (other d) end agent
  pub text : List ℕ
  pub next : slice_get (s.sent (end_place l d)) (length (s.got (end_place l (other d)))) ≡ Some text
  pub in_range : IsInRange message
  pub spelled : IsSpelled message text

-- the message is short; where it brings the link state of the member to which it comes, this keeps one as new; and on a link of the plan
-- of a static DIF, on which no enrolment runs, it brings an item
pub record IsOfMember (is_static : Bool) (plans : List LinkPlan) (l : ℕ) (agent : Agent) (message : LinkMessage) : Type 0 where
  pub short : IsShort (ToNeighbour message)
  pub own : OwnIsNewest agent message
  pub brings : is_static ≡ true → l < length plans → (item : Item) × (item_in message ≡ Some item)

-- each message that comes is such a one
abbrev pub WhatComes : Type 0
WhatComes = (is_static : Bool) (plans : List LinkPlan) (s : MembersSeen) (l : ℕ) (d : Side) (end : LinkEnd) (agent : Agent) (message : LinkMessage) → IsRunOf is_static plans s → ComesNext s l d end agent message → IsOfMember is_static plans l agent message
