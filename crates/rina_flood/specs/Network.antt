-- A network of members: the management of each, the links between them, and what happens to it, row by row. Each row is one call of
-- one member, or what the connections between them do.
use Rattle.std.specs.Prelude.{◌≡◌, ℕ, ◌+◌, ◌≤◌, ◌<◌, ◌^◌, ◌⊎◌, Bool, true, false, ◌&&◌, ◌||◌, not, ◌==◌, List, ◌∷◌, ◌++◌, find, flat_map, Option, Some, None, is_some, Contains, if◌then◌else◌, []}
use Rattle.rina_alloc.specs.declared.message.FlowMessage.{FlowMessage}
use Rattle.rina_enrol.specs.declared.message.LinkMessage.{LinkMessage}
use Rattle.rina_enrol.specs.declared.message.LinkMessage.TheVariants as messages
use Rattle.rina_newest.specs.declared.item.Item.{Item}
use Rattle.rina_newest.specs.Newest.{item_of, taken, taken_all, AreTold}
use Rattle.rina_agent.specs.declared.agent.Agent.{Agent}
use Rattle.rina_agent.specs.declared.link.Link.{Link}
use Rattle.rina_agent.specs.declared.message.ManagementMessage.{ManagementMessage}
use Rattle.rina_agent.specs.declared.message.ManagementMessage.TheVariants.{ToNeighbour, ToMember}
use Rattle.rina_agent.specs.declared.message.Waiting.{Waiting}
use Rattle.rina_agent.specs.declared.state.MemberState.{MemberState}
use Rattle.rina_agent.specs.declared.state.MemberState.TheVariants as states
use Rattle.rina_agent.specs.Agenda.{first_on, waiting_on}
use Rattle.rina_agent.specs.Counts.{spent}
use Rattle.rina_agent.specs.Enrolled.{Event, Handles, Makes, Enrols, Claims, Loses, Takes, after}
use Rattle.rina_agent.specs.Enrolments.{is_numbered}
use Rattle.rina_agent.specs.Items.{own_item}
use Rattle.rina_agent.specs.Neighbours.{link_key, link_state, member_key}
use Rattle.rina_agent.specs.Rows.{was_up}

-- The two ends of a link. A direction is a link and the end that sends
pub data Side : Type 0 where
  Near : Side
  Far : Side

abbrev pub other : Side → Side
other Near = Far
other Far = Near

abbrev pub is_side : Side → Side → Bool
is_side Near Near = true
is_side Near Far = false
is_side Far Near = false
is_side Far Far = true

abbrev pub is_direction : ℕ → Side → ℕ → Side → Bool
is_direction link side l d = (l == link) && is_side side d

-- An end of a link is not made yet; it is there, with the number that its member has for the link; or it is gone: its member lost the link,
-- and the number may be that of another
pub data EndState : Type 0 where
  Unmade : EndState
  There : (number : ℕ) → EndState
  Gone : EndState

-- Members are named by their addresses. A link has a member at each end, and each of the two has a number of its own for it while its
-- end is there. A link of which no end was made yet is free.
pub record Network : Type 0 where
  -- the tick
  pub now : ℕ
  -- the management of the member of each address; at an address that no member has, any, to which nothing happens
  pub agents : ℕ → Agent
  -- the member at each end of a link, or that which will be there, and what became of the end; the member at an end of a free link is any
  pub ends : ℕ → Side → ℕ
  pub states : ℕ → Side → EndState
  -- of each direction, the messages that were taken from the sender's agenda and not handled at the other end, first in first
  pub sent : ℕ → Side → List ManagementMessage
  -- two journals: the items that were made, those of the start among them, and of each member the items that it made or was offered
  pub made : List Item
  pub offered : ℕ → List Item

-- What is seen of a network

-- of the links of a member the one of an end that is there, and the messages that wait for it
abbrev pub link_at : EndState → List Link → Option Link
link_at (There number) links = find (is_numbered number) links
link_at other links = None

abbrev pub waiting_at : EndState → List Waiting → List ManagementMessage
waiting_at (There number) agenda = waiting_on number agenda
waiting_at other agenda = []

-- one end of a link is up
abbrev pub is_up : Network → ℕ → Side → Bool
is_up n l d = was_up (link_at (n.states l d) (n.agents (n.ends l d)).links)

-- a link is up at both ends
abbrev pub joins : Network → ℕ → Bool
joins n l = is_up n l Near && is_up n l Far

-- the member at one end has the link: the end is made, and not lost
abbrev pub has_link : Network → ℕ → Side → Bool
has_link n l d = is_some (link_at (n.states l d) (n.agents (n.ends l d)).links)

-- the member at an end that was made has lost the link
abbrev pub has_lost : EndState → List Link → Bool
has_lost Unmade links = false
has_lost (There number) links = not (is_some (find (is_numbered number) links))
has_lost Gone links = true

abbrev pub is_lost : Network → ℕ → Side → Bool
is_lost n l d = has_lost (n.states l d) (n.agents (n.ends l d)).links

-- a direction stands: the sender's end is up, and the member at the other end has the link
abbrev pub stands : Network → ℕ → Side → Bool
stands n l d = is_up n l d && has_link n l (other d)

-- the messages of a direction that are not handled: those that were taken from the agenda, and behind them those that wait there
abbrev pub unhandled : Network → ℕ → Side → List ManagementMessage
unhandled n l d = n.sent l d ++ waiting_at (n.states l d) (n.agents (n.ends l d)).agenda

-- the item that a message carries
abbrev pub item_in : LinkMessage → List Item
item_in (messages.Item x) = x ∷ []
item_in (messages.Flood x) = x ∷ []
item_in other = []

abbrev pub carried : ManagementMessage → List Item
carried (ToNeighbour m) = item_in m
carried (ToMember m) = []

-- the items on their way in a direction
abbrev pub on_way : Network → ℕ → Side → List Item
on_way n l d = flat_map carried (unhandled n l d)

-- What happens

-- the link state of a member as its links are, in the version of the item that it made last
abbrev pub last_state : Agent → ℕ → Item
last_state a now = item_of (link_key a.address) (record { tick = now; count = a.last_count; origin = a.address }) (Some (link_state None a.links))

-- a member that is not enrolled makes its member item in the step in which it enters
abbrev pub entering : MemberState → Agent → ℕ → List Item
entering states.Enrolled a now = []
entering other a now = own_item a now (member_key a.address) (Some a.node) ∷ []

-- nothing is made in a step in which the counter stays
abbrev pub if_counted : Agent → Agent → List Item → List Item
if_counted a b items = if b.last_count == a.last_count then [] else items

-- the items that a member makes at a call that is not refused: where it brings a link up, its link state is among them
abbrev pub news : Agent → Event → List Item
news a (Makes now key value) = own_item a now key value ∷ []
news a (Loses now link) = if was_up (find (is_numbered link) a.links) then own_item a now (link_key a.address) (Some (link_state (Some link) a.links)) ∷ [] else []
news a (Handles now link (messages.Start invoke address)) = if_counted a (after a (Handles now link (messages.Start invoke address))) (last_state (after a (Handles now link (messages.Start invoke address))) now ∷ [])
news a (Handles now link (messages.Stop invoke)) = if_counted a (after a (Handles now link (messages.Stop invoke))) (entering a.state a now ++ last_state (after a (Handles now link (messages.Stop invoke))) now ∷ [])
news a other = []

-- the items that a call makes, or that a message offers
abbrev pub offers : Agent → Event → List Item
offers a (Handles now link (messages.Item x)) = x ∷ []
offers a (Handles now link (messages.Flood x)) = x ∷ []
offers a e = news a e

-- one place changes
abbrev pub put_agent : ℕ → Agent → (ℕ → Agent) → ℕ → Agent
put_agent i a agents j = if j == i then a else agents j

abbrev pub put_offers : ℕ → List Item → (ℕ → List Item) → ℕ → List Item
put_offers i items offered j = if j == i then offered j ++ items else offered j

abbrev pub put_sent : ℕ → Side → List ManagementMessage → (ℕ → Side → List ManagementMessage) → ℕ → Side → List ManagementMessage
put_sent link side ms sent l d = if is_direction link side l d then ms else sent l d

abbrev pub put_state : ℕ → Side → EndState → (ℕ → Side → EndState) → ℕ → Side → EndState
put_state link side state states l d = if is_direction link side l d then state else states l d

-- a link is between two members: that at a side, and that at the other
abbrev pub put_ends : ℕ → Side → ℕ → ℕ → (ℕ → Side → ℕ) → ℕ → Side → ℕ
put_ends link side i j ends l d = if l == link then (if is_side side d then i else j) else ends l d

-- a call of a member
abbrev pub called : Network → ℕ → Event → Network
called n i e = record n {
  agents = put_agent i (after (n.agents i) e) n.agents;
  made = n.made ++ news (n.agents i) e;
  offered = put_offers i (offers (n.agents i) e) n.offered;
}

-- where a row names the number of a link, it is that of the end at which it happens
pub data Row : Type 0 where
  -- a member makes an item of its own, such as a directory entry
  Make : (i : ℕ) (key : List ℕ) (value : Option (List ℕ)) → Row
  -- a message about a flow is put on a link of a member, among the others
  Put : (i number : ℕ) (m : FlowMessage) → Row
  -- a member draws an invoke id, for a message about a flow
  Draw : (i : ℕ) → Row
  -- the first message that waits for a link is taken, and sent
  Take : (link : ℕ) (side : Side) (number : ℕ) (m : ManagementMessage) → Row
  -- the first message of a direction is handled at its other end
  Handle : (link : ℕ) (side : Side) (number : ℕ) (m : ManagementMessage) (rest : List ManagementMessage) → Row
  -- the member at one end of a link loses it; and the end is gone, so that its number may be that of another link
  Lose : (link : ℕ) (side : Side) (number : ℕ) → Row
  Leave : (link : ℕ) (side : Side) (number : ℕ) → Row
  -- some messages that were sent on a link that an end has lost are lost
  Drop : (link : ℕ) (side : Side) (left : List ManagementMessage) → Row
  -- member i asks for an enrolment on a new link to member j, and its end is made; the end of member j is made, when it gets that link
  Enrol : (link : ℕ) (side : Side) (number i j : ℕ) (member node : List ℕ) → Row
  Claim : (link : ℕ) (side : Side) (number : ℕ) → Row
  -- each enrolled member takes an item at once, without a flood, as where a static flow is bound
  Know : (x : Item) → Row
  -- a tick passes
  Pass : Row

-- a message about a flow is put behind those that wait for a link
abbrev pub with_message : Agent → ℕ → FlowMessage → Agent
with_message a link m = record a { agenda = a.agenda ++ record { link = link; message = ToMember m } ∷ [] }

-- an invoke id is drawn
abbrev pub with_invoke : Agent → Agent
with_invoke a = record a { last_invoke = a.last_invoke + 1 }

-- a message comes to a member: one for neighbours is handled, one about a flow is none of its items
abbrev pub comes : ManagementMessage → Network → ℕ → ℕ → Network
comes (ToNeighbour m) n i number = called n i (Handles n.now number m)
comes (ToMember m) n i number = n

-- a member is enrolled
abbrev pub is_in : MemberState → Bool
is_in states.Enrolled = true
is_in other = false

abbrev pub is_enrolled : Agent → Bool
is_enrolled a = is_in a.state

-- an enrolled member takes an item
abbrev pub with_item : Item → Agent → Agent
with_item x a = if is_enrolled a then record a { items = taken a.items x } else a

-- so does each; the item is made, and offered to all of them
abbrev pub known : Network → Item → Network
known n x = record n {
  agents = λ i. with_item x (n.agents i);
  made = n.made ++ x ∷ [];
  offered = λ i. n.offered i ++ (if is_enrolled (n.agents i) then x ∷ [] else []);
}

-- an end of a link is gone, or made
abbrev pub with_state : Network → ℕ → Side → EndState → Network
with_state n link side state = record n { states = put_state link side state n.states }

-- a new link is between two members, and has a number at the first
abbrev pub laid : Network → ℕ → Side → ℕ → ℕ → ℕ → Network
laid n link side number i j = record n { ends = put_ends link side i j n.ends; states = put_state link side (There number) n.states }

abbrev pub happens : Network → Row → Network
happens n (Make i key value) = called n i (Makes n.now key value)
happens n (Put i number m) = record n { agents = put_agent i (with_message (n.agents i) number m) n.agents }
happens n (Draw i) = record n { agents = put_agent i (with_invoke (n.agents i)) n.agents }
happens n (Take link side number m) = called (record n { sent = put_sent link side (n.sent link side ++ m ∷ []) n.sent }) (n.ends link side) (Takes number)
happens n (Handle link side number m rest) = comes m (record n { sent = put_sent link side rest n.sent }) (n.ends link (other side)) number
happens n (Lose link side number) = called n (n.ends link side) (Loses n.now number)
happens n (Leave link side number) = with_state n link side Gone
happens n (Drop link side left) = record n { sent = put_sent link side left n.sent }
happens n (Enrol link side number i j member node) = called (laid n link side number i j) i (Enrols number member node)
happens n (Claim link side number) = called (with_state n link side (There number)) (n.ends link side) (Claims number)
happens n (Know x) = known n x
happens n Pass = record n { now = n.now + 1 }

-- a link is free: no end of it was made, and nothing was sent
abbrev pub IsFree : Network → ℕ → Type 0
IsFree n link = (d : Side) → (n.states link d ≡ Unmade) × (n.sent link d ≡ [])

-- a member may have a number for a new link: no end of a link at that member has it, nor has a link of it, and no message waits for it
pub record IsNewNumber (n : Network) (i number : ℕ) : Type 0 where
  pub ends : (l : ℕ) (d : Side) → n.ends l d ≡ i → n.states l d ≡ There number → ⊥
  pub links : find (is_numbered number) (n.agents i).links ≡ None
  pub agenda : waiting_on number (n.agents i).agenda ≡ []

-- An item may be known at once: a link that stands and has an enrolled sender has one at its other end too, so that neither is to tell
-- the other; and the item is no later than now and no more than its maker has counted, and the only one of its key and version
pub record MayBeKnown (n : Network) (x : Item) : Type 0 where
  pub both : (l : ℕ) (d : Side) → stands n l d ≡ true → is_enrolled (n.agents (n.ends l d)) ≡ true → is_enrolled (n.agents (n.ends l (other d))) ≡ true
  pub one : (y : Item) → Contains n.made y → y.key ≡ x.key → y.version ≡ x.version → y ≡ x
  pub past : x.version.tick ≤ n.now
  pub counted : x.version.count ≤ (n.agents x.version.origin).last_count

-- the loss of a link is not refused: where the link is up, a version count is left for the link state
abbrev pub MayLose : Agent → ℕ → Type 0
MayLose a number = was_up (find (is_numbered number) a.links) ≡ true → spent 1 a.last_count ≡ None

-- When a row may happen: an end at which it happens is there, a message about a flow is put on a link that its member has, a call and the
-- draw of an invoke id are not refused, the message that is taken or handled is the first one, an end is gone only where its member lost the link, a connection loses
-- messages only where an end has lost the link, and an end that is made has a new number. The end that is made second is so before the first is up
abbrev pub May : Network → Row → Type 0
May n (Make i key value) = spent 1 (n.agents i).last_count ≡ None
May n (Put i number m) = is_some (find (is_numbered number) (n.agents i).links) ≡ true
May n (Draw i) = spent 1 (n.agents i).last_invoke ≡ None
May n (Take link side number m) = (n.states link side ≡ There number) × (first_on number (n.agents (n.ends link side)).agenda ≡ Some (record { link = number; message = m }))
May n (Handle link side number m rest) = (n.states link (other side) ≡ There number) × (n.sent link side ≡ m ∷ rest)
May n (Lose link side number) = (n.states link side ≡ There number) × MayLose (n.agents (n.ends link side)) number
May n (Leave link side number) = (n.states link side ≡ There number) × (find (is_numbered number) (n.agents (n.ends link side)).links ≡ None)
May n (Drop link side left) = ((is_lost n link Near || is_lost n link Far) ≡ true) × ((m : ManagementMessage) → Contains left m → Contains (n.sent link side) m)
May n (Enrol link side number i j member node) = IsFree n link × IsNewNumber n i number × (i < 2 ^ 32) × (j < 2 ^ 32) × (spent 1 (n.agents i).last_invoke ≡ None)
May n (Claim link side number) = (n.states link side ≡ Unmade) × IsNewNumber n (n.ends link side) number × (is_up n link (other side) ≡ false)
May n (Know x) = MayBeKnown n x
May n Pass = Unit {0}

abbrev pub IsRun : Network → List Row → Type 0
IsRun n [] = Unit {0}
IsRun n (row ∷ rows) = May n row × IsRun (happens n row) rows

abbrev pub after_rows : Network → List Row → Network
after_rows n [] = n
after_rows n (row ∷ rows) = after_rows (happens n row) rows

-- The start

-- no two links of a member have one number
abbrev pub AreApart : List Link → Type 0
AreApart [] = Unit {0}
AreApart (l ∷ links) = (find (is_numbered l.number) links ≡ None) × AreApart links

-- no two ends at one member have one number
abbrev pub AreEndsApart : Network → Type 0
AreEndsApart n = (l : ℕ) (d : Side) (k : ℕ) (e : Side) (number : ℕ) → n.ends l d ≡ n.ends k e → n.states l d ≡ There number → n.states k e ≡ There number → (l ≡ k) × (d ≡ e)

-- a member keeps the items of the start, which it took in turn
abbrev pub KnowsAll : Network → List Item → ℕ → Type 0
KnowsAll n told i = ((n.agents i).items ≡ taken_all [] told) × (n.offered i ≡ told)

-- it is outside, and keeps nothing
abbrev pub KnowsNothing : Network → ℕ → Type 0
KnowsNothing n i = ((n.agents i).items ≡ []) × (n.offered i ≡ [])

-- A start: each member keeps the same items or none, those at links that are up keep them, and no message waits or is on its way
pub record IsStart (n : Network) (told : List Item) : Type 0 where
  pub addresses : (i : ℕ) → (n.agents i).address ≡ i
  pub knows : (i : ℕ) → KnowsAll n told i ⊎ KnowsNothing n i
  pub both : (l : ℕ) (d : Side) → stands n l d ≡ true → KnowsAll n told (n.ends l (other d))
  pub agendas : (i : ℕ) → (n.agents i).agenda ≡ []
  pub sent : (l : ℕ) (d : Side) → n.sent l d ≡ []
  -- the journal has the items of the start, no later than now and no more than their makers have counted
  pub made : n.made ≡ told
  pub one : AreTold told
  pub past : (x : Item) → Contains told x → x.version.tick ≤ n.now
  pub counted : (x : Item) → Contains told x → x.version.count ≤ (n.agents x.version.origin).last_count
  -- no two links have one number at one member, and addresses fit in 32 bits
  pub apart : (i : ℕ) → AreApart (n.agents i).links
  pub laid : AreEndsApart n
  pub fit : (l : ℕ) (d : Side) → n.ends l d < 2 ^ 32
