-- The members of a DIF as a network: what stands at a moment, what happens to it, and that each is a row.
use Rattle.std.specs.Prelude.{◌≡◌, ℕ, ◌*◌, ◌≤◌, ◌⊎◌, Bool, false, List, [], ◌∷◌, ◌++◌, drop, length, map, slice_get, slice_set, Option, Some, None, Ok, true, Contains, find, is_some, ◌<◌}
use Rattle.rina_alloc.specs.declared.message.FlowMessage.{FlowMessage}
use Rattle.rina_enrol.specs.declared.message.LinkMessage.{LinkMessage}
use Rattle.rina_newest.specs.Newest.{kept_at, value_at}
use Rattle.rina_agent.specs.declared.agent.Agent.{Agent}
use Rattle.rina_agent.specs.declared.message.ManagementMessage.{ManagementMessage}
use Rattle.rina_agent.specs.declared.message.ManagementMessage.TheVariants.{ToMember}
use Rattle.rina_agent.specs.declared.state.MemberState.TheVariants.{Enrolled}
use Rattle.rina_agent.specs.Agenda.{first_on, without_first}
use Rattle.rina_agent.specs.Counts.{spent}
use Rattle.rina_agent.specs.Enrolments.{is_numbered}
use Rattle.rina_agent.specs.Items.{made}
use Rattle.rina_agent.specs.Neighbours.{link_key, link_state}
use Rattle.rina_agent.specs.Rows.{handled, joined_link, joining, lost, was_up}
use Rattle.rina_dir.specs.Directory.{key_of}
use Rattle.rina_plan.specs.declared.dif.LinkPlan.{LinkPlan}
use Rattle.rina_data.specs.declared.settings.Member.{Member}
use Rattle.rina_member.specs.Knowing.{IsLaidOut, SameEdges, all_claims}
use Rattle.rina_member.specs.Managements.{IsSdu, IsSduOf, entry_of, takes_item}
use Rattle.rina_member.specs.Short.{IsShort}
use Rattle.rina_member.specs.Start.{HasLinksIfStatic, start_items}
use Rattle.rina_flood.specs.Network.{Side, Near, other, Unmade, There, Gone, Network, Row, link_at, waiting_at, MayLose, IsRun, after_rows, IsStart, with_invoke, with_message}
use Rattle.rina_flood.specs.Laws.{TellsLinks, TellsNone}
use Rattle.rina_flood.specs.Static.{AreEnds, AreFirst, AreOfDif, LinkEnd, end_place}

-- what stands at a moment
pub record MembersSeen : Type 0 where
  -- the members, and the agent of each at the member's place
  pub members : List Member
  pub agents : List Agent
  -- the tick
  pub now : ℕ
  -- the ends of the links, the two of a link one after the other
  pub ends : List LinkEnd
  -- by the place of an end, the texts that were offered there, and those that came from the other end and were handled
  pub sent : ℕ → List (List ℕ)
  pub got : ℕ → List (List ℕ)

-- Messages as texts

-- these texts are the bytes of messages, one by one
abbrev pub AreTexts : List ManagementMessage → List (List ℕ) → Type 0
AreTexts [] [] = Unit {0}
AreTexts [] (text ∷ texts) = ⊥
AreTexts (m ∷ ms) [] = ⊥
AreTexts (m ∷ ms) (text ∷ texts) = IsSduOf m text × AreTexts ms texts

-- a text is that of a short message, to a neighbour or about a flow
pub record IsShortText (text : List ℕ) : Type 0 where
  pub message : ManagementMessage
  pub is_sdu : IsSduOf message text
  pub short : IsShort message

-- so is each text at each place
abbrev pub AreShortTexts : (ℕ → List (List ℕ)) → Type 0
AreShortTexts texts = (place : ℕ) (text : List ℕ) → Contains (texts place) text → IsShortText text

-- The network

-- an address that no member has
abbrev pub HasNoMember : List Member → ℕ → Type 0
HasNoMember members address = (k : ℕ) (m : Member) → slice_get members k ≡ Some m → m.addr ≡ address → ⊥

-- the network is that of the members: their agents are its agents, an agent at an address that no member has is without links, the ends of the
-- links are its ends, all other links are free, and the messages that are sent and not handled in a direction are what was offered at its
-- first end beyond as many texts as were handled at the other
pub record IsNetworkOf (s : MembersSeen) (n : Network) : Type 0 where
  pub now : n.now ≡ s.now
  pub aligned : length s.agents ≡ length s.members
  pub agents : (k : ℕ) (m : Member) (a : Agent) → slice_get s.members k ≡ Some m → slice_get s.agents k ≡ Some a → n.agents m.addr ≡ a
  pub others : (address : ℕ) → HasNoMember s.members address → (n.agents address).links ≡ []
  pub within : (place : ℕ) (e : LinkEnd) → slice_get s.ends place ≡ Some e → e.member < length s.members
  pub ends : (l : ℕ) (d : Side) (e : LinkEnd) (m : Member) → slice_get s.ends (end_place l d) ≡ Some e → slice_get s.members e.member ≡ Some m → (n.ends l d ≡ m.addr) × (n.states l d ≡ e.state)
  pub unmade : (l : ℕ) (d : Side) → slice_get s.ends (end_place l d) ≡ None → n.states l d ≡ Unmade
  pub fewer : (l : ℕ) (d : Side) → length (s.got (end_place l (other d))) ≤ length (s.sent (end_place l d))
  pub sent : (l : ℕ) (d : Side) → AreTexts (n.sent l d) (drop (length (s.got (end_place l (other d)))) (s.sent (end_place l d)))

-- the first links of a network, so many, were made at both ends, and every other at none
abbrev pub HasFirstLinks : Network → ℕ → Type 0
HasFirstLinks n count = (l : ℕ) (d : Side) → (l < count → n.states l d ≡ Unmade → ⊥) × (count ≤ l → n.states l d ≡ Unmade)

-- a static DIF starts with the links of its plan, any other with none
abbrev pub first_links : Bool → List LinkPlan → ℕ
first_links true plans = length plans
first_links false plans = 0

-- the members are laid out, what stands is the network of a run from the start of the DIF, so that all laws of flooding hold of it, and
-- what was offered are short messages. A static DIF started with the links of its plan, and each member told its links; any other started
-- without links, and nobody told one. In both, enrolments may have made links since
pub record IsRunOf (is_static : Bool) (plans : List LinkPlan) (s : MembersSeen) : Type 0 where
  pub laid_out : IsLaidOut s.members plans
  pub start : Network
  pub rows : List Row
  pub starts : IsStart start (start_items is_static s.members plans)
  pub tells : is_static ≡ true → (m : Member) → Contains s.members m → TellsLinks start m.addr
  pub linked : HasFirstLinks start (first_links is_static plans)
  pub tells_none : is_static ≡ false → (m : Member) → Contains s.members m → TellsNone start m.addr
  pub run : IsRun start rows
  pub of : AreOfDif rows
  pub is : IsNetworkOf s (after_rows start rows)
  pub short : AreShortTexts s.sent

-- What happens

-- members as they start: nothing was offered or handled, a static DIF has two ends for each link of its plan, all of them made, and a DIF
-- that is not static has no links
pub record StartsWith (is_static : Bool) (plans : List LinkPlan) (s : MembersSeen) : Type 0 where
  pub laid_out : IsLaidOut s.members plans
  pub bare : HasLinksIfStatic is_static s.ends
  pub planned : is_static ≡ true → length s.ends ≡ 2 * length plans
  pub made : (k : ℕ) (e : LinkEnd) → slice_get s.ends k ≡ Some e → e.state ≡ Unmade → ⊥
  pub first : AreFirst is_static s.members plans s.agents
  pub ends : AreEnds s.members s.ends
  pub sent : (place : ℕ) → s.sent place ≡ []
  pub got : (place : ℕ) → s.got place ≡ []

-- an agent is that of the member at an end of a link
pub record IsAgentAt (s : MembersSeen) (l : ℕ) (d : Side) (end : LinkEnd) (a : Agent) : Type 0 where
  pub is_end : slice_get s.ends (end_place l d) ≡ Some end
  pub is_agent : slice_get s.agents end.member ≡ Some a

-- the texts of each place are the same
abbrev pub AreSame : (ℕ → List (List ℕ)) → (ℕ → List (List ℕ)) → Type 0
AreSame old new = (k : ℕ) → new k ≡ old k

-- there is one text more at a place
pub record Adds (place : ℕ) (text : List ℕ) (old new : ℕ → List (List ℕ)) : Type 0 where
  pub here : new place ≡ old place ++ text ∷ []
  pub elsewhere : (k : ℕ) → (k ≡ place → ⊥) → new k ≡ old k

-- members and links stay
pub record Stays (old new : MembersSeen) : Type 0 where
  pub members : new.members ≡ old.members
  pub ends : new.ends ≡ old.ends

-- nothing happens, or the clock goes on, by any number of ticks
pub record GoesOn (old new : MembersSeen) : Type 0 where
  pub stays : Stays old new
  pub now : old.now ≤ new.now
  pub agents : new.agents ≡ old.agents
  pub sent : AreSame old.sent new.sent
  pub got : AreSame old.got new.got

-- the member at an end of a link that is there loses it, and the end is gone, or keeps its number, so that no other link gets it. The other end
-- stays as it is: it may still be there
pub record LosesLinkAt (old new : MembersSeen) : Type 0 where
  pub link : ℕ
  pub side : Side
  pub end : LinkEnd
  pub agent : Agent
  pub at : IsAgentAt old link side end agent
  pub number : ℕ
  pub there : end.state ≡ There number
  pub may : MayLose agent number
  pub after : Agent
  pub loses : lost agent old.now number ≡ Ok after
  pub members : new.members ≡ old.members
  pub ends : (new.ends ≡ old.ends) ⊎ (new.ends ≡ slice_set old.ends (end_place link side) (record end { state = Gone }))
  pub now : new.now ≡ old.now
  pub agents : new.agents ≡ slice_set old.agents end.member after
  pub sent : AreSame old.sent new.sent
  pub got : AreSame old.got new.got

-- a member at a place may have a number for a new link: no end there has it, nor has a link of it. So no message waits for it
pub record IsUnused (s : MembersSeen) (place : ℕ) (agent : Agent) (number : ℕ) : Type 0 where
  pub is_agent : slice_get s.agents place ≡ Some agent
  pub ends : (k : ℕ) (e : LinkEnd) → slice_get s.ends k ≡ Some e → e.member ≡ place → e.state ≡ There number → ⊥
  pub links : find (is_numbered number) agent.links ≡ None

-- the member at a place asks for an enrolment at the member at another, on a new link: CONNECT waits for it. The two ends of the link stand
-- behind those that stood, the near one with its number, the far one not made; nothing was offered there
pub record JoinsLink (old new : MembersSeen) : Type 0 where
  pub link : ℕ
  pub behind : length old.ends ≡ end_place link Near
  pub place : ℕ
  pub far : ℕ
  pub within : far < length old.members
  pub agent : Agent
  pub number : ℕ
  pub unused : IsUnused old place agent number
  pub room : spent 1 agent.last_invoke ≡ None
  pub member : List ℕ
  pub node : List ℕ
  pub unsent : (d : Side) → old.sent (end_place link d) ≡ []
  pub members : new.members ≡ old.members
  pub ends : new.ends ≡ old.ends ++ record { member = place; state = There number } ∷ record { member = far; state = Unmade } ∷ []
  pub now : new.now ≡ old.now
  pub agents : new.agents ≡ slice_set old.agents place (joining agent number member node)
  pub sent : AreSame old.sent new.sent
  pub got : AreSame old.got new.got

-- the member at an end of a link that is not made yet gets the link: the end is made, with a number
pub record ClaimsLink (old new : MembersSeen) : Type 0 where
  pub link : ℕ
  pub side : Side
  pub end : LinkEnd
  pub agent : Agent
  pub at : slice_get old.ends (end_place link side) ≡ Some end
  pub unmade : end.state ≡ Unmade
  pub number : ℕ
  pub unused : IsUnused old end.member agent number
  pub members : new.members ≡ old.members
  pub ends : new.ends ≡ slice_set old.ends (end_place link side) (record end { state = There number })
  pub now : new.now ≡ old.now
  pub agents : new.agents ≡ slice_set old.agents end.member (record agent { links = agent.links ++ joined_link number ∷ [] })
  pub sent : AreSame old.sent new.sent
  pub got : AreSame old.got new.got

-- the member at a place makes the directory entry of an application, with a value or as a deletion
pub record MakesEntryAt (old new : MembersSeen) : Type 0 where
  pub place : ℕ
  pub agent : Agent
  pub is_agent : slice_get old.agents place ≡ Some agent
  pub room : spent 1 agent.last_count ≡ None
  pub app : List ℕ
  pub value : Option (List ℕ)
  pub stays : Stays old new
  pub now : new.now ≡ old.now
  pub agents : new.agents ≡ slice_set old.agents place (made None agent old.now (key_of app) value)
  pub sent : AreSame old.sent new.sent
  pub got : AreSame old.got new.got

-- each member, and all are enrolled, takes the directory entry of an application that is registered at one of them from the start
pub record TakesEntry (old new : MembersSeen) : Type 0 where
  pub app : List ℕ
  pub at : Member
  pub among : Contains old.members at
  pub enrolled : (k : ℕ) (a : Agent) → slice_get old.agents k ≡ Some a → a.state ≡ Enrolled
  pub stays : Stays old new
  pub now : new.now ≡ old.now
  pub agents : new.agents ≡ map (λ a. takes_item a (entry_of app at.addr)) old.agents
  pub sent : AreSame old.sent new.sent
  pub got : AreSame old.got new.got

-- the first message that waits for a link at an end that is there, a short one to a neighbour or about a flow, is offered there as it is
-- written, and waits no more
pub record OffersMessage (old new : MembersSeen) : Type 0 where
  pub link : ℕ
  pub side : Side
  pub end : LinkEnd
  pub agent : Agent
  pub at : IsAgentAt old link side end agent
  pub number : ℕ
  pub there : end.state ≡ There number
  pub message : ManagementMessage
  pub short : IsShort message
  pub first : first_on number agent.agenda ≡ Some (record { link = number; message = message })
  pub text : List ℕ
  pub written : IsSduOf message text
  pub stays : Stays old new
  pub now : new.now ≡ old.now
  pub agents : new.agents ≡ slice_set old.agents end.member (record agent { agenda = without_first number agent.agenda })
  pub sent : Adds (end_place link side) text old.sent new.sent
  pub got : AreSame old.got new.got

-- the text behind those that were handled of one end is handled at the other, which is there, as the message that is written so: an item, or
-- a message of an enrolment
pub record HandlesMessage (old new : MembersSeen) : Type 0 where
  pub link : ℕ
  pub side : Side
  pub end : LinkEnd
  pub agent : Agent
  pub at : IsAgentAt old link (other side) end agent
  pub number : ℕ
  pub there : end.state ≡ There number
  pub text : List ℕ
  pub next : slice_get (old.sent (end_place link side)) (length (old.got (end_place link (other side)))) ≡ Some text
  pub message : LinkMessage
  pub written : IsSdu message text
  pub after : Agent
  pub handles : handled agent old.now number message ≡ Ok after
  pub stays : Stays old new
  pub now : new.now ≡ old.now
  pub agents : new.agents ≡ slice_set old.agents end.member after
  pub sent : AreSame old.sent new.sent
  pub got : Adds (end_place link (other side)) text old.got new.got

-- the text behind those that were handled of one end is that of no message of a neighbour: it counts as handled at the other end, which is
-- there, and the member there stays as it is
pub record PassesOver (old new : MembersSeen) : Type 0 where
  pub link : ℕ
  pub side : Side
  pub end : LinkEnd
  pub agent : Agent
  pub at : IsAgentAt old link (other side) end agent
  pub number : ℕ
  pub there : end.state ≡ There number
  pub text : List ℕ
  pub next : slice_get (old.sent (end_place link side)) (length (old.got (end_place link (other side)))) ≡ Some text
  pub none : (m : LinkMessage) → IsSdu m text → ⊥
  pub stays : Stays old new
  pub now : new.now ≡ old.now
  pub agents : new.agents ≡ old.agents
  pub sent : AreSame old.sent new.sent
  pub got : Adds (end_place link (other side)) text old.got new.got

-- the member at a place lets a short message about a flow wait, behind its agenda, for a link of its own
pub record PostsForMember (old new : MembersSeen) : Type 0 where
  pub place : ℕ
  pub agent : Agent
  pub is_agent : slice_get old.agents place ≡ Some agent
  pub number : ℕ
  pub linked : is_some (find (is_numbered number) agent.links) ≡ true
  pub message : FlowMessage
  pub short : IsShort (ToMember message)
  pub stays : Stays old new
  pub now : new.now ≡ old.now
  pub agents : new.agents ≡ slice_set old.agents place (with_message agent number message)
  pub sent : AreSame old.sent new.sent
  pub got : AreSame old.got new.got

-- the member at a place draws an invoke id, where one is left
pub record DrawsInvoke (old new : MembersSeen) : Type 0 where
  pub place : ℕ
  pub agent : Agent
  pub is_agent : slice_get old.agents place ≡ Some agent
  pub room : spent 1 agent.last_invoke ≡ None
  pub stays : Stays old new
  pub now : new.now ≡ old.now
  pub agents : new.agents ≡ slice_set old.agents place (with_invoke agent)
  pub sent : AreSame old.sent new.sent
  pub got : AreSame old.got new.got

-- members as they start are those of a run
abbrev pub StartIsRun : Type 0
StartIsRun = (is_static : Bool) (plans : List LinkPlan) (s : MembersSeen) → StartsWith is_static plans s → IsRunOf is_static plans s

-- and they still are after it happened
abbrev pub KeepsRun : (MembersSeen → MembersSeen → Type 0) → Type 0
KeepsRun Happens = (is_static : Bool) (plans : List LinkPlan) (old new : MembersSeen) → IsRunOf is_static plans old → Happens old new → IsRunOf is_static plans new

-- Where all is quiet

-- the link at an end, which is one of the member at this place, is up there; no message waits for it, and all that was offered there is
-- handled at its other end
pub record IsQuietAt (s : MembersSeen) (l : ℕ) (d : Side) (place : ℕ) : Type 0 where
  pub end : LinkEnd
  pub agent : Agent
  pub at : IsAgentAt s l d end agent
  pub member : end.member ≡ place
  pub up : was_up (link_at end.state agent.links) ≡ true
  pub waits : waiting_at end.state agent.agenda ≡ []
  pub handled : length (s.got (end_place l (other d))) ≡ length (s.sent (end_place l d))

-- a walk over such links: each from the member at one place to that at another
abbrev pub IsQuietPath : MembersSeen → ℕ → List (ℕ × Side × ℕ) → ℕ → Type 0
IsQuietPath s i [] j = i ≡ j
IsQuietPath s i (step ∷ steps) j = IsQuietAt s step.0 step.1 i × IsQuietAt s step.0 (other step.1) step.2 × IsQuietPath s step.2 steps j

-- the members at its ends keep the same items, key by key; and in a static DIF, and where the walk is not empty, the one keeps the link state
-- of the other as the other's links are now. A member of another DIF has made none before one of its links is up
abbrev pub QuietMembersAgree : Type 0
QuietMembersAgree = (is_static : Bool) (plans : List LinkPlan) (s : MembersSeen) (i j : ℕ) (steps : List (ℕ × Side × ℕ)) (m : Member) (a b : Agent) → IsRunOf is_static plans s → IsQuietPath s i steps j → slice_get s.members i ≡ Some m → slice_get s.agents i ≡ Some a
    → slice_get s.agents j ≡ Some b → ((key : List ℕ) → kept_at a.items key ≡ kept_at b.items key) × ((is_static ≡ true) ⊎ (steps ≡ [] → ⊥) → value_at b.items (link_key m.addr) ≡ Some (link_state None a.links))

-- so their items claim the same edges
abbrev pub QuietMembersClaim : Type 0
QuietMembersClaim = (is_static : Bool) (plans : List LinkPlan) (s : MembersSeen) (i j : ℕ) (steps : List (ℕ × Side × ℕ)) (a b : Agent) → IsRunOf is_static plans s → IsQuietPath s i steps j → slice_get s.agents i ≡ Some a → slice_get s.agents j ≡ Some b → SameEdges (all_claims a.items) (all_claims b.items)
