-- How a member of a DIF that is asked for a flow decides, and how it makes the far end.
use Rattle.std.specs.Prelude.{◌≡◌, ℕ, ◌+◌, ◌*◌, ◌^◌, ◌⊎◌, Bool, true, false, nat_le, if◌then◌else◌, ◌<◌, ◌≤◌, List, [], ◌∷◌, ◌++◌, length, slice_get, Option, Some, None, option_and_then, unwrap_or, Result, Ok, Err}
use Rattle.rina_access.specs.Access.{decided}
use Rattle.rina_access.specs.declared.rules.Act.TheVariants.{Allocate}
use Rattle.rina_access.specs.declared.rules.Decision.{Decision}
use Rattle.rina_alloc.specs.declared.answer.FlowAnswer.{FlowAnswer}
use Rattle.rina_alloc.specs.declared.answer.FlowAnswer.TheVariants as answers
use Rattle.rina_alloc.specs.declared.event.AskDo.{AskDo}
use Rattle.rina_alloc.specs.declared.event.AskDo.TheVariants as does
use Rattle.rina_alloc.specs.declared.message.FlowAsk.{FlowAsk}
use Rattle.rina_alloc.specs.declared.message.FlowWord.TheVariants as words
use Rattle.rina_alloc.specs.Machines.{answer_of}
use Rattle.rina_alloc.specs.Words.{answer_at}
use Rattle.rina_base.specs.declared.memory.Memory.{Memory as NoMemory}
use Rattle.rina_base.specs.declared.number.FlowName.{FlowName}
use Rattle.rina_conn.specs.declared.conn.Conn.{Conn}
use Rattle.rina_conn.specs.declared.form.Peer.{Peer}
use Rattle.rina_cube.specs.declared.Cube.{Cube}
use Rattle.rina_cube.specs.Cubes.{delta_of}
use Rattle.rina_data.specs.declared.settings.Member.{Member}
use Rattle.rina_data.specs.declared.settings.Settings.{Settings}
use Rattle.rina_data.specs.Configs.{config_of, cube_by, greatest, piece_size}
use Rattle.rina_ids.specs.Ids.{free_id}
use Rattle.rina_ids.specs.Members.{CepIds, DrawsAt, with_drawn}
use Rattle.rina_iface.specs.declared.ends.End.{End}
use Rattle.rina_iface.specs.declared.state.Role.TheVariants.{Asker, Far}
use Rattle.rina_iface.specs.Journal.{At}
use Rattle.rina_iface.specs.Seen.{Seen, is_registered}
use Rattle.rina_law.specs.Direction.{Direction}
use Rattle.rina_member.specs.declared.management.Management.{Management}
use Rattle.rina_dif_law.specs.Answering.{IsFarMade}
use Rattle.rina_flows.specs.declared.flows.Flows.{Flows}
use Rattle.rina_flows.specs.Adding.{AddsFar}
use Rattle.rina_flows.specs.Elsewhere.{SameBut}
use Rattle.rina_flows.specs.Tied.{IsAt}
use Rattle.rina_dif.specs.declared.dif.Dif.{Dif}
use Rattle.rina_dif.specs.declared.far_ends.Grounds.{Grounds}
use Rattle.rina_dif.specs.Allocating.{spent_ids}
use Rattle.rina_dif.specs.Changing.{with_flow_at}
use Rattle.rina_dif.specs.Elsewhere.{enrolled_home}
use Rattle.rina_dif.specs.Freeing.{IsKept}
use Rattle.rina_dif.specs.Holding.{Holds}
use Rattle.rina_dif.specs.Posting.{message_of, posts}
use Rattle.rina_dif.specs.Shown.{seen_of}

-- Who asks

-- an end asks for what an ask says: it is the asker's of the flow of that name, between these applications and in this cube
pub record AsksFor (end : End) (ask : FlowAsk) : Type 0 where
  pub asks : end.role ≡ Asker
  pub flow : end.flow ≡ ask.flow
  pub cube : end.cube ≡ ask.cube
  pub app : end.app ≡ ask.source
  pub peer : end.peer ≡ ask.destination

-- a connection leads from the member of an address, with this CEP-id there, to that of another
pub record LeadsTo (peer : Peer) (own from scep : ℕ) : Type 0 where
  pub asker : peer.own ≡ from
  pub asked : peer.far ≡ own
  pub its_cep : peer.scep ≡ scep

-- a flow of this name has a far end among these ends
pub record HasFar (ends : List End) (flow : FlowName) : Type 0 where
  pub place : ℕ
  pub end : End
  pub stands : At ends place end
  pub is_far : end.role ≡ Far
  pub same : end.flow ≡ flow

-- at a place stands the asker's end of an ask that came from the member of an address to that of another, and its flow has no far end yet
pub record IsAskerOf (d : Dif) (place own from : ℕ) (ask : FlowAsk) : Type 0 where
  pub end : End
  pub conn : Conn
  pub is_at : IsAt d.flows.journal.ends d.flows.conns place end conn
  pub asks : AsksFor end ask
  pub leads : LeadsTo conn.sending.form.peer own from ask.scep
  pub alone : HasFar d.flows.journal.ends ask.flow → ⊥

-- where it stands; None exactly where there is none
abbrev pub FindsAsker : Dif → ℕ → ℕ → FlowAsk → Option ℕ → Type 0
FindsAsker d own from ask None = (place : ℕ) → IsAskerOf d place own from ask → ⊥
FindsAsker d own from ask (Some place) = IsAskerOf d place own from ask

-- What a member decides by

-- an ask is of a cube of the DIF, and for an application that is registered at the node
abbrev pub is_here_by : Option Cube → Bool → Bool
is_here_by None registered = false
is_here_by (Some cube) registered = registered

abbrev pub is_here : Dif → ℕ → FlowAsk → Bool
is_here d node ask = is_here_by (cube_by ask.cube d.settings.cubes) (is_registered d.names node ask.destination)

-- an ask is as old as a CEP-id of its cube rests
abbrev pub is_aged_by : Option Cube → ℕ → ℕ → Bool
is_aged_by None tick now = true
is_aged_by (Some cube) tick now = nat_le (tick + 3 * delta_of cube) now

abbrev pub is_aged : Dif → FlowAsk → Bool
is_aged d ask = is_aged_by (cube_by ask.cube d.settings.cubes) ask.flow.tick d.clock

-- the rule by which a member denies an application a flow, if one does
abbrev pub rule_of : Decision → Option ℕ
rule_of decision = if decision.allow then None else Some decision.rule

abbrev pub denied_by : Management → List ℕ → Option ℕ
denied_by m app = rule_of (decided m.agent.rules.rules m.agent.rules.default app Allocate)

-- the CEP-id that the member at a place draws next
abbrev pub next_cep : Dif → ℕ → Option ℕ
next_cep d at = option_and_then (λ (ids : CepIds). free_id ids.0 d.clock ids.1) (slice_get d.ids at)

-- it fits its field
abbrev pub FitsNext : Dif → ℕ → Type 0
FitsNext d at = (cep : ℕ) → next_cep d at ≡ Some cep → cep < 2 ^ (8 * d.settings.widths.cep)

-- where the asker's end stands of an ask for which the member at a place can make the far end, since the CEP-id fits; None exactly where there is none
abbrev pub FindsJoinable : Dif → ℕ → ℕ → ℕ → FlowAsk → Option ℕ → Type 0
FindsJoinable d at own from ask None = (place : ℕ) → IsAskerOf d place own from ask → FitsNext d at → ⊥
FindsJoinable d at own from ask (Some place) = IsAskerOf d place own from ask × FitsNext d at

-- it is drawn unless the ids or the ports there are spent
abbrev pub unless_spent : Option ℕ → Option ℕ → Option ℕ
unless_spent None next = next
unless_spent (Some used) next = None

-- what the member at a place, at a node, decides on an ask by
pub record IsGrounds (d : Dif) (at node : ℕ) (ask : FlowAsk) (g : Grounds) : Type 0 where
  pub here : g.here ≡ is_here d node ask
  pub aged : g.aged ≡ is_aged d ask
  pub denied : (m : Management) → slice_get d.managements at ≡ Some m → g.denied ≡ denied_by m ask.source
  pub drawn : g.drawn ≡ unless_spent (spent_ids d at node) (next_cep d at)
  pub used : g.used ≡ unwrap_or (spent_ids d at node) 0

-- The far end is made

-- the member at a place may make the far end of the flow whose asker's end stands at another place
pub record CanMakeFar (d : Dif) (at place from : ℕ) (ask : FlowAsk) : Type 0 where
  pub member : Member
  pub stands : slice_get d.settings.members at ≡ Some member
  pub enrolled : enrolled_home d member.node ≡ Some at
  pub cube : Cube
  pub is_cube : cube_by ask.cube d.settings.cubes ≡ Some cube
  pub young : d.clock < ask.flow.tick + 3 * delta_of cube
  pub room : spent_ids d at member.node ≡ None
  pub fits : FitsNext d at
  pub asker : IsAskerOf d place member.addr from ask

-- a far end stands behind the flows, with a connection of its cube
pub record AddsFarEnd (settings : Settings) (peer : Peer) (end : End) (old new : Flows) : Type 0 where
  pub cube : Cube
  pub is_cube : cube_by end.cube settings.cubes ≡ Some cube
  pub ends : new.journal.ends ≡ old.journal.ends ++ end ∷ []
  pub adds : AddsFar cube (piece_size (config_of settings)) (greatest (config_of settings)) peer end old new
  pub keeps : SameBut (λ i. length old.conns ≤ i) old.conns new.conns

-- the member at a place has drawn its CEP-id
pub record DrawsFarEnd (at : ℕ) (peer : Peer) (end : End) (d d' : Dif) : Type 0 where
  pub adds : AddsFarEnd d.settings peer end d.flows d'.flows
  pub draws : DrawsAt d.ids d.clock at peer.scep
  pub ids : d'.ids ≡ with_drawn at draws.ids peer.scep d.ids
  pub whole : d' ≡ record d { flows = d'.flows; ids = d'.ids }

-- it is made, and the member shows the flow
pub record HasMadeFar (d : Dif) (lines : List Direction) (below : Seen) (at place : ℕ) (d' : Dif) : Type 0 where
  pub member : Member
  pub stands : slice_get d.settings.members at ≡ Some member
  pub lines' : List Direction
  pub makes : IsFarMade (seen_of d) lines member.node place (seen_of d') lines'
  pub cep_is : next_cep d at ≡ Some makes.cep
  pub managed : d'.managements ≡ with_flow_at at makes.cep d.managements
  pub holds : Holds d' lines' below

-- without memory nothing is seen to change
abbrev pub MakesFar : Dif → List Direction → Seen → ℕ → ℕ → Result (Unit {0}) NoMemory → Dif → Type 0
MakesFar d lines below at place (Ok done) d' = HasMadeFar d lines below at place d'
MakesFar d lines below at place (Err e) d' = IsKept d lines below d'

-- Whether it is made

-- the answer that a machine tells
abbrev pub answer_told : AskDo → Option FlowAnswer
answer_told (does.Answer result dcep number) = answer_at result dcep number
answer_told done = None

-- an answer is yes
abbrev pub is_yes : FlowAnswer → Bool
is_yes (answers.Yes cep scep) = true
is_yes answer = false

-- what the member at a place, at a node, answers to an ask
abbrev pub answer_by : Grounds → ℕ → Option FlowAnswer
answer_by g scep = answer_told (answer_of g.here g.aged g.denied g.drawn g.used scep)

-- the far end is made, and the member of the asker is told so
pub record Accepts (d : Dif) (lines : List Direction) (below : Seen) (at own node from invoke : ℕ) (ask : FlowAsk) (d' : Dif) : Type 0 where
  pub place : ℕ
  pub asker : IsAskerOf d place own from ask
  pub lines' : List Direction
  pub makes : IsFarMade (seen_of d) lines node place (seen_of d') lines'
  pub managed : d'.managements ≡ posts d at (message_of from own (words.Answer invoke (answers.Yes makes.cep ask.scep))) (with_flow_at at makes.cep d.managements)
  pub holds : Holds d' lines' below

-- an answer goes back, and nothing else changes
pub record Answers (d : Dif) (lines : List Direction) (below : Seen) (at own from invoke : ℕ) (answer : FlowAnswer) (d' : Dif) : Type 0 where
  pub only : d' ≡ record d { managements = posts d at (message_of from own (words.Answer invoke answer)) d.managements }
  pub holds : Holds d' lines below

-- where a yes is given: the far end is made; or where no asker's end waits for it, or no CEP-id fits, the asker is told that its application is not here
abbrev pub AcceptsOrNot : Dif → List Direction → Seen → ℕ → ℕ → ℕ → ℕ → ℕ → FlowAsk → Dif → Type 0
AcceptsOrNot d lines below at own node from invoke ask d' = Accepts d lines below at own node from invoke ask d' ⊎ (FindsJoinable d at own from ask None × Answers d lines below at own from invoke answers.NotHere d')

-- by the answer
abbrev pub AnswersBy : FlowAnswer → Dif → List Direction → Seen → ℕ → ℕ → ℕ → ℕ → ℕ → FlowAsk → Dif → Type 0
AnswersBy (answers.Yes cep scep) d lines below at own node from invoke ask d' = AcceptsOrNot d lines below at own node from invoke ask d'
AnswersBy answer d lines below at own node from invoke ask d' = Answers d lines below at own from invoke answer d'

-- the enrolled member at a place, at a node, decides on an ask: on these grounds it gives this answer
pub record Decides (d : Dif) (at : ℕ) (ask : FlowAsk) : Type 0 where
  pub member : Member
  pub stands : slice_get d.settings.members at ≡ Some member
  pub enrolled : enrolled_home d member.node ≡ Some at
  pub grounds : Grounds
  pub are : IsGrounds d at member.node ask grounds
  pub answer : FlowAnswer
  pub told : answer_by grounds ask.scep ≡ Some answer

-- and does so
pub record AnswersAsk (d : Dif) (lines : List Direction) (below : Seen) (at from invoke : ℕ) (ask : FlowAsk) (d' : Dif) : Type 0 where
  pub decides : Decides d at ask
  pub does : AnswersBy decides.answer d lines below at decides.member.addr decides.member.node from invoke ask d'

-- without memory the far end may have been made, of which the asker is not told
pub record MayHaveMade (d : Dif) (lines : List Direction) (below : Seen) (at from : ℕ) (ask : FlowAsk) (d' : Dif) : Type 0 where
  pub place : ℕ
  pub made : HasMadeFar d lines below at place d'
  pub asker : IsAskerOf d place made.member.addr from ask

-- the member at a place is not enrolled
abbrev pub IsNotEnrolled : Dif → ℕ → Type 0
IsNotEnrolled d at = (m : Member) → slice_get d.settings.members at ≡ Some m → enrolled_home d m.node ≡ Some at → ⊥

-- a member that is not enrolled does nothing; a far end is made only where the decision is yes
abbrev pub HandlesAsk : Dif → List Direction → Seen → ℕ → ℕ → ℕ → FlowAsk → Result (Unit {0}) NoMemory → Dif → Type 0
HandlesAsk d lines below at from invoke ask (Ok done) d' = AnswersAsk d lines below at from invoke ask d' ⊎ (IsNotEnrolled d at × (d' ≡ d))
HandlesAsk d lines below at from invoke ask (Err e) d' = IsKept d lines below d' ⊎ ((decides : Decides d at ask) × (is_yes decides.answer ≡ true) × MayHaveMade d lines below at from ask d')

-- The parts of an answer

-- an answer waits at the member at a place for the next hop to the member that asked
abbrev pub SendsAnswer : Dif → ℕ → ℕ → ℕ → FlowAnswer → Dif → Type 0
SendsAnswer d at from invoke answer d' = (m : Member) → slice_get d.settings.members at ≡ Some m → d' ≡ record d { managements = posts d at (message_of from m.addr (words.Answer invoke answer)) d.managements }

-- nothing refuses an ask at the enrolled member at a place, which answers yes with the CEP-id that it draws next
pub record MayAccept (d : Dif) (at : ℕ) (ask : FlowAsk) (answer : FlowAnswer) : Type 0 where
  pub member : Member
  pub stands : slice_get d.settings.members at ≡ Some member
  pub enrolled : enrolled_home d member.node ≡ Some at
  pub cube : Cube
  pub is_cube : cube_by ask.cube d.settings.cubes ≡ Some cube
  pub young : d.clock < ask.flow.tick + 3 * delta_of cube
  pub room : spent_ids d at member.node ≡ None
  pub cep : ℕ
  pub next : next_cep d at ≡ Some cep
  pub answer_is : answer ≡ answers.Yes cep ask.scep

-- then it makes the far end, or says that it can not
pub record AcceptsAt (d : Dif) (lines : List Direction) (below : Seen) (at from invoke : ℕ) (ask : FlowAsk) (d' : Dif) : Type 0 where
  pub member : Member
  pub stands : slice_get d.settings.members at ≡ Some member
  pub does : AcceptsOrNot d lines below at member.addr member.node from invoke ask d'

abbrev pub AcceptsOr : Dif → List Direction → Seen → ℕ → ℕ → ℕ → FlowAsk → Result (Unit {0}) NoMemory → Dif → Type 0
AcceptsOr d lines below at from invoke ask (Ok done) d' = AcceptsAt d lines below at from invoke ask d'
AcceptsOr d lines below at from invoke ask (Err e) d' = IsKept d lines below d' ⊎ MayHaveMade d lines below at from ask d'
