-- What is named: each name of a DIF was registered by a line of the schedule, and each far end of a flow was asked for, while its application was registered at its
-- node and the rules there allowed the asker's.
use Rattle.std.specs.Prelude.{◌≡◌, ℕ, ◌+◌, ◌*◌, ◌<◌, ◌≤◌, Bool, true, false, List, ◌∷◌, ◌++◌, slice_get, Option, Some, None, option_and_then, Result, Ok, Contains}
use Rattle.rina_alloc.specs.declared.message.FlowAsk.{FlowAsk}
use Rattle.rina_alloc.specs.declared.message.FlowMessage.{FlowMessage}
use Rattle.rina_alloc.specs.declared.message.FlowWord.TheVariants as words
use Rattle.rina_cube.specs.declared.Cube.{Cube}
use Rattle.rina_cube.specs.Cubes.{delta_of}
use Rattle.rina_iface.specs.declared.ends.End.{End}
use Rattle.rina_iface.specs.declared.state.Role.TheVariants.{Asker}
use Rattle.rina_iface.specs.Journal.{At, IsNamed}
use Rattle.rina_iface.specs.Seen.{Seen, is_registered}
use Rattle.rina_law.specs.Direction.{Direction}
use Rattle.rina_policy.specs.Slots.{Slot}
use Rattle.rina_report.specs.declared.answer.Answer.TheVariants.{Done}
use Rattle.rina_report.specs.declared.note.Note.{Note}
use Rattle.rina_report.specs.declared.note.Note.TheVariants as notes
use Rattle.rina_schedule.specs.declared.event.Event.TheVariants as events
use Rattle.rina_stack.specs.declared.plan.Plan.{Plan}
use Rattle.rina_member.specs.declared.management.Management.{Management}
use Rattle.rina_data.specs.declared.step.InStep.{InStep}
use Rattle.rina_data.specs.declared.step.StepError.{StepError}
use Rattle.rina_data.specs.Configs.{config_of, cube_by}
use Rattle.rina_dif_law.specs.Sending.{home}
use Rattle.rina_dif.specs.declared.dif.Dif.{Dif}
use Rattle.rina_dif.specs.Elsewhere.{enrolled_home}
use Rattle.rina_dif.specs.FarMaking.{HasFar, denied_by}
use Rattle.rina_dif.specs.FlowMessages.{HandlesFlows}
use Rattle.rina_dif.specs.Holding.{Holds}
use Rattle.rina_dif.specs.Taking.{TakesHome, TellsFlows}
use Rattle.rina_tower.specs.declared.tower.Tower.{Tower}
use Rattle.rina_tower.specs.Bystanders.{is_ipc}
use Rattle.rina_tower.specs.Ledgers.{dif_at, dif_of}
use Rattle.rina_tower.specs.Ranks.{below_of, now_of, rank_of, seen_of}
use Rattle.rina_schedule.specs.Line.{line_at}
use Rattle.rina_notes.specs.Sites.{site_at}
use Rattle.rina_words.specs.Step.{Stage}
use Rattle.rina_run.specs.Opening.{IsOpening}
use Rattle.rina_run.specs.Run.{Runs}

-- Names

-- whether an application is registered at a node of a DIF
abbrev pub has_name : Option Dif → ℕ → List ℕ → Bool
has_name None node app = false
has_name (Some d) node app = is_registered d.names node app

-- and so of the DIF of place n at rank r
abbrev pub is_named : Tower → ℕ → ℕ → ℕ → List ℕ → Bool
is_named t r n node app = has_name (dif_at t r n) node app

-- one of these lines registers the application at this node of the DIF of place n at rank r, and its `ok` stands among the notes, with a tick of at most `now`
pub record IsRegistration (plan : Plan) (r n node : ℕ) (app : List ℕ) (now : ℕ) (lines : List (List ℕ)) (ns : List Note) : Type 0 where
  pub before : ℕ
  pub line : List ℕ
  pub dif_name : List ℕ
  pub node_name : List ℕ
  pub stands : slice_get lines before ≡ Some line
  pub asks : line_at line ≡ Ok (Some (events.Register dif_name node_name app))
  pub names : site_at plan 1 dif_name node_name ≡ Ok (record { rank = r; fac = n; node = node })
  pub tick : ℕ
  pub past : tick ≤ now
  pub told : Contains ns (notes.Line (before + 1) tick Done)

-- in every run of a stack, each name of each DIF that is no IPC process's, and that was not there at the opening, was registered by a line
abbrev pub NamesAreRegistered : Type 0
NamesAreRegistered =
    (plan : Plan) (shelf : List Slot) (start : Stage) (lines : List (List ℕ)) (ns : List Note) (s : Stage) → IsOpening plan shelf start → Runs plan 1 start lines ns s
    → (r n node : ℕ) (app : List ℕ) → is_ipc app ≡ false → is_named start.run.tower r n node app ≡ false → is_named s.run.tower r n node app ≡ true → IsRegistration plan r n node app (now_of s.run.tower) lines ns

-- Far ends

-- the end at place i of the journal of the DIF of place n at rank r; none where there is none
abbrev pub end_at : Tower → ℕ → ℕ → ℕ → Option End
end_at t r n i = option_and_then (λ (d : Dif). slice_get d.flows.journal.ends i) (dif_at t r n)

-- one end at two moments: what an end keeps for good is the same
pub record IsOneEnd (e e' : End) : Type 0 where
  pub flow : e'.flow ≡ e.flow
  pub role : e'.role ≡ e.role
  pub port : e'.port ≡ e.port
  pub app : e'.app ≡ e.app
  pub peer : e'.peer ≡ e.peer
  pub cube : e'.cube ≡ e.cube

-- a message asks for the flow of a far end: of its name and its cube, for its application, by the peer of that
pub record IsAskFor (message : FlowMessage) (e : End) : Type 0 where
  pub invoke : ℕ
  pub ask : FlowAsk
  pub asks : message.word ≡ words.Ask invoke ask
  pub flow : e.flow ≡ ask.flow
  pub cube : e.cube ≡ ask.cube
  pub app : e.app ≡ ask.destination
  pub peer : e.peer ≡ ask.source

-- the asker's end of the flow of a far end stands in a DIF; each of the two has the other's application as its peer, and they have one cube
pub record HasAsker (d : Dif) (e : End) : Type 0 where
  pub place : ℕ
  pub asker : End
  pub stands : At d.flows.journal.ends place asker
  pub asks : asker.role ≡ Asker
  pub flow : asker.flow ≡ e.flow
  pub named : IsNamed e asker

-- the member at a place of a DIF may make a far end: it is enrolled, and stands on the node of the end, at which the application of that is registered; its rules allow the
-- application that asks; the ask is younger than the time for which a CEP-id of its cube rests; and the asker's end stands in the DIF, whose flow has no far end yet
pub record MayMakeFar (d : Dif) (at : ℕ) (e : End) : Type 0 where
  pub registered : is_registered d.names e.port.node e.app ≡ true
  pub enrolled : enrolled_home d e.port.node ≡ Some at
  pub management : Management
  pub is_management : slice_get d.managements at ≡ Some management
  pub allowed : denied_by management e.peer ≡ None
  pub cube : Cube
  pub is_cube : cube_by e.cube d.settings.cubes ≡ Some cube
  pub young : d.clock < e.flow.tick + 3 * delta_of cube
  pub asker : HasAsker d e
  pub alone : HasFar d.flows.journal.ends e.flow → ⊥

-- a step of a member of the DIF takes an SDU from this rank below. Of the messages about flows that this makes whole one asks for the flow of a far end; and the member
-- may make it once the messages before that one were handled
pub record TakesAskFor (d : Dif) (below : Seen) (e : End) : Type 0 where
  pub lines : List Direction
  pub holds : Holds d lines below
  pub node : ℕ
  pub number : ℕ
  pub result : Result InStep StepError
  pub d' : Dif
  pub below' : Seen
  pub takes : TakesHome d lines below node number result d' below'
  pub place : ℕ
  pub at_home : home node (config_of d.settings).members ≡ Some place
  pub told : TellsFlows d below place number takes.answer takes.handled takes.between below' result d' takes.lines'
  pub before : List FlowMessage
  pub message : FlowMessage
  pub rest : List FlowMessage
  pub are : told.messages ≡ before ++ message ∷ rest
  pub mid : Dif
  pub between : List Direction
  pub handles : HandlesFlows takes.handled takes.between below' place before (Ok tt) mid between
  pub stands : Holds mid between below'
  pub asks : IsAskFor message e
  pub may : MayMakeFar mid place e

-- a step from one tower to the next makes this far end: no end stood at its place before, and it stands there after; the DIF takes an ask for it, over the rank below as
-- that was then; and its application was registered at its node before the step
pub record MakesFarEnd (r n i : ℕ) (e : End) (t t' : Tower) : Type 0 where
  pub none : end_at t r n i ≡ None
  pub made : End
  pub stands : end_at t' r n i ≡ Some made
  pub same : IsOneEnd made e
  pub rank : Tower
  pub is_rank : rank_of t r ≡ Some rank
  pub below : Tower
  pub is_below : below_of rank ≡ Some below
  pub dif : Dif
  pub is_dif : dif_of rank n ≡ Some dif
  pub registered : is_registered dif.names e.port.node e.app ≡ true
  pub takes : TakesAskFor dif (seen_of below) e
