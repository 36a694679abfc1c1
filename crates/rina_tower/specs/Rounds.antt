-- Rounds: steps at every link and every IPC process, each in its turn.
use Rattle.std.specs.Prelude.{◌≡◌, ℕ, ◌+◌, Bool, true, false, List, [], ◌∷◌, ◌++◌, filter, map, slice_get, Some, Result, Ok, Err}
use Rattle.rina_policy.specs.declared.policy.Head.{Head}
use Rattle.rina_policy.specs.Slots.{Slot}
use Rattle.rina_data.specs.declared.link.Link.{Link}
use Rattle.rina_data.specs.declared.process.IpcProcess.{IpcProcess}
use Rattle.rina_data.specs.declared.settings.Member.{Member}
use Rattle.rina_data.specs.declared.step.ClockStep.{ClockStep}
use Rattle.rina_data.specs.declared.step.ClockStep.TheVariants as clocks
use Rattle.rina_data.specs.declared.step.InStep.{InStep}
use Rattle.rina_data.specs.declared.step.InStep.TheVariants as ins
use Rattle.rina_data.specs.declared.step.OutStep.{OutStep}
use Rattle.rina_data.specs.declared.step.OutStep.TheVariants as outs
use Rattle.rina_data.specs.declared.step.StepError.{StepError}
use Rattle.rina_data.specs.declared.step.StepError.TheVariants as errors
use Rattle.rina_dif.specs.declared.dif.Dif.{Dif}
use Rattle.rina_tower.specs.declared.places.LinkPlace.{LinkPlace}
use Rattle.rina_tower.specs.declared.places.MemberPlace.{MemberPlace}
use Rattle.rina_tower.specs.declared.tower.Tower.{Tower, Wires, Rank'}
use Rattle.rina_tower.specs.Bystanders.{Anyone, LeavesNow}
use Rattle.rina_tower.specs.Ranks.{height_of, seen_of}
use Rattle.rina_tower.specs.Stands.{IsTower}
use Rattle.rina_tower.specs.Steps.{ClocksAt, InSteps, OutSteps}

-- Single steps

-- one step of a DIF, at a link of an IPC process or by its clock, and what it answered
pub data Move : Type 0 where
  InMove : LinkPlace → Result InStep StepError → Move
  ClockMove : MemberPlace → Result ClockStep StepError → Move
  OutMove : LinkPlace → Result OutStep StepError → Move

-- whatever a policy may answer
abbrev pub Anything : List ℕ → ℕ → List Head → ℕ → Type 0
Anything name who heads place = Unit {0}

-- the step does to shelf and tower what that single step does; a policy may answer any place among the heads
abbrev pub Moves : Move → List Slot → Tower → List Slot → Tower → Type 0
Moves (InMove p result) slots t slots' t' = (slots' ≡ slots) × InSteps p.rank p.dif p.node p.link result t t'
Moves (ClockMove p result) slots t slots' t' = (slots' ≡ slots) × ClocksAt p.rank p.dif p.node result t t'
Moves (OutMove p result) slots t slots' t' = OutSteps Anything slots slots' p.rank p.dif p.node p.link result t t'

-- steps one after the other
abbrev pub AllMove : List Move → List Slot → Tower → List Slot → Tower → Type 0
AllMove [] slots t slots' t' = (slots' ≡ slots) × (t' ≡ t)
AllMove (m ∷ ms) slots t slots' t' = (mid : List Slot) × (between : Tower) × Moves m slots t mid between × AllMove ms mid between slots' t'

-- steps of which this holds, one after the other
abbrev pub Runs : (List Move → Type 0) → List Slot → Tower → List Slot → Tower → Type 0
Runs Are slots t slots' t' = (ms : List Move) × Are ms × AllMove ms slots t slots' t'

-- after steps the tower stands at the same tick and height, and at its top rank nobody sent or passed anything
pub record Follows (t t' : Tower) : Type 0 where
  pub valid : IsTower t'
  pub quiet : LeavesNow Anyone (seen_of t) (seen_of t')
  pub height : height_of t' ≡ height_of t

-- Places

-- each DIF has the number of its place
abbrev pub AreNumbered : List Dif → Type 0
AreNumbered difs = (n : ℕ) (d : Dif) → slice_get difs n ≡ Some d → d.settings.fac ≡ n

-- the numbers of the live links, in their order
abbrev pub live_links : List Link → List ℕ
live_links links = map (λ (l : Link). l.number) (filter (λ (l : Link). l.live) links)

abbrev pub link_place : ℕ → ℕ → ℕ → ℕ → LinkPlace
link_place rank dif node link = record { rank = rank; dif = dif; node = node; link = link }

-- the live links of the IPC processes of a DIF, which stand at the places of its members
abbrev pub dif_links : ℕ → ℕ → List Member → List IpcProcess → List LinkPlace
dif_links rank dif [] processes = []
dif_links rank dif (m ∷ ms) [] = []
dif_links rank dif (m ∷ ms) (p ∷ ps) = map (link_place rank dif m.node) (live_links p.links) ++ dif_links rank dif ms ps

-- those of the DIFs of a rank, of which the first has this number
abbrev pub rank_links : ℕ → ℕ → List Dif → List LinkPlace
rank_links rank n [] = []
rank_links rank n (d ∷ ds) = dif_links rank n d.settings.members d.processes ++ rank_links rank (n + 1) ds

-- those of all ranks, the lowest first
abbrev pub links_upward : Tower → List LinkPlace
links_upward (Wires a) = []
links_upward (Rank' p difs below) = links_upward below ++ rank_links (height_of below + 1) 0 difs

-- those of all ranks, the highest first
abbrev pub links_downward : Tower → List LinkPlace
links_downward (Wires a) = []
links_downward (Rank' p difs below) = rank_links (height_of below + 1) 0 difs ++ links_downward below

abbrev pub member_place : ℕ → ℕ → Member → MemberPlace
member_place rank dif m = record { rank = rank; dif = dif; node = m.node }

-- the IPC processes of the DIFs of a rank, of which the first has this number
abbrev pub rank_members : ℕ → ℕ → List Dif → List MemberPlace
rank_members rank n [] = []
rank_members rank n (d ∷ ds) = map (member_place rank n) d.settings.members ++ rank_members rank (n + 1) ds

-- those of all ranks, the lowest first
abbrev pub members_upward : Tower → List MemberPlace
members_upward (Wires a) = []
members_upward (Rank' p difs below) = members_upward below ++ rank_members (height_of below + 1) 0 difs

-- Turns

-- answers of one step that was taken again and again, as long as an answer says to go on
pub record IsUntil {A : Type 0} (goes_on ends : A → Bool) (answers : List A) : Type 0 where
  pub before : List A
  pub last : A
  pub on : (k : ℕ) (x : A) → slice_get before k ≡ Some x → goes_on x ≡ true
  pub end : ends last ≡ true
  pub all : answers ≡ before ++ last ∷ []

-- something was taken
abbrev pub has_taken : Result InStep StepError → Bool
has_taken (Ok (ins.Took key end)) = true
has_taken answer = false

-- nothing is left to take
abbrev pub takes_no_more : Result InStep StepError → Bool
takes_no_more (Ok (ins.Took key end)) = false
takes_no_more (Err errors.Memory) = false
takes_no_more answer = true

-- something was due
abbrev pub was_due : Result ClockStep StepError → Bool
was_due (Ok clocks.Idle) = false
was_due (Ok step) = true
was_due answer = false

-- nothing is due any more
abbrev pub none_due : Result ClockStep StepError → Bool
none_due (Ok clocks.Idle) = true
none_due (Ok step) = false
none_due (Err errors.Memory) = false
none_due answer = true

-- a PDU left its queue
abbrev pub has_left : Result OutStep StepError → Bool
has_left (Ok (outs.Sent key)) = true
has_left (Ok (outs.Off key cause)) = true
has_left answer = false

-- no PDU waits, or the first one stays
abbrev pub leaves_no_more : Result OutStep StepError → Bool
leaves_no_more (Ok (outs.Sent key)) = false
leaves_no_more (Ok (outs.Off key cause)) = false
leaves_no_more (Err errors.Memory) = false
leaves_no_more answer = true

-- the steps at a link that take until nothing is left
abbrev pub AllInSteps : LinkPlace → List Move → Type 0
AllInSteps p ms = (answers : List (Result InStep StepError)) × IsUntil has_taken takes_no_more answers × (ms ≡ map (InMove p) answers)

-- the steps of an IPC process by its clock until nothing is due
abbrev pub AllClockSteps : MemberPlace → List Move → Type 0
AllClockSteps p ms = (answers : List (Result ClockStep StepError)) × IsUntil was_due none_due answers × (ms ≡ map (ClockMove p) answers)

-- the steps at a link that let PDUs go until none waits or one stays
abbrev pub AllOutSteps : LinkPlace → List Move → Type 0
AllOutSteps p ms = (answers : List (Result OutStep StepError)) × IsUntil has_left leaves_no_more answers × (ms ≡ map (OutMove p) answers)

-- at one place after the other
abbrev pub InTurn : {P : Type 0} → (P → List Move → Type 0) → List P → List Move → Type 0
InTurn At [] ms = ms ≡ []
InTurn At (p ∷ ps) ms = (first : List Move) × (rest : List Move) × At p first × InTurn At ps rest × (ms ≡ first ++ rest)

-- Rounds

-- first all that came is taken, at every link from rank 1 upward; then all that is due is done, at every IPC process; then
-- all that may leave leaves, at every link from the top rank down
pub record IsRound (slots slots' : List Slot) (t t' : Tower) : Type 0 where
  pub taken : Tower
  pub takes : List Move
  pub takes_are : InTurn AllInSteps (links_upward t) takes
  pub do_take : AllMove takes slots t slots taken
  pub clocked : Tower
  pub dues : List Move
  pub dues_are : InTurn AllClockSteps (members_upward taken) dues
  pub do_dues : AllMove dues slots taken slots clocked
  pub leaves : List Move
  pub leaves_are : InTurn AllOutSteps (links_downward clocked) leaves
  pub do_leave : AllMove leaves slots clocked slots' t'
