-- What each line of a schedule does to the tower, the labels and the shelf, and which notes it gives.
use Rattle.std.specs.Prelude.{◌≡◌, ◌≢◌, ℕ, codes, ◌+◌, ◌==◌, zero, suc, min, nat_lt, Bool, true, false, List, [], ◌∷◌, ◌++◌, map, Option, Some, None, Result, Ok, Err, option_and_then, option_map, if◌then◌else◌}
use Rattle.std.specs.List.{flat_map}
use Rattle.rina_account.specs.declared.ledger.Off.{Off}
use Rattle.rina_agent.specs.declared.state.MemberState.{MemberState}
use Rattle.rina_base.specs.declared.number.Num.{Num}
use Rattle.rina_base.specs.declared.number.Port.{Port}
use Rattle.rina_cube.specs.declared.Want.{Want}
use Rattle.rina_data.specs.declared.step.ClockStep.{ClockStep}
use Rattle.rina_data.specs.declared.step.InStep.{InStep}
use Rattle.rina_data.specs.declared.step.OutStep.{OutStep}
use Rattle.rina_data.specs.declared.step.StepError.{StepError}
use Rattle.rina_data.specs.declared.step.StepError.TheVariants.{Memory as NoMemory}
use Rattle.rina_dif.specs.declared.cdap.CdapCallError.{CdapCallError}
use Rattle.rina_dif.specs.declared.cdap.CdapCallError.TheVariants as calls
use Rattle.rina_dif.specs.declared.enrol.EnrolError.{EnrolError}
use Rattle.rina_dif.specs.declared.enrol.EnrolError.TheVariants as enrol
use Rattle.rina_dif.specs.declared.shown.Shown.{Shown}
use Rattle.rina_law.specs.declared.entry.Entry.{Entry}
use Rattle.rina_iface.specs.declared.ask.Ask.{Ask}
use Rattle.rina_iface.specs.declared.error.RegisterError.{RegisterError}
use Rattle.rina_iface.specs.declared.error.RegisterError.TheVariants as register
use Rattle.rina_iface.specs.declared.error.UnregisterError.{UnregisterError}
use Rattle.rina_iface.specs.declared.error.UnregisterError.TheVariants as unregister
use Rattle.rina_iface.specs.declared.error.FreeError.{FreeError}
use Rattle.rina_iface.specs.declared.error.FreeError.TheVariants as free
use Rattle.rina_iface.specs.declared.error.AllocateError.{AllocateError}
use Rattle.rina_iface.specs.declared.error.AllocateError.TheVariants as allocate
use Rattle.rina_iface.specs.declared.error.SendError.{SendError}
use Rattle.rina_iface.specs.declared.error.SendError.TheVariants as send
use Rattle.rina_iface.specs.declared.ends.End.{End}
use Rattle.rina_iface.specs.Seen.{unpassed}
use Rattle.rina_policy.specs.declared.count.Count.{Count}
use Rattle.rina_policy.specs.Slots.{Slot, count_of, retired}
use Rattle.rina_report.specs.declared.note.Note.{Note}
use Rattle.rina_report.specs.declared.note.Note.TheVariants as notes
use Rattle.rina_report.specs.declared.refusal.Refusal.{Refusal}
use Rattle.rina_report.specs.declared.refusal.Refusal.TheVariants as refusals
use Rattle.rina_report.specs.declared.answer.FlowNote.{FlowNote}
use Rattle.rina_report.specs.declared.answer.Answer.{Answer}
use Rattle.rina_report.specs.declared.answer.Answer.TheVariants as answers
use Rattle.rina_schedule.specs.declared.event.Event.{Event}
use Rattle.rina_schedule.specs.declared.event.Event.TheVariants as events
use Rattle.rina_stack.specs.declared.plan.Plan.{Plan}
use Rattle.rina_table.specs.declared.sketch.Rounds.{Rounds}
use Rattle.rina_table.specs.declared.sketch.Rounds.TheVariants.{Auto, Manual}
use Rattle.rina_stack.specs.Plan.{names_of}
use Rattle.rina_stack.specs.Names.{place_in}
use Rattle.rina_tower.specs.declared.applications.AppError.{AppError}
use Rattle.rina_tower.specs.declared.applications.AppError.TheVariants as apps
use Rattle.rina_tower.specs.declared.publish.PublishError.{PublishError}
use Rattle.rina_tower.specs.declared.publish.PublishError.TheVariants as publish
use Rattle.rina_tower.specs.declared.tower.Tower.{Tower}
use Rattle.rina_tower.specs.Applications.{AppAllocates, AppClaims, AppFrees, AppPasses, AppRegisters, AppSends, AppUnregisters, is_ipc_at}
use Rattle.rina_tower.specs.Cdap.{AsksAt}
use Rattle.rina_tower.specs.Events.{Cuts, HoldsBack, Loses, Mends, Repeats}
use Rattle.rina_tower.specs.Ledgers.{IsLedgerAt, member_at}
use Rattle.rina_tower.specs.Members.{IsMemberState}
use Rattle.rina_tower.specs.Objects.{ShowsUnderAt}
use Rattle.rina_tower.specs.Enrolling.{EnrolsAt}
use Rattle.rina_tower.specs.Publishing.{PublishesAt}
use Rattle.rina_tower.specs.Ranks.{now_of, rank_of, seen_of}
use Rattle.rina_tower.specs.Steps.{ClocksAt, InSteps, OutSteps}
use Rattle.rina_tower.specs.Rounds.{Anything, IsRound}
use Rattle.rina_tower.specs.Stands.{IsTower}
use Rattle.rina_tower.specs.ClockTick.{Ticks as TowerTicks}
use Rattle.rina_wire.specs.declared.event.WireError.{WireError}
use Rattle.rina_wire.specs.declared.event.WireError.TheVariants as wires
use Rattle.rina_notes.specs.declared.facility.RankedFac.{RankedFac}
use Rattle.rina_words.specs.declared.run.Run.{Run}
use Rattle.rina_notes.specs.declared.label.Label.{Label}
use Rattle.rina_notes.specs.declared.site.Site.{Site}
use Rattle.rina_notes.specs.Sites.{dif_site_at, fac_named, label_in, port_in, site_at}
use Rattle.rina_notes.specs.StepTold.{cdap_told, clock_told, in_told, object_told, off_told, out_told, step_told}
use Rattle.rina_notes.specs.Told.{answer_told, app_told, enrol_told, member_told, publish_told, register_told, unregister_told, free_told, allocate_told, send_told, wire_told, drawn_told, port_told, state_told}
use Rattle.rina_notes.specs.Look.{ends_at, state_at, noted, state_notes, looked}

-- ---- the shelf beside the run

-- what a run consists of: the run, and what a contract sees of the shelf
pub record Stage : Type 0 where
  pub run : Run
  pub shelf : List Slot

abbrev pub stage : Run → List Slot → Stage
stage w shelf = record { run = w; shelf = shelf }

-- two shelves have the same names in the same order
abbrev pub HasNames : List Slot → List Slot → Type 0
HasNames shelf shelf' = map (λ (x : Slot). x.name) shelf' ≡ map (λ (x : Slot). x.name) shelf

-- the line was refused before any call, and nothing changed
pub record IsRefused (why : Refusal) (w : Run) (says : Option Answer) (w' : Run) : Type 0 where
  pub said : says ≡ Some (answers.Refused why)
  pub run : w' ≡ w

-- a call at the facility and the node that the line names; where it names none, it is refused
abbrev pub AtSite : Result Site ℕ → (Site → Option Answer → Run → Type 0) → Run → Option Answer → Run → Type 0
AtSite (Err field) Call w says w' = IsRefused (refusals.Unknown field) w says w'
AtSite (Ok site) Call w says w' = Call site says w'

-- a call that gives a label; where the label is given already, it is refused
abbrev pub Unlabelled : Option Label → (Option Answer → Run → Type 0) → Run → Option Answer → Run → Type 0
Unlabelled (Some label) Call w says w' = IsRefused refusals.LabelUsed w says w'
Unlabelled None Call w says w' = Call says w'

-- a call on the port of a label, of a rank; where there is no such label, it is refused
abbrev pub AtPort : Option (ℕ × Port) → (ℕ → Port → Option Answer → Run → Type 0) → Run → Option Answer → Run → Type 0
AtPort None Call w says w' = IsRefused (refusals.Unknown 1) w says w'
AtPort (Some p) Call w says w' = Call p.0 p.1 says w'

-- an event at the wire that the line names; where the stack has none of that name, it is refused
abbrev pub AtWire : Option ℕ → (ℕ → Option Answer → Run → Type 0) → Run → Option Answer → Run → Type 0
AtWire None Call w says w' = IsRefused refusals.NoWire w says w'
AtWire (Some wire) Call w says w' = Call wire says w'

-- ---- register FAC NODE APP

pub record CallsRegister (app : List ℕ) (w : Run) (site : Site) (says : Option Answer) (w' : Run) : Type 0 where
  pub result : Result (Unit {0}) (AppError RegisterError)
  pub memory : result ≢ Err (apps.Call register.Memory)
  pub does : AppRegisters site.rank site.fac site.node app result w.tower w'.tower
  pub labels : w'.labels ≡ w.labels
  pub told : says ≡ answer_told (λ done. Some answers.Done) (app_told register_told) result

abbrev pub Registering : Plan → List ℕ → List ℕ → List ℕ → Run → Option Answer → Run → Type 0
Registering plan fac node app w says w' = AtSite (site_at plan 1 fac node) (CallsRegister app w) w says w'

-- ---- unregister FAC NODE APP

pub record CallsUnregister (app : List ℕ) (w : Run) (site : Site) (says : Option Answer) (w' : Run) : Type 0 where
  pub result : Result (Unit {0}) (AppError UnregisterError)
  pub memory : result ≢ Err (apps.Call unregister.Memory)
  pub does : AppUnregisters site.rank site.fac site.node app result w.tower w'.tower
  pub labels : w'.labels ≡ w.labels
  pub told : says ≡ answer_told (λ done. Some answers.Done) (app_told unregister_told) result

abbrev pub Unregistering : Plan → List ℕ → List ℕ → List ℕ → Run → Option Answer → Run → Type 0
Unregistering plan fac node app w says w' = AtSite (site_at plan 1 fac node) (CallsUnregister app w) w says w'

-- ---- alloc LABEL FAC NODE APP TO

-- the answer that tells the state of a port of a rank
abbrev pub port_answer : Plan → Tower → ℕ → Port → Option Answer
port_answer plan t rank port = option_map answers.Port (drawn_told plan rank (state_at t rank port))

-- a label of a port of a rank, whose state has been told
abbrev pub label_of : List ℕ → Tower → ℕ → Port → Label
label_of name t rank port = record { name = name; rank = rank; port = port; shown = state_at t rank port }

abbrev pub asked : Site → List ℕ → List ℕ → Want → Ask
asked site app to want = record { fac = site.fac; node = site.node; app = app; to = to; want = want }

-- the labels after a call that may have given one
abbrev pub labelled : {E : Type 0} → List ℕ → Tower → ℕ → Result Port E → List Label → List Label
labelled name t rank (Ok port) labels = labels ++ label_of name t rank port ∷ []
labelled name t rank (Err e) labels = labels

pub record CallsAllocate (plan : Plan) (label fac node : List ℕ) (rank : ℕ) (w : Run) (ask : Ask) (says : Option Answer) (w' : Run) : Type 0 where
  pub result : Result Port (AppError AllocateError)
  pub memory : result ≢ Err (apps.Call allocate.Memory)
  pub does : AppAllocates rank ask result w.tower w'.tower
  pub labels : w'.labels ≡ labelled label w'.tower rank result w.labels
  pub told : says ≡ answer_told (port_answer plan w'.tower rank) (app_told (allocate_told fac node)) result

abbrev pub Allocating : Plan → List ℕ → List ℕ → List ℕ → List ℕ → List ℕ → Want → Run → Option Answer → Run → Type 0
Allocating plan label fac node app to want w says w' =
    AtSite (site_at plan 2 fac node) (λ site. Unlabelled (label_in w.labels label) (CallsAllocate plan label fac node site.rank w (asked site app to want)) w) w says w'

-- ---- accept LABEL FAC NODE APP

abbrev pub claim_answer : Plan → Tower → ℕ → Option Port → Option Answer
claim_answer plan t rank None = Some answers.Nothing
claim_answer plan t rank (Some port) = port_answer plan t rank port

abbrev pub claim_labelled : List ℕ → Tower → ℕ → Option Port → List Label → List Label
claim_labelled name t rank None labels = labels
claim_labelled name t rank (Some port) labels = labels ++ label_of name t rank port ∷ []

pub record CallsIncoming (plan : Plan) (label app : List ℕ) (w : Run) (site : Site) (says : Option Answer) (w' : Run) : Type 0 where
  pub result : Option Port
  pub does : AppClaims site.rank site.fac site.node app result w.tower w'.tower
  pub labels : w'.labels ≡ claim_labelled label w'.tower site.rank result w.labels
  pub told : says ≡ claim_answer plan w'.tower site.rank result

abbrev pub Accepting : Plan → List ℕ → List ℕ → List ℕ → List ℕ → Run → Option Answer → Run → Type 0
Accepting plan label fac node app w says w' =
    AtSite (site_at plan 2 fac node) (λ site. Unlabelled (label_in w.labels label) (CallsIncoming plan label app w site) w) w says w'

-- ---- send LABEL BYTES

pub record CallsSend (plan : Plan) (bytes : List ℕ) (w : Run) (rank : ℕ) (port : Port) (says : Option Answer) (w' : Run) : Type 0 where
  pub result : Result Num (AppError SendError)
  pub memory : result ≢ Err (apps.Call send.Memory)
  pub does : AppSends rank port bytes result w.tower w'.tower
  pub labels : w'.labels ≡ w.labels
  pub told : says ≡ answer_told (λ num. Some (answers.Sent num)) (app_told (send_told plan rank)) result

abbrev pub Sending : Plan → List ℕ → List ℕ → Run → Option Answer → Run → Type 0
Sending plan label bytes w says w' = AtPort (port_in w.labels label) (CallsSend plan bytes w) w says w'

-- ---- read LABEL

-- the oldest SDU that waits for an application at a port; what waits for an IPC process does not count
abbrev pub for_app : Bool → Option Entry → Option Entry
for_app true oldest = None
for_app false oldest = oldest

-- the oldest SDU that waits for an application at a port of a rank
abbrev pub waiting : Tower → ℕ → Port → Option Entry
waiting t rank port = option_and_then (λ (u : Tower). for_app (is_ipc_at (seen_of u) port) (unpassed (seen_of u) port)) (rank_of t rank)

-- what waits for an application at a port of a rank came at this tick, with these bytes
pub record IsWaiting (t : Tower) (rank : ℕ) (port : Port) (at : ℕ) (bytes : List ℕ) : Type 0 where
  pub entry : Entry
  pub oldest : waiting t rank port ≡ Some entry
  pub its_tick : at ≡ entry.tick
  pub its_bytes : bytes ≡ entry.bytes

-- these entries waited at the port, and were passed one after the other, the oldest first
abbrev pub Passes : ℕ → Port → Tower → List Entry → Tower → Type 0
Passes rank port t [] t' = t' ≡ t
Passes rank port t (x ∷ xs) t' = (mid : Tower) × (waiting t rank port ≡ Some x) × AppPasses rank port t mid × Passes rank port mid xs t'

abbrev pub got_note : ℕ → ℕ → Entry → Note
got_note line tick x = notes.Line line tick (answers.Got x.tick x.bytes)

abbrev pub read_notes : ℕ → ℕ → List Entry → List Note
read_notes line tick [] = noted line tick (Some answers.Nothing)
read_notes line tick (x ∷ xs) = got_note line tick x ∷ map (got_note line tick) xs

-- all that waited at the port was read, and nothing is left
pub record IsRead (line : ℕ) (w : Run) (rank : ℕ) (port : Port) (ns : List Note) (w' : Run) : Type 0 where
  pub entries : List Entry
  pub passes : Passes rank port w.tower entries w'.tower
  pub none_left : waiting w'.tower rank port ≡ None
  pub labels : w'.labels ≡ w.labels
  pub notes : ns ≡ read_notes line (now_of w.tower) entries

-- all that waited at the port was read, each entry with a note
pub record ReadsAll (line : ℕ) (rank : ℕ) (port : Port) (w : Run) (trace : List Note) (w' : Run) (trace' : List Note) : Type 0 where
  pub entries : List Entry
  pub passes : Passes rank port w.tower entries w'.tower
  pub none_left : waiting w'.tower rank port ≡ None
  pub labels : w'.labels ≡ w.labels
  pub notes : trace' ≡ trace ++ map (got_note line (now_of w.tower)) entries

abbrev pub Reading : ℕ → Option (ℕ × Port) → Run → List Note → Run → Type 0
Reading line None w ns w' = (ns ≡ noted line (now_of w.tower) (Some (answers.Refused (refusals.Unknown 1)))) × (w' ≡ w)
Reading line (Some p) w ns w' = IsRead line w p.0 p.1 ns w'

-- ---- free LABEL

pub record CallsFree (w : Run) (rank : ℕ) (port : Port) (says : Option Answer) (w' : Run) : Type 0 where
  pub result : Result (Unit {0}) (AppError FreeError)
  pub memory : result ≢ Err (apps.Call free.Memory)
  pub does : AppFrees rank port result w.tower w'.tower
  pub labels : w'.labels ≡ w.labels
  pub told : says ≡ answer_told (λ done. Some answers.Done) (app_told free_told) result

abbrev pub Freeing : List ℕ → Run → Option Answer → Run → Type 0
Freeing label w says w' = AtPort (port_in w.labels label) (CallsFree w) w says w'

-- ---- state LABEL

-- the state of the port was told; it was told before too, by the line that changed it
pub record TellsState (plan : Plan) (w : Run) (rank : ℕ) (port : Port) (says : Option Answer) (w' : Run) : Type 0 where
  pub told : says ≡ port_answer plan w.tower rank port
  pub run : w' ≡ w

abbrev pub Stating : Plan → List ℕ → Run → Option Answer → Run → Type 0
Stating plan label w says w' = AtPort (port_in w.labels label) (TellsState plan w) w says w'

-- ---- lose WIRE K, repeat WIRE K TICK, hold WIRE K TICK, cut WIRE, mend WIRE

-- the number of the wire of that name
abbrev pub wire_of : Plan → List ℕ → Option ℕ
wire_of plan name = place_in (names_of plan.wires) name

-- an event of a wire, by what it does to the tower
pub record CallsWire (Does : Result (Unit {0}) WireError → Tower → Tower → Type 0) (w : Run) (says : Option Answer) (w' : Run) : Type 0 where
  pub result : Result (Unit {0}) WireError
  pub memory : result ≢ Err wires.Memory
  pub does : Does result w.tower w'.tower
  pub labels : w'.labels ≡ w.labels
  pub told : says ≡ answer_told (λ done. Some answers.Done) wire_told result

abbrev pub Losing : Plan → List ℕ → ℕ → Run → Option Answer → Run → Type 0
Losing plan wire frame w says w' = AtWire (wire_of plan wire) (λ n. CallsWire (Loses n frame) w) w says w'

abbrev pub Repeating : Plan → List ℕ → ℕ → ℕ → Run → Option Answer → Run → Type 0
Repeating plan wire frame at w says w' = AtWire (wire_of plan wire) (λ n. CallsWire (Repeats n frame at) w) w says w'

abbrev pub Holding : Plan → List ℕ → ℕ → ℕ → Run → Option Answer → Run → Type 0
Holding plan wire frame at w says w' = AtWire (wire_of plan wire) (λ n. CallsWire (HoldsBack n frame at) w) w says w'

abbrev pub Cutting : Plan → List ℕ → Run → Option Answer → Run → Type 0
Cutting plan wire w says w' = AtWire (wire_of plan wire) (λ n. CallsWire (Cuts n) w) w says w'

abbrev pub Mending : Plan → List ℕ → Run → Option Answer → Run → Type 0
Mending plan wire w says w' = AtWire (wire_of plan wire) (λ n. CallsWire (Mends n) w) w says w'

-- ---- journal FAC

-- one end of a facility of a rank, as it is shown; nothing where the stack does not name its port
abbrev pub flow_note : Plan → ℕ → End → Option FlowNote
flow_note plan rank e = option_and_then (λ port. option_map (λ state. record { flow = e.flow; role = e.role; port = port; app = e.app; peer = e.peer; cube = e.cube; taken = e.taken; state = state }) (state_told plan rank e.state)) (port_told plan rank e.port)

abbrev pub sent_note : ℕ → ℕ → Entry → Note
sent_note line tick x = notes.Line line tick (answers.SentEntry x.tick x.num x.bytes)

abbrev pub entry_note : ℕ → ℕ → Entry → Note
entry_note line tick x = notes.Line line tick (answers.GotEntry x.tick x.num x.bytes)

-- an end, then what it sent, and then what it got
abbrev pub end_notes : Plan → ℕ → ℕ → ℕ → End → List Note
end_notes plan rank line tick e = noted line tick (option_map answers.Flow (flow_note plan rank e)) ++ (map (sent_note line tick) e.sent ++ map (entry_note line tick) e.got)

-- all ends of a facility of a rank, in the order in which they were made
abbrev pub journal_notes : Plan → ℕ → ℕ → ℕ → List End → List Note
journal_notes plan rank line tick [] = noted line tick (Some answers.Nothing)
journal_notes plan rank line tick (e ∷ es) = flat_map (end_notes plan rank line tick) (e ∷ es)

-- the journal was shown, and nothing changed
pub record ShowsJournal (plan : Plan) (line : ℕ) (w : Run) (f : RankedFac) (ns : List Note) (w' : Run) : Type 0 where
  pub run : w' ≡ w
  pub notes : ns ≡ journal_notes plan f.rank line (now_of w.tower) (ends_at w.tower f.rank f.fac)

abbrev pub Showing : Plan → ℕ → Option RankedFac → Run → List Note → Run → Type 0
Showing plan line None w ns w' = (ns ≡ noted line (now_of w.tower) (Some (answers.Refused (refusals.Unknown 1)))) × (w' ≡ w)
Showing plan line (Some f) w ns w' = ShowsJournal plan line w f ns w'

-- ---- retire POLICY

-- the answer to `retire`, by the count of the policy where it is live
abbrev pub retire_answer : Option Count → Option Answer
retire_answer None = Some (answers.Refused refusals.NoPolicy)
retire_answer (Some count) = Some answers.Done

-- the shelf without the policy of that name, if it is live
abbrev pub retired_if : Option Count → List ℕ → List Slot → List Slot
retired_if None name shelf = shelf
retired_if (Some count) name shelf = retired name shelf

-- the policy of that name is retired where it is live, and the run is as it was
pub record Retires (line : ℕ) (name : List ℕ) (s : Stage) (ns : List Note) (s' : Stage) : Type 0 where
  pub run : s'.run ≡ s.run
  pub shelf : s'.shelf ≡ retired_if (count_of name s.shelf) name s.shelf
  pub notes : ns ≡ noted line (now_of s.run.tower) (retire_answer (count_of name s.shelf))

-- ---- rounds, and tick N

-- the round that follows by itself, where one does
abbrev pub RoundsBy : Rounds → List Slot → Tower → List Slot → Tower → Type 0
RoundsBy Auto slots t slots' t' = IsRound slots slots' t t'
RoundsBy Manual slots t slots' t' = (slots' ≡ slots) × (t' ≡ t)

-- one tick, and the round that follows it, after which the labels told their states
pub record TicksOnce (plan : Plan) (line : ℕ) (s : Stage) (ns : List Note) (s' : Stage) : Type 0 where
  pub ticked : Tower
  pub ticks : TowerTicks (Ok tt) s.run.tower ticked
  pub rounds : RoundsBy plan.rounds s.shelf ticked s'.shelf s'.run.tower
  pub labels : s'.run.labels ≡ looked s'.run.tower s.run.labels
  pub notes : ns ≡ state_notes plan line s'.run.tower s.run.labels

-- so many ticks
abbrev pub Ticks : Plan → ℕ → ℕ → Stage → List Note → Stage → Type 0
Ticks plan line zero s ns s' = (ns ≡ []) × (s' ≡ s)
Ticks plan line (suc count) s ns s' = (mid : Stage) × (first : List Note) × (rest : List Note) × TicksOnce plan line s first mid × Ticks plan line count mid rest s' × (ns ≡ first ++ rest)

pub record AllTicks (plan : Plan) (line count : ℕ) (s : Stage) (ns : List Note) (s' : Stage) : Type 0 where
  pub told : List Note
  pub ticks : Ticks plan line count s told s'
  pub notes : ns ≡ told ++ noted line (now_of s'.run.tower) (Some answers.Done)

-- all the ticks, or none where the clock would pass its end
abbrev pub Ticking : Bool → Plan → ℕ → ℕ → Stage → List Note → Stage → Type 0
Ticking true plan line count s ns s' = (ns ≡ noted line (now_of s.run.tower) (Some (answers.Refused refusals.ClockSpent))) × (s' ≡ s)
Ticking false plan line count s ns s' = AllTicks plan line count s ns s'

-- ---- in DIF NODE LINK, out DIF NODE LINK, clock DIF NODE, round

-- no link has a number above 65,535
abbrev pub link_of : ℕ → ℕ
link_of link = min link 65535

pub record CallsIn (plan : Plan) (link : ℕ) (w : Run) (site : Site) (says : Option Answer) (w' : Run) : Type 0 where
  pub result : Result InStep StepError
  pub memory : result ≢ Err NoMemory
  pub does : InSteps site.rank site.fac site.node (link_of link) result w.tower w'.tower
  pub labels : w'.labels ≡ w.labels
  pub told : says ≡ answer_told (in_told plan site.rank) step_told result

abbrev pub TakingIn : Plan → List ℕ → List ℕ → ℕ → Run → Option Answer → Run → Type 0
TakingIn plan dif node link w says w' = AtSite (dif_site_at plan dif node) (CallsIn plan link w) w says w'

pub record CallsClock (plan : Plan) (w : Run) (site : Site) (says : Option Answer) (w' : Run) : Type 0 where
  pub result : Result ClockStep StepError
  pub memory : result ≢ Err NoMemory
  pub does : ClocksAt site.rank site.fac site.node result w.tower w'.tower
  pub labels : w'.labels ≡ w.labels
  pub told : says ≡ answer_told (clock_told plan site.rank) step_told result

abbrev pub Clocking : Plan → List ℕ → List ℕ → Run → Option Answer → Run → Type 0
Clocking plan dif node w says w' = AtSite (dif_site_at plan dif node) (CallsClock plan w) w says w'

-- the step lets a PDU go that the shelf picks: any place among the heads is lawful
pub record CallsOut (plan : Plan) (link : ℕ) (s : Stage) (site : Site) (says : Option Answer) (s' : Stage) : Type 0 where
  pub result : Result OutStep StepError
  pub memory : result ≢ Err NoMemory
  pub does : OutSteps Anything s.shelf s'.shelf site.rank site.fac site.node (link_of link) result s.run.tower s'.run.tower
  pub labels : s'.run.labels ≡ s.run.labels
  pub told : says ≡ answer_told (out_told plan site.rank) step_told result

abbrev pub LettingOut : Plan → Result Site ℕ → ℕ → Stage → Option Answer → Stage → Type 0
LettingOut plan (Err field) link s says s' = (says ≡ Some (answers.Refused (refusals.Unknown field))) × (s' ≡ s)
LettingOut plan (Ok site) link s says s' = CallsOut plan link s site says s'

-- a word that says one thing, beside the shelf
pub record SaysBeside (line : ℕ) (Does : Option Answer → Stage → Type 0) (ns : List Note) (s' : Stage) : Type 0 where
  pub says : Option Answer
  pub does : Does says s'
  pub notes : ns ≡ noted line (now_of s'.run.tower) says

pub record RoundsOnce (line : ℕ) (s : Stage) (ns : List Note) (s' : Stage) : Type 0 where
  pub does : IsRound s.shelf s'.shelf s.run.tower s'.run.tower
  pub labels : s'.run.labels ≡ s.run.labels
  pub notes : ns ≡ noted line (now_of s'.run.tower) (Some answers.Done)

-- ---- ledger DIF NODE

-- the write-offs of a member, in order; `none` where nothing was written off
abbrev pub off_notes : Plan → ℕ → ℕ → ℕ → List Off → List Note
off_notes plan rank line tick [] = noted line tick (Some answers.Nothing)
off_notes plan rank line tick (off ∷ offs) = flat_map (λ (x : Off). noted line tick (off_told plan rank x)) (off ∷ offs)

-- the answer where the DIF has no member at that node
abbrev pub ledger_notes : Plan → ℕ → ℕ → ℕ → Option (List Off) → List Note
ledger_notes plan rank line tick None = noted line tick (Some (answers.Refused refusals.NoIpc))
ledger_notes plan rank line tick (Some offs) = off_notes plan rank line tick offs

-- these are the write-offs of the member at a node of a DIF of a rank, if it has one there
abbrev pub AreOffs : Tower → Site → Option (List Off) → Type 0
AreOffs t site None = member_at t site.rank site.fac site.node ≡ None
AreOffs t site (Some offs) = IsLedgerAt t site.rank site.fac site.node offs

-- the ledger was shown, and nothing changed
pub record ShowsLedger (plan : Plan) (line : ℕ) (w : Run) (site : Site) (ns : List Note) (w' : Run) : Type 0 where
  pub offs : Option (List Off)
  pub are : AreOffs w.tower site offs
  pub run : w' ≡ w
  pub notes : ns ≡ ledger_notes plan site.rank line (now_of w.tower) offs

abbrev pub Accounting : Plan → ℕ → Result Site ℕ → Run → List Note → Run → Type 0
Accounting plan line (Err field) w ns w' = (ns ≡ noted line (now_of w.tower) (Some (answers.Refused (refusals.Unknown field)))) × (w' ≡ w)
Accounting plan line (Ok site) w ns w' = ShowsLedger plan line w site ns w'

-- ---- rib DIF NODE [PATH]

-- the name that is asked for; all objects where none is given
abbrev pub path_of : Option (List ℕ) → List ℕ
path_of None = codes "/"
path_of (Some path) = path

-- objects, in order; `none` where there is none
abbrev pub object_notes : ℕ → ℕ → List Shown → List Note
object_notes line tick [] = noted line tick (Some answers.Nothing)
object_notes line tick (object ∷ objects) = flat_map (λ (x : Shown). noted line tick (object_told x)) (object ∷ objects)

-- the answer where the DIF has no member at that node
abbrev pub rib_notes : ℕ → ℕ → Result (List Shown) StepError → List Note
rib_notes line tick (Ok objects) = object_notes line tick objects
rib_notes line tick (Err error) = noted line tick (option_map answers.Refused (step_told error))

-- the objects were shown as they are now, and nothing changed
pub record ShowsObjects (line : ℕ) (path : Option (List ℕ)) (w : Run) (site : Site) (ns : List Note) (w' : Run) : Type 0 where
  pub found : Result (List Shown) StepError
  pub are : ShowsUnderAt w.tower site.rank site.fac site.node (path_of path) found
  pub memory : found ≢ Err NoMemory
  pub run : w' ≡ w
  pub notes : ns ≡ rib_notes line (now_of w.tower) found

abbrev pub ShowingRib : ℕ → Option (List ℕ) → Result Site ℕ → Run → List Note → Run → Type 0
ShowingRib line path (Err field) w ns w' = (ns ≡ noted line (now_of w.tower) (Some (answers.Refused (refusals.Unknown field)))) × (w' ≡ w)
ShowingRib line path (Ok site) w ns w' = ShowsObjects line path w site ns w'

-- ---- cdap DIF NODE BYTES

pub record CallsCdap (bytes : List ℕ) (w : Run) (site : Site) (says : Option Answer) (w' : Run) : Type 0 where
  pub result : Result (List ℕ) CdapCallError
  pub memory : result ≢ Err calls.Memory
  pub does : AsksAt site.rank site.fac site.node bytes result w.tower w'.tower
  pub labels : w'.labels ≡ w.labels
  pub told : says ≡ answer_told (λ answer. Some (answers.Cdap answer)) cdap_told result

abbrev pub Asking : Plan → List ℕ → List ℕ → List ℕ → Run → Option Answer → Run → Type 0
Asking plan dif node bytes w says w' = AtSite (dif_site_at plan dif node) (CallsCdap bytes w) w says w'

-- ---- publish DIF NODE FAC

-- the number of a facility, where it is of the rank just below this one
abbrev pub number_below : ℕ → Option RankedFac → Option ℕ
number_below rank None = None
number_below rank (Some f) = if rank == f.rank + 1 then Some f.fac else None

-- a call with the number of what a field names; where it names nothing, it is refused
abbrev pub AtField : ℕ → Option ℕ → (ℕ → Option Answer → Run → Type 0) → Run → Option Answer → Run → Type 0
AtField field None Call w says w' = IsRefused (refusals.Unknown field) w says w'
AtField field (Some n) Call w says w' = Call n says w'

pub record CallsPublish (w : Run) (site : Site) (fac : ℕ) (says : Option Answer) (w' : Run) : Type 0 where
  pub result : Result (Unit {0}) PublishError
  pub memory : result ≢ Err (publish.Lower register.Memory)
  pub does : PublishesAt site.rank site.fac site.node fac result w.tower w'.tower
  pub labels : w'.labels ≡ w.labels
  pub told : says ≡ answer_told (λ done. Some answers.Done) publish_told result

abbrev pub Publishing : Plan → List ℕ → List ℕ → List ℕ → Run → Option Answer → Run → Type 0
Publishing plan dif node fac w says w' =
    AtSite (dif_site_at plan dif node) (λ site. AtField 3 (number_below site.rank (fac_named plan fac)) (CallsPublish w site) w) w says w'

-- ---- enrol DIF NODE FAC PEER

-- what is called where the names of the facility below and of the node are these
pub record CallsEnrol (fac_name node_name : List ℕ) (w : Run) (site : Site) (fac peer : ℕ) (says : Option Answer) (w' : Run) : Type 0 where
  pub result : Result (Unit {0}) EnrolError
  pub memory : result ≢ Err enrol.Memory
  pub does : EnrolsAt site.rank site.fac site.node fac peer result w.tower w'.tower
  pub labels : w'.labels ≡ w.labels
  pub told : says ≡ answer_told (λ done. Some answers.Done) (enrol_told fac_name node_name) result

abbrev pub Enrolling : Plan → List ℕ → List ℕ → List ℕ → List ℕ → Run → Option Answer → Run → Type 0
Enrolling plan dif node fac peer w says w' =
    AtSite (dif_site_at plan dif node) (λ site. AtField 3 (number_below site.rank (fac_named plan fac)) (λ n. AtField 4 (place_in plan.nodes peer) (CallsEnrol fac node w site n) w) w) w says w'

-- ---- member DIF NODE

-- the answer where the DIF has no member at that node, or the state of the one that it has there
abbrev pub member_answer : Option MemberState → Option Answer
member_answer None = Some (answers.Refused refusals.NoIpc)
member_answer (Some state) = Some (answers.Member (member_told state))

-- this is the state of the member at a node of a DIF of a rank, if it has one there
abbrev pub IsStateOf : Tower → Site → Option MemberState → Type 0
IsStateOf t site None = member_at t site.rank site.fac site.node ≡ None
IsStateOf t site (Some state) = IsMemberState t site.rank site.fac site.node state

-- the state of a member was told, and nothing changed
pub record TellsMember (w : Run) (site : Site) (says : Option Answer) (w' : Run) : Type 0 where
  pub state : Option MemberState
  pub its : IsStateOf w.tower site state
  pub told : says ≡ member_answer state
  pub run : w' ≡ w

abbrev pub TellingMember : Plan → List ℕ → List ℕ → Run → Option Answer → Run → Type 0
TellingMember plan dif node w says w' = AtSite (dif_site_at plan dif node) (TellsMember w) w says w'

-- ---- all words

-- a word that says one thing
pub record Says (line : ℕ) (Does : Option Answer → Run → Type 0) (ns : List Note) (w' : Run) : Type 0 where
  pub says : Option Answer
  pub does : Does says w'
  pub notes : ns ≡ noted line (now_of w'.tower) says

-- what a word that says one thing does to the run, and what it says; no other words do anything lawful
abbrev pub Answering : Plan → Event → Run → Option Answer → Run → Type 0
Answering plan (events.Register fac node app) w says w' = Registering plan fac node app w says w'
Answering plan (events.Unregister fac node app) w says w' = Unregistering plan fac node app w says w'
Answering plan (events.Alloc label fac node app to want) w says w' = Allocating plan label fac node app to want w says w'
Answering plan (events.Accept label fac node app) w says w' = Accepting plan label fac node app w says w'
Answering plan (events.Send label bytes) w says w' = Sending plan label bytes w says w'
Answering plan (events.State label) w says w' = Stating plan label w says w'
Answering plan (events.Free label) w says w' = Freeing label w says w'
Answering plan (events.Lose wire frame) w says w' = Losing plan wire frame w says w'
Answering plan (events.Repeat wire frame at) w says w' = Repeating plan wire frame at w says w'
Answering plan (events.Hold wire frame at) w says w' = Holding plan wire frame at w says w'
Answering plan (events.Cut wire) w says w' = Cutting plan wire w says w'
Answering plan (events.Mend wire) w says w' = Mending plan wire w says w'
Answering plan (events.In dif node link) w says w' = TakingIn plan dif node link w says w'
Answering plan (events.Clock dif node) w says w' = Clocking plan dif node w says w'
Answering plan (events.Cdap dif node bytes) w says w' = Asking plan dif node bytes w says w'
Answering plan (events.Publish dif node fac) w says w' = Publishing plan dif node fac w says w'
Answering plan (events.Enrol dif node fac peer) w says w' = Enrolling plan dif node fac peer w says w'
Answering plan (events.Member dif node) w says w' = TellingMember plan dif node w says w'
Answering plan event w says w' = ⊥

-- what a word does to the run, and what it answers
abbrev pub ActsOnRun : Plan → ℕ → Event → Run → List Note → Run → Type 0
ActsOnRun plan line (events.Read label) w ns w' = Reading line (port_in w.labels label) w ns w'
ActsOnRun plan line (events.Journal fac) w ns w' = Showing plan line (fac_named plan fac) w ns w'
ActsOnRun plan line (events.Ledger dif node) w ns w' = Accounting plan line (dif_site_at plan dif node) w ns w'
ActsOnRun plan line (events.Rib dif node path) w ns w' = ShowingRib line path (dif_site_at plan dif node) w ns w'
ActsOnRun plan line event w ns w' = Says line (Answering plan event w) ns w'

-- ---- lines

-- what a word does and answers; no other words change the shelf
abbrev pub Acts : Plan → ℕ → Event → Stage → List Note → Stage → Type 0
Acts plan line (events.Retire policy) s ns s' = Retires line policy s ns s'
Acts plan line (events.Tick count) s ns s' = Ticking (nat_lt 10000000 (now_of s.run.tower + count)) plan line count s ns s'
Acts plan line (events.Out dif node link) s ns s' = SaysBeside line (LettingOut plan (dif_site_at plan dif node) link s) ns s'
Acts plan line events.Round s ns s' = RoundsOnce line s ns s'
Acts plan line event s ns s' = ActsOnRun plan line event s.run ns s'.run × (s'.shelf ≡ s.shelf)

-- who moves PDUs after a line; no round follows a line `tick`, since each of its ticks had one
abbrev pub rounds_after : Rounds → Event → Rounds
rounds_after rounds (events.Tick count) = Manual
rounds_after rounds event = rounds

-- a line: what its word does and answers, the round that follows by itself, and then the states of the labels that changed; the
-- tower stands after it
pub record Steps (plan : Plan) (line : ℕ) (event : Event) (s : Stage) (ns : List Note) (s' : Stage) : Type 0 where
  pub mid : Stage
  pub answer : List Note
  pub acts : Acts plan line event s answer mid
  pub rounds : RoundsBy (rounds_after plan.rounds event) mid.shelf mid.run.tower s'.shelf s'.run.tower
  pub labels : s'.run.labels ≡ looked s'.run.tower mid.run.labels
  pub notes : ns ≡ answer ++ state_notes plan line s'.run.tower mid.run.labels
  pub stands : IsTower s'.run.tower
