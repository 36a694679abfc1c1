-- What the members of a DIF know of applications, in whole runs: whom they find in their directory was registered by a line of the schedule.
use Rattle.std.specs.Prelude.{◌≡◌, ◌⊎◌, ℕ, true, false, List, Option, None, Some, Ok, option_and_then}
use Rattle.rina_base.specs.declared.number.FlowName.{FlowName}
use Rattle.rina_base.specs.Decimals.{number_of}
use Rattle.rina_base.specs.Names.{app_at}
use Rattle.rina_newest.specs.declared.item.Item.{Item}
use Rattle.rina_dir.specs.Directory.{key_of}
use Rattle.rina_iface.specs.declared.ends.End.{End}
use Rattle.rina_iface.specs.declared.state.Role.TheVariants.{Asker, Far}
use Rattle.rina_iface.specs.Journal.{At}
use Rattle.rina_policy.specs.Slots.{Slot}
use Rattle.rina_report.specs.declared.note.Note.{Note}
use Rattle.rina_stack.specs.declared.plan.Plan.{Plan}
use Rattle.rina_member.specs.Knowing.{IsEntryKey}
use Rattle.rina_conn.specs.declared.conn.Conn.{Conn}
use Rattle.rina_flows.specs.Tied.{IsAt}
use Rattle.rina_dif.specs.declared.dif.Dif.{Dif}
use Rattle.rina_dif.specs.Requesting.{KnowsAt}
use Rattle.rina_known.specs.Calls.{address_at}
use Rattle.rina_known.specs.Entries.{IsEntryOf, IsItem, Name}
use Rattle.rina_tower.specs.declared.tower.Tower.{Tower}
use Rattle.rina_tower.specs.Bystanders.{is_ipc}
use Rattle.rina_tower.specs.Ledgers.{dif_at}
use Rattle.rina_words.specs.Step.{Stage}
use Rattle.rina_run.specs.Opening.{IsOpening}
use Rattle.rina_run.specs.Run.{Runs}
use Rattle.rina_laws.specs.Named.{IsRegistration, end_at}

-- Entries

-- an item of the DIF of place n at rank r
pub record StandsIn (t : Tower) (r n : ℕ) (item : Item) : Type 0 where
  pub dif : Dif
  pub is_dif : dif_at t r n ≡ Some dif
  pub is_item : IsItem dif item

-- the address of the member at a node of the DIF of place n at rank r; none where there is none
abbrev pub member_address : Tower → (r n node : ℕ) → Option ℕ
member_address t r n node = option_and_then (λ (d : Dif). address_at d node) (dif_at t r n)

-- one of these lines registered the application at a node of the DIF of place n at rank r, at which the member of this address stands; and its `ok` stands among the
-- notes, with a tick of at most `now`. The members of a DIF are those of the opening
pub record WasRegistered (plan : Plan) (opening : Tower) (r n : ℕ) (app : List ℕ) (address now : ℕ) (lines : List (List ℕ)) (ns : List Note) : Type 0 where
  pub node : ℕ
  pub member : member_address opening r n node ≡ Some address
  pub by_line : IsRegistration plan r n node app now lines ns

-- an item is the entry of an application that was registered so, at the member of its address, by the tick of its version; or of an IPC process, which no line registers
pub record IsEntryBy (plan : Plan) (opening : Tower) (r n : ℕ) (lines : List (List ℕ)) (ns : List Note) (item : Item) : Type 0 where
  pub name : Name
  pub entry : IsEntryOf name item
  pub named : (is_ipc name.app ≡ true) ⊎ WasRegistered plan opening r n name.app name.address item.version.tick lines ns

-- where it is a live entry, it stood there at the opening, or is such a one
abbrev pub IsExplained : Plan → Tower → (r n : ℕ) → List (List ℕ) → List Note → Item → Type 0
IsExplained plan opening r n lines ns item = (value : List ℕ) → IsEntryKey item.key → item.value ≡ Some value → StandsIn opening r n item ⊎ IsEntryBy plan opening r n lines ns item

-- in every run of a stack, so is each item of each DIF in which no allocation failed, be it kept by a member or on its way
abbrev pub EntriesAreRegistered : Type 0
EntriesAreRegistered =
    (plan : Plan) (shelf : List Slot) (start : Stage) (lines : List (List ℕ)) (ns : List Note) (s : Stage) → IsOpening plan shelf start → Runs plan 1 start lines ns s
    → (r n : ℕ) (d : Dif) → dif_at s.run.tower r n ≡ Some d → d.failed ≡ false → (item : Item) → IsItem d item → IsExplained plan start.run.tower r n lines ns item

-- Applications

-- there is an entry of the application in the DIF of place n at rank r, with this address
pub record HasEntry (t : Tower) (r n : ℕ) (app : List ℕ) (address : ℕ) : Type 0 where
  pub item : Item
  pub stands : StandsIn t r n item
  pub key : item.key ≡ key_of app
  pub value : List ℕ
  pub live : item.value ≡ Some value
  pub number : number_of value ≡ Some address

-- in every run, an application that a member of a DIF finds in its directory at an address, and that is no IPC process, has had an entry there with this address since the
-- opening, or a line registered it at the member of this address
abbrev pub KnownAreRegistered : Type 0
KnownAreRegistered =
    (plan : Plan) (shelf : List Slot) (start : Stage) (lines : List (List ℕ)) (ns : List Note) (s : Stage) → IsOpening plan shelf start → Runs plan 1 start lines ns s
    → (r n : ℕ) (d : Dif) → dif_at s.run.tower r n ≡ Some d → d.failed ≡ false → (node : ℕ) (app : List ℕ) (address : ℕ) → app_at app ≡ Ok app → is_ipc app ≡ false → KnowsAt d node app address
    → HasEntry start.run.tower r n app address ⊎ WasRegistered plan start.run.tower r n app address d.clock lines ns

-- the connection of the end at a place leads to the member of this address
pub record LeadsOn (i address : ℕ) (d : Dif) : Type 0 where
  pub end : End
  pub conn : Conn
  pub is_at : IsAt d.flows.journal.ends d.flows.conns i end conn
  pub far : conn.sending.form.peer.far ≡ address

-- in every run, each asker's end of each DIF that was not there at the opening asks for an application that has had an entry there since the opening, with the address of the
-- member to which its connection leads; or that a line registered at this member, no later than the tick of the flow's name; but where it asks for an IPC process
abbrev pub AskedAreRegistered : Type 0
AskedAreRegistered =
    (plan : Plan) (shelf : List Slot) (start : Stage) (lines : List (List ℕ)) (ns : List Note) (s : Stage) → IsOpening plan shelf start → Runs plan 1 start lines ns s
    → (r n : ℕ) (d : Dif) → dif_at s.run.tower r n ≡ Some d → d.failed ≡ false → (i : ℕ) (e : End) → At d.flows.journal.ends i e → e.role ≡ Asker → end_at start.run.tower r n i ≡ None → is_ipc e.peer ≡ false → app_at e.peer ≡ Ok e.peer
    → (address : ℕ) × LeadsOn i address d × (HasEntry start.run.tower r n e.peer address ⊎ WasRegistered plan start.run.tower r n e.peer address e.flow.tick lines ns)

-- no asker's end of this flow stands in the DIF of place n at rank r
abbrev pub NoAsker : Tower → (r n : ℕ) → FlowName → Type 0
NoAsker t r n flow = (i : ℕ) (e : End) → end_at t r n i ≡ Some e → e.role ≡ Asker → e.flow ≡ flow → ⊥

-- in every run, each far end of each DIF of whose flow no end was there at the opening is that of an application that a line registered at its node, no later than the tick of
-- the flow's name; or that has had an entry there since the opening with the address of the member at its node; but where the application is an IPC process
abbrev pub FarAreRegistered : Type 0
FarAreRegistered =
    (plan : Plan) (shelf : List Slot) (start : Stage) (lines : List (List ℕ)) (ns : List Note) (s : Stage) → IsOpening plan shelf start → Runs plan 1 start lines ns s
    → (r n : ℕ) (d : Dif) → dif_at s.run.tower r n ≡ Some d → d.failed ≡ false → (i : ℕ) (e : End) → At d.flows.journal.ends i e → e.role ≡ Far → end_at start.run.tower r n i ≡ None → NoAsker start.run.tower r n e.flow
    → is_ipc e.app ≡ false → app_at e.app ≡ Ok e.app
    → (address : ℕ) × (member_address start.run.tower r n e.port.node ≡ Some address) × (HasEntry start.run.tower r n e.app address ⊎ IsRegistration plan r n e.port.node e.app e.flow.tick lines ns)
