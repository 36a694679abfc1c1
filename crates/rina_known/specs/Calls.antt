-- What the calls of a DIF add to the names that its members know, and what a member finds among them.
use Rattle.std.specs.Prelude.{◌≡◌, ℕ, false, List, ◌∷◌, Contains, slice_get, Option, Some, None, option_and_then, option_map, Result, Ok, Err}
use Rattle.rina_base.specs.declared.number.Port.{Port}
use Rattle.rina_base.specs.Names.{app_at}
use Rattle.rina_data.specs.declared.settings.Member.{Member}
use Rattle.rina_iface.specs.declared.ask.Ask.{Ask}
use Rattle.rina_iface.specs.declared.ask.Fixed.{Fixed}
use Rattle.rina_iface.specs.declared.error.AllocateError.{AllocateError}
use Rattle.rina_iface.specs.declared.error.AllocateError.TheVariants as allocate
use Rattle.rina_iface.specs.declared.error.RegisterError.{RegisterError}
use Rattle.rina_iface.specs.declared.error.RegisterError.TheVariants as register
use Rattle.rina_iface.specs.Seen.{Seen}
use Rattle.rina_law.specs.Direction.{Direction}
use Rattle.rina_dif.specs.declared.dif.Dif.{Dif}
use Rattle.rina_dif.specs.Binding.{BindsTo}
use Rattle.rina_dif.specs.Changing.{BindsManaged}
use Rattle.rina_dif.specs.Elsewhere.{home_of}
use Rattle.rina_dif.specs.Facade.{NotesMemory}
use Rattle.rina_dif.specs.Holding.{Holds}
use Rattle.rina_dif.specs.Registering.{RegistersManaged}
use Rattle.rina_dif.specs.Requesting.{AsksTo, KnowsAt, Requests}
use Rattle.rina_dif.specs.Whole.{IsDif}
use Rattle.rina_known.specs.Entries.{AreKnown, AreProper, Name}

-- More names

abbrev pub MoreAreKnown : Type 0
MoreAreKnown = (names more : List Name) (d : Dif) → ((name : Name) → Contains names name → Contains more name) → AreKnown names d → AreKnown more d

-- the address of the member at a node
abbrev pub address_at : Dif → ℕ → Option ℕ
address_at d node = option_map (λ (m : Member). m.addr) (option_and_then (slice_get d.settings.members) (home_of d node))

-- the name of an application at an address, where there is one, before others
abbrev pub name_before : List ℕ → Option ℕ → List Name → List Name
name_before app None names = names
name_before app (Some address) names = record { app = app; address = address } ∷ names

-- where these are known in a DIF, those are after a call, unless an allocation failed in it or before
abbrev pub Adds : List Name → List Name → Dif → Dif → Type 0
Adds names more d d' = (d.failed ≡ false → AreKnown names d) → d'.failed ≡ false → AreKnown more d'

-- a name is registered: it is known at the address of the member at its node
abbrev pub RegisterAdds : Type 0
RegisterAdds = (names : List Name) (d d' : Dif) (node : ℕ) (app : List ℕ) (result : Result (Unit {0}) RegisterError) → IsDif d → RegistersManaged result d node app d'.managements → d' ≡ record d { names = d'.names; managements = d'.managements; failed = d'.failed }
    → NotesMemory d d' result (Err register.Memory) → Adds names (name_before app (address_at d node) names) d d'

-- a flow is fixed: its far application is known at the address of the member at the far node
abbrev pub BindAdds : Type 0
BindAdds = (names : List Name) (d d' : Dif) (fixed : Fixed) (result : Result (Port × Port) AllocateError) → IsDif d → ((lines : List Direction) (below : Seen) → Holds d lines below → BindsTo d lines below fixed result d') → BindsManaged result d fixed d'.managements
    → d' ≡ record d { flows = d'.flows; ids = d'.ids; names = d'.names; managements = d'.managements; failed = d'.failed } → NotesMemory d d' result (Err allocate.Memory) → Adds names (name_before fixed.b_app (address_at d fixed.b) names) d d'

-- What is found

-- where a member at a node knows an application, it knows it at the address of one of the names
abbrev pub KnowsFindNames : Type 0
KnowsFindNames = (names : List Name) (d : Dif) (node : ℕ) (app : List ℕ) (address : ℕ) → AreProper names → app_at app ≡ Ok app → AreKnown names d → KnowsAt d node app address → Contains names (record { app = app; address = address })

-- so is the other member of a flow that `allocate` asks for
abbrev pub AsksFindNames : Type 0
AsksFindNames = (names : List Name) (d d' : Dif) (lines : List Direction) (below : Seen) (ask : Ask) (port : Port) → AreProper names → app_at ask.to ≡ Ok ask.to → AreKnown names d → (asks : AsksTo d lines below ask (Ok port) d') → Contains names (record { app = ask.to; address = asks.1.peer })

-- and the one to which its request goes
abbrev pub RequestsFindNames : Type 0
RequestsFindNames = (names : List Name) (d d' : Dif) (ask : Ask) (port : Port) → AreProper names → app_at ask.to ≡ Ok ask.to → AreKnown names d → (requests : Requests d ask port d') → Contains names (record { app = ask.to; address = requests.flow.far })
