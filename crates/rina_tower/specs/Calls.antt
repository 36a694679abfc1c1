-- What the calls of a facility do at the top rank of a tower.
use Rattle.std.specs.Prelude.{◌≡◌, ◌≤◌, ℕ, true, false, List, length, slice_get, Option, Some, None, IsSome, Result, Err}
use Rattle.rina_base.specs.declared.number.Num.{Num}
use Rattle.rina_base.specs.declared.number.Port.{Port}
use Rattle.rina_iface.specs.declared.ask.Ask.{Ask}
use Rattle.rina_iface.specs.declared.ask.Fixed.{Fixed}
use Rattle.rina_iface.specs.declared.error.AllocateError.{AllocateError}
use Rattle.rina_iface.specs.declared.error.AllocateError.TheVariants as allocate
use Rattle.rina_iface.specs.declared.error.FreeError.{FreeError}
use Rattle.rina_iface.specs.declared.error.FreeError.TheVariants as free
use Rattle.rina_iface.specs.declared.error.RegisterError.{RegisterError}
use Rattle.rina_iface.specs.declared.error.RegisterError.TheVariants as register
use Rattle.rina_iface.specs.declared.error.SendError.{SendError}
use Rattle.rina_iface.specs.declared.error.SendError.TheVariants as send
use Rattle.rina_iface.specs.declared.error.UnregisterError.{UnregisterError}
use Rattle.rina_iface.specs.declared.error.UnregisterError.TheVariants as unregister
use Rattle.rina_iface.specs.Allocate.{Allocates}
use Rattle.rina_iface.specs.Bind.{Binds}
use Rattle.rina_iface.specs.Claim.{Claims}
use Rattle.rina_iface.specs.Ends.{place_in}
use Rattle.rina_iface.specs.Free.{Frees}
use Rattle.rina_iface.specs.Pass.{IsPassed}
use Rattle.rina_iface.specs.Register.{Registers}
use Rattle.rina_iface.specs.Seen.{Seen}
use Rattle.rina_iface.specs.Send.{Sends}
use Rattle.rina_iface.specs.Unregister.{Unregisters}
use Rattle.rina_law.specs.Direction.{Direction}
use Rattle.rina_dif.specs.declared.dif.Dif.{Dif}
use Rattle.rina_dif.specs.Allocating.{allocate_refusal}
use Rattle.rina_dif.specs.Binding.{BindsTo, MayBind as MakesFlow}
use Rattle.rina_dif.specs.Changing.{BindsManaged}
use Rattle.rina_dif.specs.FlowEnds.{FreesManaged}
use Rattle.rina_flows.specs.Elsewhere.{SameBut}
use Rattle.rina_dif.specs.Elsewhere.{ChangesOnly, IsPortAt, WhenOk, home_of}
use Rattle.rina_dif.specs.Facade.{GoesOn, IsShownAs, NotesMemory, PassesAt, StaysStanding, its_oldest, own_refusal, shown_as}
use Rattle.rina_dif.specs.Freeing.{FreesAt}
use Rattle.rina_dif.specs.Holding.{Holds}
use Rattle.rina_dif.specs.Registering.{RegistersManaged, UnregistersManaged, register_refusal, unregister_refusal}
use Rattle.rina_dif.specs.Requesting.{AsksTo, RequestsAs}
use Rattle.rina_dif.specs.Sending.{SendsAt}
use Rattle.rina_dif.specs.WaitingAsks.{FreesAsks}
use Rattle.rina_dif.specs.Whole.{IsDif}
use Rattle.rina_wire.specs.Allocate.{AllocatesOn}
use Rattle.rina_wire.specs.Bind.{BindsOn}
use Rattle.rina_wire.specs.Claim.{ClaimsOn}
use Rattle.rina_wire.specs.Free.{FreesOn}
use Rattle.rina_wire.specs.Register.{RegistersOn}
use Rattle.rina_wire.specs.Send.{SendsOn, passed}
use Rattle.rina_wire.specs.Unregister.{UnregistersOn}
use Rattle.rina_tower.specs.declared.tower.Tower.{Tower, Wires, Rank'}
use Rattle.rina_tower.specs.Levels.{AtDif, IsAtDif}
use Rattle.rina_tower.specs.Unchanged.{ChangesAsks, ChangesClaims, ChangesEntries, ChangesFlows, ChangesMembers, ChangesNames, ChangesTraffic}
use Rattle.rina_tower.specs.MemoryFailure.{has_failed}

-- all of these are DIFs
abbrev pub AreDifs : List Dif → Type 0
AreDifs difs = (n : ℕ) (d : Dif) → slice_get difs n ≡ Some d → IsDif d

-- an SDU waits at a port of one of them
pub record WaitsThere (difs : List Dif) (port : Port) : Type 0 where
  pub dif : Dif
  pub is_dif : slice_get difs port.fac ≡ Some dif
  pub waits : IsSome (its_oldest dif port)

-- one of them may make a fixed flow
pub record MayBind (difs : List Dif) (fixed : Fixed) : Type 0 where
  pub dif : Dif
  pub is_dif : slice_get difs fixed.fac ≡ Some dif
  pub may : MakesFlow dif fixed

-- a call at the DIF of place n is this at every rank that shows the DIF there; the DIF goes on as a facility, stands
-- wherever it stood, keeps its settings and what was laid, and changes in these parts alone
pub record Serves (call : Seen → Seen → Type 0) (changes : Dif → Dif → Type 0) (n : ℕ) (d d' : Dif) : Type 0 where
  pub shown : (s : Seen) → IsShownAs s n d → call s (shown_as s n d')
  pub goes_on : GoesOn d d'
  pub stands : StaysStanding d d'
  pub settings : d'.settings ≡ d.settings
  pub laid : d'.laid ≡ d.laid
  pub rest : changes d d'

-- Names and asks

-- what `register` does at a DIF, to the managements of its members too; the DIF notes where memory was missing
pub record RegistersFrom (fac node : ℕ) (app : List ℕ) (result : Result (Unit {0}) RegisterError) (d d' : Dif) : Type 0 where
  pub serves : Serves (λ s s'. Registers (register_refusal d node) s fac node app result s') ChangesEntries fac d d'
  pub managed : RegistersManaged result d node app d'.managements
  pub notes : NotesMemory d d' result (Err register.Memory)

pub record UnregistersFrom (fac node : ℕ) (app : List ℕ) (result : Result (Unit {0}) UnregisterError) (d d' : Dif) : Type 0 where
  pub serves : Serves (λ s s'. Unregisters (unregister_refusal d node) s fac node app result s') ChangesEntries fac d d'
  pub managed : UnregistersManaged result d node app d'.managements
  pub notes : NotesMemory d d' result (Err unregister.Memory)

abbrev pub RegistersAtTop : ℕ → ℕ → List ℕ → Result (Unit {0}) RegisterError → Tower → Tower → Type 0
RegistersAtTop fac node app result (Wires a) (Wires a') = RegistersOn a fac node app result a'
RegistersAtTop fac node app result (Rank' p difs below) (Rank' p' difs' below') =
    AtDif fac (RegistersFrom fac node app result) (result ≡ Err register.NoMember) difs difs' × (below' ≡ below)
RegistersAtTop fac node app result t t' = ⊥

-- the same, whether or not an allocation had failed before
abbrev pub RegistersWhole : Tower → ℕ → ℕ → List ℕ → Result (Unit {0}) RegisterError → Tower → Type 0
RegistersWhole t fac node app result t' = (has_failed t ≡ false → RegistersAtTop fac node app result t t') × (has_failed t ≡ true → (result ≡ Err register.Memory) × (t' ≡ t))

abbrev pub UnregistersAtTop : ℕ → ℕ → List ℕ → Result (Unit {0}) UnregisterError → Tower → Tower → Type 0
UnregistersAtTop fac node app result (Wires a) (Wires a') = UnregistersOn a fac node app result a'
UnregistersAtTop fac node app result (Rank' p difs below) (Rank' p' difs' below') =
    AtDif fac (UnregistersFrom fac node app result) (result ≡ Err unregister.NotThere) difs difs' × (below' ≡ below)
UnregistersAtTop fac node app result t t' = ⊥

-- the same, whether or not an allocation had failed before
abbrev pub UnregistersWhole : Tower → ℕ → ℕ → List ℕ → Result (Unit {0}) UnregisterError → Tower → Type 0
UnregistersWhole t fac node app result t' = (has_failed t ≡ false → UnregistersAtTop fac node app result t t') × (has_failed t ≡ true → (result ≡ Err unregister.Memory) × (t' ≡ t))

-- what `allocate` does at a DIF that is the facility that is meant: by whatever directions the DIF holds, to the managements of its members too, and each
-- connection that was there stays as it was
pub record AllocatesFrom (ask : Ask) (result : Result Port AllocateError) (d d' : Dif) : Type 0 where
  pub serves : Serves (λ s s'. d.settings.fac ≡ ask.fac → Allocates (allocate_refusal d ask) s ask result s') ChangesAsks ask.fac d d'
  pub does : (lines : List Direction) (below : Seen) → Holds d lines below → AsksTo d lines below ask result d'
  pub requests : RequestsAs result d ask d'
  pub notes : NotesMemory d d' result (Err allocate.Memory)
  pub leaves : SameBut (λ i. length d.flows.conns ≤ i) d.flows.conns d'.flows.conns

abbrev pub AllocatesAtTop : Ask → Result Port AllocateError → Tower → Tower → Type 0
AllocatesAtTop ask result (Wires a) (Wires a') = AllocatesOn a ask result a'
AllocatesAtTop ask result (Rank' p difs below) (Rank' p' difs' below') =
    AtDif ask.fac (AllocatesFrom ask result) (result ≡ Err allocate.NoMember) difs difs' × (below' ≡ below)
AllocatesAtTop ask result t t' = ⊥

-- the same, whether or not an allocation had failed before
abbrev pub AllocatesWhole : Tower → Ask → Result Port AllocateError → Tower → Type 0
AllocatesWhole t ask result t' = (has_failed t ≡ false → AllocatesAtTop ask result t t') × (has_failed t ≡ true → (result ≡ Err allocate.Memory) × (t' ≡ t))

-- what `bind` does at the DIF of a fixed flow, to the managements of its members too, where each connection that was there stays as it was
pub record BindsFrom (fixed : Fixed) (result : Result (Port × Port) AllocateError) (d d' : Dif) : Type 0 where
  pub serves : Serves (λ s s'. Binds s fixed result s') ChangesNames fixed.fac d d'
  pub does : (lines : List Direction) (below : Seen) → Holds d lines below → BindsTo d lines below fixed result d'
  pub managed : BindsManaged result d fixed d'.managements
  pub notes : NotesMemory d d' result (Err allocate.Memory)
  pub leaves : SameBut (λ i. length d.flows.conns ≤ i) d.flows.conns d'.flows.conns

-- under the condition of `bind` there is such a DIF
abbrev pub BindsAtTop : Fixed → Result (Port × Port) AllocateError → Tower → Tower → Type 0
BindsAtTop fixed result (Wires a) (Wires a') = BindsOn a fixed result a'
BindsAtTop fixed result (Rank' p difs below) (Rank' p' difs' below') =
    IsAtDif (BindsFrom fixed result) fixed.fac difs difs' × (below' ≡ below)
BindsAtTop fixed result t t' = ⊥

-- the same, whether or not an allocation had failed before
abbrev pub BindsWhole : Tower → Fixed → Result (Port × Port) AllocateError → Tower → Type 0
BindsWhole t fixed result t' = (has_failed t ≡ false → BindsAtTop fixed result t t') × (has_failed t ≡ true → (result ≡ Err allocate.Memory) × (t' ≡ t))

abbrev pub ClaimsAtTop : ℕ → ℕ → List ℕ → Option Port → Tower → Tower → Type 0
ClaimsAtTop fac node app result (Wires a) (Wires a') = ClaimsOn a fac node app result a'
ClaimsAtTop fac node app result (Rank' p difs below) (Rank' p' difs' below') =
    AtDif fac (Serves (λ s s'. Claims s fac node app result s') ChangesClaims fac) (result ≡ None) difs difs' × (below' ≡ below)
ClaimsAtTop fac node app result t t' = ⊥

-- SDUs

-- what `send` does at the DIF of a port: an accepted one changes that end, its connection and the IPC process of its node,
-- and no other, and a refused one no end and no connection
pub record SendsFrom (port : Port) (bytes : List ℕ) (result : Result Num SendError) (d d' : Dif) : Type 0 where
  pub serves : Serves (λ s s'. Sends (own_refusal d port (length bytes)) s port bytes result s') ChangesTraffic port.fac d d'
  pub does : (lines : List Direction) (below : Seen) → Holds d lines below → SendsAt (place_in port d.flows.journal.ends) d lines below bytes result d'
  pub notes : NotesMemory d d' result (Err send.Memory)
  pub leaves : ChangesOnly (λ i. WhenOk result (IsPortAt d port i)) (home_of d port.node) d d'

abbrev pub SendsAtTop : Port → List ℕ → Result Num SendError → Tower → Tower → Type 0
SendsAtTop port bytes result (Wires a) (Wires a') = SendsOn a port bytes result a'
SendsAtTop port bytes result (Rank' p difs below) (Rank' p' difs' below') =
    AtDif port.fac (SendsFrom port bytes result) (result ≡ Err (send.NotAllocated None)) difs difs' × (below' ≡ below)
SendsAtTop port bytes result t t' = ⊥

-- the same, whether or not an allocation had failed before
abbrev pub SendsWhole : Tower → Port → List ℕ → Result Num SendError → Tower → Type 0
SendsWhole t port bytes result t' = (has_failed t ≡ false → SendsAtTop port bytes result t t') × (has_failed t ≡ true → (result ≡ Err send.Memory) × (t' ≡ t))

-- what `pass` does at the DIF of a port, where no other end, no other connection and no IPC process changes
pub record PassesFrom (port : Port) (d d' : Dif) : Type 0 where
  pub serves : Serves (λ s s'. IsPassed s port s') ChangesFlows port.fac d d'
  pub does : (lines : List Direction) (below : Seen) → Holds d lines below → PassesAt d lines port d' below
  pub leaves : ChangesOnly (IsPortAt d port) None d d'

-- where an SDU waits there is such a DIF
abbrev pub PassesAtTop : Port → Tower → Tower → Type 0
PassesAtTop port (Wires a) (Wires a') = a' ≡ passed a port
PassesAtTop port (Rank' p difs below) (Rank' p' difs' below') = IsAtDif (PassesFrom port) port.fac difs difs' × (below' ≡ below)
PassesAtTop port t t' = ⊥

-- The end of a flow

-- what `free` does at the DIF of a port, to the management of the member and to the asks that wait too, where no other end, no other connection and no IPC process of another node changes
pub record FreesFrom (port : Port) (result : Result (Unit {0}) FreeError) (d d' : Dif) : Type 0 where
  pub serves : Serves (λ s s'. Frees false s port result s') ChangesMembers port.fac d d'
  pub does : (lines : List Direction) (below : Seen) → Holds d lines below → FreesAt (place_in port d.flows.journal.ends) d lines below result d'
  pub managed : FreesManaged (place_in port d.flows.journal.ends) result d d'.managements
  pub asks : FreesAsks (place_in port d.flows.journal.ends) result d d'.asks.items
  pub notes : NotesMemory d d' result (Err free.Memory)
  pub leaves : ChangesOnly (λ i. WhenOk result (IsPortAt d port i)) (home_of d port.node) d d'

abbrev pub FreesAtTop : Port → Result (Unit {0}) FreeError → Tower → Tower → Type 0
FreesAtTop port result (Wires a) (Wires a') = FreesOn a port result a'
FreesAtTop port result (Rank' p difs below) (Rank' p' difs' below') =
    AtDif port.fac (FreesFrom port result) (result ≡ Err free.NoPort) difs difs' × (below' ≡ below)
FreesAtTop port result t t' = ⊥

-- the same, whether or not an allocation had failed before
abbrev pub FreesWhole : Tower → Port → Result (Unit {0}) FreeError → Tower → Type 0
FreesWhole t port result t' = (has_failed t ≡ false → FreesAtTop port result t t') × (has_failed t ≡ true → (result ≡ Err free.Memory) × (t' ≡ t))
