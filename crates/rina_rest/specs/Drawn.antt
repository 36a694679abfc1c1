-- An IPC process keeps which of its ids are in use and which rest. What it draws is free in the ledger.
use Rattle.std.specs.Prelude.{◌≡◌, ℕ, ◌+◌, ◌≤◌, ◌⊎◌, List, [], slice_get, Option, Some, None}
use Rattle.rina_ids.specs.declared.slot.Slot.{Slot}
use Rattle.rina_ids.specs.Ids.{free_id, drawn, given_back, IsInUse, IsResting}
use Rattle.rina_rest.specs.Flows.{Endpoint, HasRested, Side, Flow, end_at, IsFree}
use Rattle.rina_rest.specs.Ledger.{Ledger, Row, Time, Cloud, Ask, Make, Tell, EndAsker, EndFar, Send, entered, IsAllowed, Holds}

-- an end that stands has its id in use. That of one that ended has rested, or rests for as long at least
abbrev pub IsKept : ℕ → ℕ → List Slot → ℕ → Option ℕ → Type 0
IsKept rest now slots cep None = IsInUse slots cep
IsKept rest now slots cep (Some t) = (t + rest ≤ now) ⊎ ((until : ℕ) × IsResting slots cep until × (t + rest ≤ until))

-- all ends of the IPC process of this address are so
abbrev pub AreKept : ℕ → List Flow → ℕ → List Slot → Type 0
AreKept now flows addr slots = (i : ℕ) (f : Flow) (side : Side) (e : Endpoint) → slice_get flows i ≡ Some f → end_at side f ≡ Some e → e.addr ≡ addr → IsKept f.rest now slots e.cep e.ended

-- then an id that is drawn is free
abbrev pub DrawnIsFree : Type 0
DrawnIsFree = (greatest now : ℕ) (slots : List Slot) (flows : List Flow) (addr cep : ℕ) → AreKept now flows addr slots → free_id greatest now slots ≡ Some cep → IsFree now flows addr cep

-- and is not 0, the CEP-id of management
abbrev pub DrawnIsSome : Type 0
DrawnIsSome = (greatest now : ℕ) (slots : List Slot) (cep : ℕ) → free_id greatest now slots ≡ Some cep → 1 ≤ cep

-- What each row makes of the ids of the IPC process of this address

-- where it is the one that draws, the id is the one that it answers, and is in use after it
pub record Draws (greatest now addr drawer cep : ℕ) (before after : List Slot) : Type 0 where
  pub here : drawer ≡ addr → (free_id greatest now before ≡ Some cep) × (after ≡ drawn before cep)
  pub elsewhere : (drawer ≡ addr → ⊥) → after ≡ before

-- where it is the one whose end ends, the id rests from now on
pub record GivesBack (rest now addr : ℕ) (e : Endpoint) (before after : List Slot) : Type 0 where
  pub here : e.addr ≡ addr → after ≡ given_back before e.cep (now + rest)
  pub elsewhere : (e.addr ≡ addr → ⊥) → after ≡ before

abbrev pub SlotsAfter : ℕ → Ledger → Row → ℕ → List Slot → List Slot → Type 0
SlotsAfter greatest s (Ask rest peer from cep) addr before after = Draws greatest s.now addr from cep before after
SlotsAfter greatest s (Make i f cep) addr before after = Draws greatest s.now addr f.peer cep before after
SlotsAfter greatest s (EndAsker i f) addr before after = GivesBack f.rest s.now addr f.asker before after
SlotsAfter greatest s (EndFar i f far) addr before after = GivesBack f.rest s.now addr far before after
SlotsAfter greatest s (Time ticks) addr before after = after ≡ before
SlotsAfter greatest s (Cloud pdus) addr before after = after ≡ before
SlotsAfter greatest s (Tell i f) addr before after = after ≡ before
SlotsAfter greatest s (Send i f far side p) addr before after = after ≡ before

-- whatever happens, the ends of an IPC process stay so
abbrev pub RowsKeepSlots : Type 0
RowsKeepSlots = (greatest : ℕ) (s : Ledger) (row : Row) (addr : ℕ) (before after : List Slot) → Holds s → IsAllowed s row → SlotsAfter greatest s row addr before after → AreKept s.now s.flows addr before → AreKept (entered s row).now (entered s row).flows addr after

-- An IPC process that knows of no id, as at the start, has no end in the ledger whose id has not rested. So it is after a
-- crash, once the ids that it had have rested
abbrev pub NoneIsKept : Type 0
NoneIsKept = (now : ℕ) (flows : List Flow) (addr : ℕ) → ((i : ℕ) (f : Flow) (side : Side) (e : Endpoint) → slice_get flows i ≡ Some f → end_at side f ≡ Some e → e.addr ≡ addr → HasRested f.rest now e) → AreKept now flows addr []
