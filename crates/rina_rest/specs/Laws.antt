-- The laws of the ledger: what is not dead names a connection in use, and what is drawn is fresh.
use Rattle.std.specs.Prelude.{◌≡◌, ◌≢◌, ℕ, ◌≤◌, ◌⊎◌, List, slice_get, Some, None}
use Rattle.rina_law.specs.Line.{InFlight}
use Rattle.rina_law.specs.Lists.{In}
use Rattle.rina_rest.specs.Flows.{Endpoint, HasSameId, Side, Flow, end_at, IsInUse, IsSameFour, Four, Goes, GoesFrom, IsOf}
use Rattle.rina_rest.specs.Ledger.{Ledger, empty, Row, Make, Tell, entered, IsAllowed, IsHistory, ledger_after, Holds}

-- a PDU of the ledger that is not dead
abbrev pub MayCome : Ledger → InFlight Four → Type 0
MayCome s p = In p s.pdus × (s.now ≤ p.death)

-- What holds of a ledger

-- each row keeps it
abbrev pub RowsKeepLedger : Type 0
RowsKeepLedger = (s : Ledger) (row : Row) → Holds s → IsAllowed s row → Holds (entered s row)

-- so it holds whatever happened
abbrev pub HistoriesHold : Type 0
HistoriesHold = (rows : List Row) → IsHistory empty rows → Holds (ledger_after empty rows)

-- a PDU that is not dead names the two addresses and the two CEP-ids of a connection in use
abbrev pub LiveIsInUse : Type 0
LiveIsInUse = (s : Ledger) (p : InFlight Four) → Holds s → MayCome s p → (i : ℕ) × (f : Flow) × (u : IsInUse s.now f) × (slice_get s.flows i ≡ Some f) × (Goes f.asker u.far p.pdu ⊎ Goes u.far f.asker p.pdu)

-- and where it names those of a connection in use, it is one of that very connection
abbrev pub ArrivalIsOwn : Type 0
ArrivalIsOwn = (s : Ledger) (i : ℕ) (f : Flow) (u : IsInUse s.now f) (side : Side) (p : InFlight Four) → Holds s → slice_get s.flows i ≡ Some f → MayCome s p → GoesFrom side f.asker u.far p.pdu → IsOf s.now f p.death p.pdu

-- no two connections in use have one pair of addresses and one pair of CEP-ids
abbrev pub FoursAreApart : Type 0
FoursAreApart = (s : Ledger) (i k : ℕ) (f g : Flow) (u : IsInUse s.now f) (v : IsInUse s.now g) → Holds s → slice_get s.flows i ≡ Some f → slice_get s.flows k ≡ Some g → IsSameFour f.asker u.far g.asker v.far → i ≡ k

-- what a PDU says tells the connection and the side, of all connections in use
abbrev pub FoursTellSides : Type 0
FoursTellSides = (s : Ledger) (i k : ℕ) (f g : Flow) (side other : Side) (u : IsInUse s.now f) (v : IsInUse s.now g) (four : Four) → Holds s → slice_get s.flows i ≡ Some f → slice_get s.flows k ≡ Some g → GoesFrom side f.asker u.far four → GoesFrom other g.asker v.far four → (i ≡ k) × (side ≡ other)

-- of the ends that stand, one alone has an address and a CEP-id. So the own CEP-id of an IPC process finds the one end that a
-- PDU may be for
abbrev pub StandingIsAlone : Type 0
StandingIsAlone = (s : Ledger) (i k : ℕ) (f g : Flow) (side other : Side) (a b : Endpoint) → Holds s → slice_get s.flows i ≡ Some f → slice_get s.flows k ≡ Some g → end_at side f ≡ Some a → end_at other g ≡ Some b → a.ended ≡ None → b.ended ≡ None → HasSameId a b → (i ≡ k) × (side ≡ other)

-- What is drawn is fresh

-- where a far end is made, no PDU that is not dead names its connection, in either direction
abbrev pub MadeIsFresh : Type 0
MadeIsFresh = (s : Ledger) (i cep : ℕ) (f : Flow) (side : Side) (p : InFlight Four) → Holds s → IsAllowed s (Make i f cep) → MayCome s p → GoesFrom side f.asker (record { addr = f.peer; cep = cep; ended = None }) p.pdu → ⊥

-- and no other connection in use has its two addresses and two CEP-ids
abbrev pub MadeIsAlone : Type 0
MadeIsAlone = (s : Ledger) (i cep k : ℕ) (f g : Flow) (v : IsInUse s.now g) → Holds s → IsAllowed s (Make i f cep) → slice_get s.flows k ≡ Some g → IsSameFour f.asker (record { addr = f.peer; cep = cep; ended = None }) g.asker v.far → ⊥

-- where the answer comes, no PDU that is not dead goes from the asker to the far end. What goes the other way is of this
-- flow
abbrev pub ToldIsFresh : Type 0
ToldIsFresh = (s : Ledger) (i : ℕ) (f : Flow) (far : Endpoint) (p : InFlight Four) → Holds s → IsAllowed s (Tell i f) → f.far ≡ Some far → MayCome s p → Goes f.asker far p.pdu → ⊥

-- and no other connection in use has its two addresses and two CEP-ids, however old the answer is
abbrev pub ToldIsAlone : Type 0
ToldIsAlone = (s : Ledger) (i k : ℕ) (f g : Flow) (far : Endpoint) (v : IsInUse s.now g) → Holds s → IsAllowed s (Tell i f) → f.far ≡ Some far → slice_get s.flows k ≡ Some g → IsSameFour f.asker far g.asker v.far → i ≡ k

-- Messages on their way

-- an ask is on its way: its flow has no far end yet
abbrev pub IsAsked : List Flow → ℕ → Type 0
IsAsked flows i = (f : Flow) × (slice_get flows i ≡ Some f) × (f.far ≡ None)

-- an answer names the id of its flow's far end, whatever became of that end
abbrev pub Answers : ℕ → Flow → Type 0
Answers cep f = (far : Endpoint) × (f.far ≡ Some far) × (far.cep ≡ cep)

abbrev pub IsAnswered : List Flow → ℕ → ℕ → Type 0
IsAnswered flows i cep = (f : Flow) × (slice_get flows i ≡ Some f) × Answers cep f

-- the row does not make the far end of this flow
abbrev pub IsNotMakeOf : ℕ → Row → Type 0
IsNotMakeOf i (Make j f cep) = i ≢ j
IsNotMakeOf i _ = Unit {0}

-- both stay whatever else happens
abbrev pub AsksStay : Type 0
AsksStay = (s : Ledger) (row : Row) (i : ℕ) → IsAllowed s row → IsNotMakeOf i row → IsAsked s.flows i → IsAsked (entered s row).flows i

abbrev pub AnswersStay : Type 0
AnswersStay = (s : Ledger) (row : Row) (i cep : ℕ) → IsAllowed s row → IsAnswered s.flows i cep → IsAnswered (entered s row).flows i cep
