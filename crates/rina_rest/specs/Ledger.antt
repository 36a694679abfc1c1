-- The ledger of a DIF: all flows that were ever asked for, and the PDUs that may still come. What may happen to it, and
-- what holds of it whatever happens.
use Rattle.std.specs.Prelude.{◌≡◌, ℕ, zero, suc, ◌+◌, ◌<◌, ◌≤◌, true, false, List, [], ◌∷◌, ◌++◌, slice_get, Some, None}
use Rattle.rina_law.specs.Line.{InFlight, IsCovered}
use Rattle.rina_law.specs.Lists.{In}
use Rattle.rina_rest.specs.Flows.{Endpoint, HasRested, HasSameId, Side, Asker, Far, Flow, end_at, IsFree, IsInUse, IsSameFour, Four, GoesFrom, IsOf}

pub record Ledger : Type 0 where
  pub now : ℕ
  -- in the order in which they were asked for
  pub flows : List Flow
  pub pdus : List (InFlight Four)

abbrev pub empty : Ledger
empty = record { now = 0; flows = []; pdus = [] }

-- What may happen

pub data Row : Type 0 where
  -- time goes on
  Time : (ticks : ℕ) → Row
  -- losses, repeats and hops
  Cloud : (pdus : List (InFlight Four)) → Row
  -- an IPC process draws an id, and asks for a flow to the address `peer`
  Ask : (rest peer addr cep : ℕ) → Row
  -- the ask comes to the far IPC process, which draws an id and makes the far end of the i-th flow
  Make : (i : ℕ) (f : Flow) (cep : ℕ) → Row
  -- the answer comes to an asker that waits
  Tell : (i : ℕ) (f : Flow) → Row
  -- the asker's end ends: it is freed, closed, refused, runs out of time, or fails
  EndAsker : (i : ℕ) (f : Flow) → Row
  -- the far end ends
  EndFar : (i : ℕ) (f : Flow) (far : Endpoint) → Row
  -- an end makes a PDU: a piece, first or again, or an acknowledgement
  Send : (i : ℕ) (f : Flow) (far : Endpoint) (side : Side) (p : InFlight Four) → Row

-- a list with x in place of the i-th flow
abbrev pub put : ℕ → Flow → List Flow → List Flow
put i x [] = []
put zero x (f ∷ fs) = x ∷ fs
put (suc i) x (f ∷ fs) = f ∷ put i x fs

abbrev pub asked_flow : ℕ → ℕ → ℕ → ℕ → ℕ → Flow
asked_flow now rest peer addr cep = record { rest = rest; asked = now; peer = peer; asker = record { addr = addr; cep = cep; ended = None }; far = None; told = false }

abbrev pub made : Flow → ℕ → Flow
made f cep = record f { far = Some (record { addr = f.peer; cep = cep; ended = None }) }

abbrev pub told_flow : Flow → Flow
told_flow f = record f { told = true }

-- a flow that is asked for, made and told at once
abbrev pub bound_flow : ℕ → ℕ → ℕ → ℕ → ℕ → ℕ → Flow
bound_flow now rest peer addr cep far_cep = told_flow (made (asked_flow now rest peer addr cep) far_cep)

abbrev pub ended_asker : ℕ → Flow → Flow
ended_asker now f = record f { asker = record f.asker { ended = Some now } }

abbrev pub ended_far : ℕ → Flow → Endpoint → Flow
ended_far now f far = record f { far = Some (record far { ended = Some now }) }

-- what a row makes of a ledger
abbrev pub entered : Ledger → Row → Ledger
entered s (Time ticks) = record s { now = s.now + ticks }
entered s (Cloud pdus) = record s { pdus = pdus }
entered s (Ask rest peer addr cep) = record s { flows = s.flows ++ asked_flow s.now rest peer addr cep ∷ [] }
entered s (Make i f cep) = record s { flows = put i (made f cep) s.flows }
entered s (Tell i f) = record s { flows = put i (told_flow f) s.flows }
entered s (EndAsker i f) = record s { flows = put i (ended_asker s.now f) s.flows }
entered s (EndFar i f far) = record s { flows = put i (ended_far s.now f far) s.flows }
entered s (Send i f far side p) = record s { pdus = p ∷ s.pdus }

-- the end of this side stands
abbrev pub Stands : Side → Flow → Endpoint → Type 0
Stands Asker f far = f.asker.ended ≡ None
Stands Far f far = far.ended ≡ None

-- Where a row may come. An id is drawn only where it is free. An ask that is as old as its rest makes no far end. Only an
-- end that stands makes PDUs, and none of them lives for as long as a rest
abbrev pub IsAllowed : Ledger → Row → Type 0
IsAllowed s (Time ticks) = Unit {0}
IsAllowed s (Cloud pdus) = IsCovered s.pdus pdus
IsAllowed s (Ask rest peer addr cep) = (1 ≤ rest) × (peer ≡ addr → ⊥) × IsFree s.now s.flows addr cep
IsAllowed s (Make i f cep) = (slice_get s.flows i ≡ Some f) × (f.far ≡ None) × (s.now < f.asked + f.rest) × IsFree s.now s.flows f.peer cep
IsAllowed s (Tell i f) = (slice_get s.flows i ≡ Some f) × (f.asker.ended ≡ None) × (f.told ≡ false) × (f.far ≡ None → ⊥)
IsAllowed s (EndAsker i f) = (slice_get s.flows i ≡ Some f) × (f.asker.ended ≡ None)
IsAllowed s (EndFar i f far) = (slice_get s.flows i ≡ Some f) × (f.far ≡ Some far) × (far.ended ≡ None)
IsAllowed s (Send i f far side p) = (slice_get s.flows i ≡ Some f) × (f.far ≡ Some far) × Stands side f far × GoesFrom side f.asker far p.pdu × (side ≡ Asker → f.told ≡ true) × (p.death < s.now + f.rest)

-- rows that come one after the other, and what they make of a ledger

abbrev pub IsHistory : Ledger → List Row → Type 0
IsHistory s [] = Unit {0}
IsHistory s (row ∷ rows) = IsAllowed s row × IsHistory (entered s row) rows

abbrev pub ledger_after : Ledger → List Row → Ledger
ledger_after s [] = s
ledger_after s (row ∷ rows) = ledger_after (entered s row) rows

-- What every row keeps

-- an asker's end stood when the flow was asked for, and the far end is at the address that was asked, which is another. An asker was told
-- of a far end that was made
pub record FlowHolds (now : ℕ) (f : Flow) : Type 0 where
  pub some : 1 ≤ f.rest
  pub past : f.asked ≤ now
  pub lasts : (t : ℕ) → f.asker.ended ≡ Some t → f.asked ≤ t
  pub elsewhere : f.peer ≡ f.asker.addr → ⊥
  pub there : (e : Endpoint) → f.far ≡ Some e → e.addr ≡ f.peer
  pub heard : f.told ≡ true → f.far ≡ None → ⊥

-- `cloud` says which PDUs may still come, each with the last tick at which it may
pub record LedgerHolds (now : ℕ) (flows : List Flow) (cloud : ℕ → Four → Type 0) : Type 0 where
  pub flow : (i : ℕ) (f : Flow) → slice_get flows i ≡ Some f → FlowHolds now f
  -- one flow at most has an id in use or at rest
  pub ids : (i k : ℕ) (f g : Flow) (s t : Side) (a b : Endpoint) → slice_get flows i ≡ Some f → slice_get flows k ≡ Some g → end_at s f ≡ Some a → end_at t g ≡ Some b → HasSameId a b →
      (HasRested f.rest now a → ⊥) → (HasRested g.rest now b → ⊥) → i ≡ k
  -- one connection in use at most has a pair of addresses and a pair of CEP-ids
  pub fours : (i k : ℕ) (f g : Flow) (u : IsInUse now f) (v : IsInUse now g) → slice_get flows i ≡ Some f → slice_get flows k ≡ Some g → IsSameFour f.asker u.far g.asker v.far → i ≡ k
  -- a PDU that is not dead is one of a connection
  pub alive : (death : ℕ) (four : Four) → cloud death four → now ≤ death → (i : ℕ) × (f : Flow) × (slice_get flows i ≡ Some f) × IsOf now f death four

-- the cloud that a list is
abbrev pub Listed : List (InFlight Four) → ℕ → Four → Type 0
Listed pdus death four = In (record { pdu = four; death = death }) pdus

abbrev pub Holds : Ledger → Type 0
Holds s = LedgerHolds s.now s.flows (Listed s.pdus)
