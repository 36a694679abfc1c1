-- A flow's two ends, each with a CEP-id; when an id rests and is free again; and which connections are in use.
use Rattle.std.specs.Prelude.{◌≡◌, ℕ, ◌+◌, ◌<◌, ◌≤◌, ◌⊎◌, max, Bool, true, List, slice_get, Option, Some, None}

-- Ids

-- one end of a flow: the address of its IPC process, the CEP-id that it has there, and the tick at which it ended. An
-- end that was closed, failed, or was refused has ended
pub record Endpoint : Type 0 where
  pub addr : ℕ
  pub cep : ℕ
  pub ended : Option ℕ

-- the id is in use while its end stands, rests for so many ticks from the tick at which the end ended, and is free from
-- then on
abbrev pub RestedBy : ℕ → ℕ → Option ℕ → Type 0
RestedBy rest now None = ⊥
RestedBy rest now (Some at) = at + rest ≤ now

abbrev pub HasRested : ℕ → ℕ → Endpoint → Type 0
HasRested rest now e = RestedBy rest now e.ended

-- two ends of one IPC process have one CEP-id
abbrev pub HasSameId : Endpoint → Endpoint → Type 0
HasSameId e f = (e.addr ≡ f.addr) × (e.cep ≡ f.cep)

-- Flows

pub data Side : Type 0 where
  -- the end that asked for the flow
  Asker : Side
  -- the end that was asked
  Far : Side

-- a flow that was asked for: for how many ticks its ids rest, which is `3 * delta` of its cube; the tick at which it was
-- asked for; the address that was asked; the asker's end; the far end, once it is made; and whether the answer came to
-- the asker while that waited
pub record Flow : Type 0 where
  pub rest : ℕ
  pub asked : ℕ
  pub peer : ℕ
  pub asker : Endpoint
  pub far : Option Endpoint
  pub told : Bool

abbrev pub end_at : Side → Flow → Option Endpoint
end_at Asker f = Some f.asker
end_at Far f = f.far

-- the end of a side ended at this tick, or stands
abbrev pub ended_of : Side → Flow → Endpoint → Option ℕ
ended_of Asker f far = f.asker.ended
ended_of Far f far = far.ended

-- an id of an IPC process is neither in use nor at rest
abbrev pub IsFree : ℕ → List Flow → ℕ → ℕ → Type 0
IsFree now flows addr cep = (i : ℕ) (f : Flow) (side : Side) (e : Endpoint) → slice_get flows i ≡ Some f → end_at side f ≡ Some e → e.addr ≡ addr → e.cep ≡ cep → HasRested f.rest now e

-- Connections

-- a flow whose far end is made is a connection. It is in use until both its ids have rested
pub record IsInUse (now : ℕ) (f : Flow) : Type 0 where
  pub far : Endpoint
  pub known : f.far ≡ Some far
  pub unrested : HasRested f.rest now f.asker → HasRested f.rest now far → ⊥

-- the same two addresses with the same two CEP-ids, in either order
abbrev pub IsSameFour : Endpoint → Endpoint → Endpoint → Endpoint → Type 0
IsSameFour a b x y = (HasSameId a x × HasSameId b y) ⊎ (HasSameId a y × HasSameId b x)

-- the later one of the ticks at which two ends ended, where an end that stands ends now
abbrev pub both_ended : ℕ → Option ℕ → Option ℕ → ℕ
both_ended now None t = now
both_ended now (Some s) None = now
both_ended now (Some s) (Some t) = max s t

-- the tick at which both ids have rested, where an end that stands ends now
abbrev pub over_at : ℕ → ℕ → Endpoint → Endpoint → ℕ
over_at rest now a b = both_ended now a.ended b.ended + rest

-- PDUs

-- what a PDU says of its connection: source address and CEP-id, destination address and CEP-id
pub record Four : Type 0 where
  pub src : ℕ
  pub scep : ℕ
  pub dst : ℕ
  pub dcep : ℕ

-- it goes from the end a to the end b
abbrev pub Goes : Endpoint → Endpoint → Four → Type 0
Goes a b four = (four.src ≡ a.addr) × (four.scep ≡ a.cep) × (four.dst ≡ b.addr) × (four.dcep ≡ b.cep)

-- from the end of this side to the other
abbrev pub GoesFrom : Side → Endpoint → Endpoint → Four → Type 0
GoesFrom Asker a b four = Goes a b four
GoesFrom Far a b four = Goes b a four

-- a PDU that says this, and is nowhere after its death, is one of this connection, and dies before both ids have rested.
-- The asker sends only once it was told
pub record IsOf (now : ℕ) (f : Flow) (death : ℕ) (four : Four) : Type 0 where
  pub far : Endpoint
  pub known : f.far ≡ Some far
  pub side : Side
  pub goes : GoesFrom side f.asker far four
  pub told : side ≡ Asker → f.told ≡ true
  pub in_time : death < over_at f.rest now f.asker far
