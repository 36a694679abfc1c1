-- The CEP-ids of the ends that end together at a node, which rest.
use Rattle.std.specs.Prelude.{◌≡◌, ℕ, ◌+◌, ◌<◌, ◌≤◌, zero, suc, List, length, slice_get, Option, Some, None}
use Rattle.rina_ids.specs.Ids.{IsInUse}
use Rattle.rina_ids.specs.Members.{CepIds, with_rest}
use Rattle.rina_dif_law.specs.Losing.{IsAllocatedAt}
use Rattle.rina_dif.specs.declared.dif.Dif.{Dif}
use Rattle.rina_dif.specs.declared.release.IdRest.{IdRest}
use Rattle.rina_dif.specs.Freeing.{RestsAt}

-- the end at a place is allocated, at a node, and has this id; or it is not
abbrev pub RestsHere : Dif → ℕ → ℕ → Option IdRest → Type 0
RestsHere d node at (Some rest) = IsAllocatedAt d.flows.journal.ends node at × RestsAt d at rest
RestsHere d node at None = IsAllocatedAt d.flows.journal.ends node at → ⊥

-- so is each of the first ends
pub record AreRests (d : Dif) (node count : ℕ) (rests : List (Option IdRest)) : Type 0 where
  pub aligned : length rests ≡ count
  pub each : (at : ℕ) (rest : Option IdRest) → slice_get rests at ≡ Some rest → RestsHere d node at rest

-- the member at a place gives one back, if there is one
abbrev pub GaveOne : ℕ → ℕ → Option (Option IdRest) → List CepIds → List CepIds → Type 0
GaveOne home now (Some (Some rest)) held held' = (ids : CepIds) × (slice_get held home ≡ Some ids) × (held' ≡ with_rest home ids rest.cep (now + rest.ticks) held)
GaveOne home now (Some None) held held' = held' ≡ held
GaveOne home now None held held' = held' ≡ held

-- and so the first ones, one after the other
abbrev pub GaveFirst : ℕ → ℕ → List (Option IdRest) → ℕ → List CepIds → List CepIds → Type 0
GaveFirst home now rests zero held held' = held' ≡ held
GaveFirst home now rests (suc n) held held' = (between : List CepIds) × GaveFirst home now rests n held between × GaveOne home now (slice_get rests n) between held'

-- it is in use
abbrev pub CanGive : Dif → ℕ → Option IdRest → Type 0
CanGive d home None = Unit {0}
CanGive d home (Some rest) = (d.clock ≤ 10000000) × (home < length d.ids) × (rest.ticks ≤ 9000000) × ((ids : CepIds) → slice_get d.ids home ≡ Some ids → IsInUse ids.1 rest.cep)

-- each of them is in use when it is given back
pub record CanGiveBack (d : Dif) (home : ℕ) (rests : List (Option IdRest)) : Type 0 where
  pub clock : d.clock ≤ 10000000
  pub home_there : home < length d.ids
  pub small : (at : ℕ) (rest : IdRest) → slice_get rests at ≡ Some (Some rest) → rest.ticks ≤ 9000000
  pub used : (at : ℕ) (rest : IdRest) (held : List CepIds) (ids : CepIds) → slice_get rests at ≡ Some (Some rest) → GaveFirst home d.clock rests at d.ids held → slice_get held home ≡ Some ids → IsInUse ids.1 rest.cep
