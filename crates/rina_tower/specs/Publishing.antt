-- What it is to publish an IPC process: it is registered as an application at the rank below its own.
use Rattle.std.specs.Prelude.{◌≡◌, ℕ, ◌==◌, List, find, slice_get, Option, Some, None, option_and_then, option_map, Result, Ok, Err}
use Rattle.rina_data.specs.declared.settings.Member.{Member}
use Rattle.rina_dif.specs.declared.dif.Dif.{Dif}
use Rattle.rina_tower.specs.declared.publish.PublishError.{PublishError}
use Rattle.rina_tower.specs.declared.publish.PublishError.TheVariants.{NoIpc, Lower}
use Rattle.rina_tower.specs.declared.tower.Tower.{Tower, Wires, Rank'}
use Rattle.rina_tower.specs.Calls.{RegistersAtTop}
use Rattle.rina_tower.specs.Levels.{AtRank}

-- the name of the member at a node, in the rank below
abbrev pub name_of : List Member → ℕ → Option (List ℕ)
name_of members node = option_map (λ (m : Member). m.name) (find (λ (m : Member). m.node == node) members)

-- that of the member of the DIF of place n of a rank; none where there is no such DIF, or it has no member there
abbrev pub ipc_name_at : List Dif → ℕ → ℕ → Option (List ℕ)
ipc_name_at difs n node = option_and_then (λ (d : Dif). name_of d.settings.members node) (slice_get difs n)

-- the IPC process of this name is registered at a node of a facility of the top rank, and its refusal is the answer; where there is no such
-- IPC process nothing changes
abbrev pub RegistersIpc : Option (List ℕ) → ℕ → ℕ → Result (Unit {0}) PublishError → Tower → Tower → Type 0
RegistersIpc None fac node result t t' = (result ≡ Err NoIpc) × (t' ≡ t)
RegistersIpc (Some name) fac node (Ok done) t t' = RegistersAtTop fac node name (Ok done) t t'
RegistersIpc (Some name) fac node (Err (Lower e)) t t' = RegistersAtTop fac node name (Err e) t t'
RegistersIpc (Some name) fac node (Err NoIpc) t t' = ⊥

-- the IPC process of a DIF of the top rank is registered at the rank below, and the DIFs stay as they are; wires have no IPC processes
abbrev pub PublishesAtTop : ℕ → ℕ → ℕ → Result (Unit {0}) PublishError → Tower → Tower → Type 0
PublishesAtTop dif node fac result (Wires a) (Wires a') = (result ≡ Err NoIpc) × (a' ≡ a)
PublishesAtTop dif node fac result (Rank' p difs below) (Rank' p' difs' below') =
    (difs' ≡ difs) × RegistersIpc (ipc_name_at difs dif node) fac node result below below'
PublishesAtTop dif node fac result t t' = ⊥

-- and so of a DIF of rank r
abbrev pub PublishesAt : ℕ → ℕ → ℕ → ℕ → Result (Unit {0}) PublishError → Tower → Tower → Type 0
PublishesAt r dif node fac result t t' = AtRank r (PublishesAtTop dif node fac result) (result ≡ Err NoIpc) t t'
