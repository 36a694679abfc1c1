-- What a DIF refuses where a flow is asked for.
use Rattle.std.specs.Prelude.{◌≡◌, ◌≢◌, ℕ, ◌-◌, ◌^◌, ◌==◌, nat_lt, List, slice_get, Option, Some, None, option_and_then, Result, Ok, Err, if◌then◌else◌}
use Rattle.rina_data.specs.Process.{next_hop}
use Rattle.rina_data.specs.declared.process.IpcProcess.{IpcProcess}
use Rattle.rina_dir.specs.Directory.{found}
use Rattle.rina_ids.specs.Ids.{free_id}
use Rattle.rina_ids.specs.Members.{CepIds}
use Rattle.rina_iface.specs.declared.ask.Ask.{Ask}
use Rattle.rina_iface.specs.declared.error.AllocateError.{AllocateError}
use Rattle.rina_iface.specs.declared.error.AllocateError.TheVariants as allocate
use Rattle.rina_iface.specs.Ends.{drawn_at}
use Rattle.rina_member.specs.declared.management.Management.{Management}
use Rattle.rina_dif.specs.declared.dif.Dif.{Dif}
use Rattle.rina_dif.specs.Elsewhere.{enrolled_home}

-- Refusals of an ask, each before what comes after it

-- the application is known nowhere, or at the member itself
abbrev pub by_address : Option ℕ → ℕ → (ℕ → Option AllocateError) → Option AllocateError
by_address None own after = Some allocate.NoSuchApp
by_address (Some address) own after = if address == own then Some allocate.SameSystem else after address

-- so many CEP-ids are in use or at rest, or so many ports were drawn
abbrev pub by_ids : Option ℕ → Option AllocateError → Option AllocateError
by_ids None after = after
by_ids (Some used) after = Some (allocate.NoIds used)

-- there is no next hop to the address
abbrev pub by_way : Option ℕ → ℕ → Option AllocateError → Option AllocateError
by_way None dst after = Some (allocate.NoRoute dst)
by_way (Some link) dst after = after

-- no invoke id is left behind the last one
abbrev pub by_count : ℕ → Option AllocateError
by_count last = if nat_lt (2 ^ 32 - 1 - last) 1 then Some (allocate.CountSpent 1 (2 ^ 32 - 1 - last)) else None

-- where no id up to the greatest is free, the greatest; else the number of ports that a node may have, where all of them were drawn
abbrev pub spent_by : Option ℕ → ℕ → ℕ → Option ℕ
spent_by None greatest drawn = Some greatest
spent_by (Some id) greatest drawn = if nat_lt greatest id then Some greatest else (if nat_lt drawn (2 ^ 32 - 1) then None else Some (2 ^ 32 - 1))

-- how many ids the member at a place, at a node, has in use or at rest, where it can draw none; or how many ports were drawn there, where all were
abbrev pub spent_ids : Dif → ℕ → ℕ → Option ℕ
spent_ids d at node = option_and_then (λ (ids : CepIds). spent_by (free_id ids.0 d.clock ids.1) ids.0 (drawn_at node d.flows.journal.ends)) (slice_get d.ids at)

-- the next hop of the member at a place to an address
abbrev pub way : Dif → ℕ → ℕ → Option ℕ
way d at dst = option_and_then (λ (p : IpcProcess). next_hop dst p.routes) (slice_get d.processes at)

-- what the enrolled member at a place, at a node, refuses: the first of these
abbrev pub member_refusal : Dif → ℕ → ℕ → List ℕ → Management → Option AllocateError
member_refusal d at node app m =
    by_address (found m.agent.items app) m.agent.address (λ dst. by_ids (spent_ids d at node) (by_way (way d at dst) dst (by_count m.agent.last_invoke)))

-- so the enrolled member at the node of an ask
abbrev pub allocate_refusal : Dif → Ask → Option AllocateError
allocate_refusal d ask = option_and_then (λ at. option_and_then (member_refusal d at ask.node ask.to) (slice_get d.managements at)) (enrolled_home d ask.node)

-- What the parts of a refusal tell

-- nothing is refused, or this is
abbrev pub TellsRefusal : {T : Type 0} → Option AllocateError → Result T AllocateError → Type 0
TellsRefusal refusal (Ok done) = refusal ≡ None
TellsRefusal refusal (Err e) = refusal ≡ Some e

-- the address at which the member knows an application, another than its own
abbrev pub TellsAddress : Management → List ℕ → Result ℕ AllocateError → Type 0
TellsAddress m app (Ok address) = (found m.agent.items app ≡ Some address) × (address ≢ m.agent.address)
TellsAddress m app (Err allocate.NoSuchApp) = found m.agent.items app ≡ None
TellsAddress m app (Err allocate.SameSystem) = found m.agent.items app ≡ Some m.agent.address
TellsAddress m app (Err e) = ⊥

-- the next hop
abbrev pub TellsWay : Option ℕ → ℕ → Result ℕ AllocateError → Type 0
TellsWay next dst (Ok link) = next ≡ Some link
TellsWay next dst (Err e) = (next ≡ None) × (e ≡ allocate.NoRoute dst)
