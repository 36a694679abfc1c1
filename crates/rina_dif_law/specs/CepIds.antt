-- The CEP-ids of the members of a DIF, by the ledger of its flows.
use Rattle.std.specs.Prelude.{◌≡◌, ℕ, List, slice_get, Some}
use Rattle.rina_ids.specs.Members.{CepIds}
use Rattle.rina_rest.specs.Drawn.{AreKept}
use Rattle.rina_rest.specs.Flows.{Flow}
use Rattle.rina_data.specs.Configs.{Config, Member}

-- each member, at its place, has the ids of its ends that stand in use, and lets those of its ends that ended rest
abbrev pub AreHeld : Config → ℕ → List Flow → List CepIds → Type 0
AreHeld g now flows held = (i : ℕ) (member : Member) (ids : CepIds) → slice_get g.members i ≡ Some member → slice_get held i ≡ Some ids → AreKept now flows member.addr ids.1
