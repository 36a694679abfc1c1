-- A DIF as one facility of a rank: its calls are those that every facility has.
use Rattle.std.specs.Prelude.{◌≡◌, ℕ, List, length, slice_get, Option, Some, None}
use Rattle.rina_base.specs.declared.number.Port.{Port}
use Rattle.rina_cube.specs.declared.Cube.{Cube}
use Rattle.rina_iface.specs.declared.ends.End.{End}
use Rattle.rina_iface.specs.declared.error.SendError.{SendError}
use Rattle.rina_iface.specs.Seen.{Seen, Stands, with_fac}
use Rattle.rina_law.specs.Direction.{Direction, offer_refusal}
use Rattle.rina_law.specs.Pieces.{Part}
use Rattle.rina_dif_law.specs.Dif.{DifSeen, constants, fac_of}
use Rattle.rina_data.specs.Configs.{cube_by}
use Rattle.rina_dif_law.specs.Ids.{Ids}
use Rattle.rina_dif_law.specs.Sending.{by_process, by_sender, home, process_at}

-- the rank shows the DIF, and the end of a port stands at that place of its journal
pub record IsShown (s : Seen) (d : DifSeen) (port : Port) (at : ℕ) (end : End) : Type 0 where
  pub clock : s.now ≡ d.clock
  pub stands : Stands s port (fac_of d) at end

-- the rank with the DIF after a call
abbrev pub shown : Seen → Port → DifSeen → Seen
shown s port d = with_fac s port.fac (fac_of d)

-- what `send` refuses by what the DIF alone knows: by the sender, the next hop and its queue

abbrev pub own_by_cube : DifSeen → End → Ids → Direction → List Part → Option Cube → Option SendError
own_by_cube d end ids line parts None = None
own_by_cube d end ids line parts (Some cube) = by_sender (offer_refusal (constants d.config cube ids) line parts) (by_process d.config.cap (length parts) ids (process_at d.processes (home end.port.node d.config.members)))

abbrev pub own_by_conn : DifSeen → End → List Part → Option Ids → Option Direction → Option SendError
own_by_conn d end parts (Some ids) (Some line) = own_by_cube d end ids line parts (cube_by ids.qos d.config.cubes)
own_by_conn d end parts ids line = None

abbrev pub own_refusal : DifSeen → List Direction → ℕ → End → List Part → Option SendError
own_refusal d lines at end parts = own_by_conn d end parts (slice_get d.conns at) (slice_get lines at)
