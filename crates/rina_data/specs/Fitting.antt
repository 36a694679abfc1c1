-- The PDUs that may be sent below.
use Rattle.std.specs.Prelude.{◌≡◌, ℕ, ◌+◌, ◌≤◌, ◌⊎◌, Some}
use Rattle.rina_base.specs.declared.pdu.Pdu.{Pdu}
use Rattle.rina_cube.specs.declared.Cube.{Cube}
use Rattle.rina_pci.specs.Spelling.{Fits, pdu_size}
use Rattle.rina_data.specs.Configs.{Config, cube_by}

-- the QoS-id is that of management or of a cube
abbrev pub IsQos : Config → ℕ → Type 0
IsQos g qos = (qos ≡ 0) ⊎ ((cube : Cube) × (cube_by qos g.cubes ≡ Some cube))

-- a PDU that may be sent below: its fields fit their widths, and it is not too long behind its lifetime
pub record IsFit (g : Config) (pdu : Pdu) : Type 0 where
  pub fits : Fits g.widths pdu
  pub size : 4 + pdu_size g.widths pdu ≤ g.pdu
  pub qos : IsQos g pdu.qos
