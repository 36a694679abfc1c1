-- When the rank below goes on without a DIF, and time with it.
use Rattle.std.specs.Prelude.{◌≡◌, ℕ, ◌+◌, ◌⊎◌, [], Some, None}
use Rattle.rina_base.specs.declared.number.Port.{Port}
use Rattle.rina_iface.specs.declared.ends.End.{End}
use Rattle.rina_iface.specs.Later.{IsLater}
use Rattle.rina_iface.specs.Seen.{Seen, end_of}
use Rattle.rina_law.specs.Direction.{Direction}
use Rattle.rina_dif_law.specs.Cloud.{IsMine}
use Rattle.rina_data.specs.Configs.{Config}
use Rattle.rina_dif_law.specs.Standing.{IsInside}

-- no end of a member sends or passes anything, and a new end of a member has sent and passed nothing and is of a flow
-- that runs inside the DIF
pub record IsLifted (g : Config) (old new : Seen) : Type 0 where
  pub later : IsLater old new
  pub stays : (port : Port) (e e' : End) → end_of old port ≡ Some e → end_of new port ≡ Some e' → IsMine g.members e'.app → (e'.sent ≡ e.sent) × (e'.taken ≡ e.taken)
  pub fresh : (port : Port) (e' : End) → end_of new port ≡ Some e' → end_of old port ≡ None → IsMine g.members e'.app ⊎ IsMine g.members e'.peer → (e'.sent ≡ []) × IsInside g new port e'
  pub unread : (port : Port) (e' : End) → end_of new port ≡ Some e' → end_of old port ≡ None → IsMine g.members e'.app → e'.taken ≡ 0

-- a direction so many ticks later
abbrev pub ticked : ℕ → Direction → Direction
ticked ticks line = record line { line = record line.line { clock = line.line.clock + ticks } }
