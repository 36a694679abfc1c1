-- One tick of a tower.
use Rattle.std.specs.Prelude.{◌≡◌, ℕ, List, length, slice_get, Some, Result}
use Rattle.rina_iface.specs.Journal.{AreKept}
use Rattle.rina_iface.specs.Seen.{Seen}
use Rattle.rina_data.specs.Configs.{config_of}
use Rattle.rina_dif_law.specs.Lifting.{IsLifted}
use Rattle.rina_dif.specs.declared.dif.Dif.{Dif}
use Rattle.rina_dif.specs.Holding.{Stands}
use Rattle.rina_wire.specs.declared.tick.TickError.{TickError}
use Rattle.rina_wire.specs.Tick.{TicksOn}
use Rattle.rina_tower.specs.declared.tower.Tower.{Tower, Wires, Rank'}
use Rattle.rina_tower.specs.Ranks.{now_of}
use Rattle.rina_tower.specs.Unchanged.{ChangesClock}

-- the clock of a DIF was set, and nothing else of it changed; it stands on the rank below that has gone on with the clock
pub record IsClocked (now : ℕ) (d d' : Dif) : Type 0 where
  pub rest : ChangesClock now d d'
  pub stands : (below below' : Seen) → AreKept below' → IsLifted (config_of d.settings) below below' → below'.now ≡ now → Stands d below → Stands d' below'

-- and so that of each
pub record AreClocked (now : ℕ) (difs difs' : List Dif) : Type 0 where
  pub number : length difs' ≡ length difs
  pub each : (n : ℕ) (d d' : Dif) → slice_get difs n ≡ Some d → slice_get difs' n ≡ Some d' → IsClocked now d d'

-- the wires tick, and whatever they answer the clock of every DIF of every rank is set to theirs
abbrev pub Ticks : Result (Unit {0}) TickError → Tower → Tower → Type 0
Ticks result (Wires a) (Wires a') = TicksOn a result a'
Ticks result (Rank' p difs below) (Rank' p' difs' below') = AreClocked (now_of below') difs difs' × Ticks result below below'
Ticks result t t' = ⊥
