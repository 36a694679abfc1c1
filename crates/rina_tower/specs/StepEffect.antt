-- What a step of a DIF leaves.
use Rattle.std.specs.Prelude.{◌≡◌}
use Rattle.rina_iface.specs.Seen.{Seen}
use Rattle.rina_dif_law.specs.Upward.{IsSilent}
use Rattle.rina_dif.specs.declared.dif.Dif.{Dif}
use Rattle.rina_dif.specs.Facade.{GoesOn, OthersStand}
use Rattle.rina_dif.specs.Holding.{Stands}
use Rattle.rina_dif.specs.Shown.{seen_of}
use Rattle.rina_dif.specs.Waiting.{BeginToWait}
use Rattle.rina_tower.specs.LowerUse.{MayUse}

-- the DIF stands on the rank below as it is then, where it claimed one far end at most, and used one end of its own at most or freed one port of its own; no
-- end of its own sends or passes anything or ceases to wait for a claim, and those that begin to wait are new. The other DIFs of its rank stand on, and what
-- never changes stays
pub record StandsAfter (below below' : Seen) (d d' : Dif) : Type 0 where
  pub stands : Stands d' below'
  pub uses : MayUse below below'
  pub goes_on : GoesOn d d'
  pub silent : IsSilent (seen_of d) (seen_of d')
  pub waiting : BeginToWait (seen_of d) (seen_of d')
  pub others : OthersStand d below below'
  pub settings : d'.settings ≡ d.settings
  pub laid : d'.laid ≡ d.laid
