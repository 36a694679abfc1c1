-- The wires that a tower stands on.
use Rattle.std.proofs.Common.{◌≡◌, Some, refl, ◌∙◌, arith}
use Rattle.rina_tower.specs.declared.tower.Tower.{Tower, Wires, Rank'}
use Rattle.rina_tower.specs.Ranks.{now_of, rank_of}
use Rattle.rina_tower.specs.Stands.{IsTower}
use Rattle.rina_wire.specs.Sound.{IsSound}
use Rattle.rina_laws.specs.Frames.{wires_of}
use Rattle.rina_laws.proofs.LabelRanks.{rank_below}

-- they are its rank 0
pub wires_rank : (t : Tower) → rank_of t 0 ≡ Some (Wires (wires_of t))
wires_rank (Wires a) = refl
wires_rank (Rank' p difs below) = rank_below p difs below 0 (λ is. omega (arith, is)) ∙ wires_rank below

-- their clock is that of the tower
pub wires_now : (t : Tower) → (wires_of t).now ≡ now_of t
wires_now (Wires a) = refl
wires_now (Rank' p difs below) = wires_now below

-- they are sound where the tower stands
pub wires_sound : (t : Tower) → IsTower t → IsSound (wires_of t)
wires_sound (Wires a) s = s
wires_sound (Rank' p difs below) s = wires_sound below s.1
