-- When a tower rests: until a tick nothing happens in it by itself.
use Rattle.std.specs.Prelude.{◌≡◌, ℕ, List, [], map, slice_get, Some}
use Rattle.rina_iface.specs.Claim.{AreClaimed}
use Rattle.rina_iface.specs.Seen.{Seen}
use Rattle.rina_dif.specs.declared.dif.Dif.{Dif}
use Rattle.rina_dif.specs.Resting.{RestsUntil as DifRests}
use Rattle.rina_dif.specs.Shown.{seen_of as seen_of_dif}
use Rattle.rina_wire.specs.Resting.{RestsUntil as WiresRest, at_tick as wires_at}
use Rattle.rina_tower.specs.declared.tower.Tower.{Tower, Wires, Rank'}
use Rattle.rina_tower.specs.Ranks.{seen_of}

-- nothing arrives on the wires of the tower before this tick
abbrev pub WiresRestUntil : ℕ → Tower → Type 0
WiresRestUntil until (Wires a) = WiresRest until a
WiresRestUntil until (Rank' p difs below) = WiresRestUntil until below

-- each DIF of a rank rests before this tick
abbrev pub AreResting : ℕ → List Dif → Seen → Type 0
AreResting until difs below = (n : ℕ) (d : Dif) → slice_get difs n ≡ Some d → DifRests until d below

-- no far end waits at any of the DIFs to be claimed
abbrev pub AreDifsClaimed : List Dif → Type 0
AreDifsClaimed difs = (n : ℕ) (d : Dif) → slice_get difs n ≡ Some d → (seen_of_dif d).waiting ≡ []

-- nothing arrives on the wires before this tick, each DIF of each rank rests, and at no rank below another one a far end waits to be claimed
abbrev pub RestsUntil : ℕ → Tower → Type 0
RestsUntil until (Wires a) = WiresRest until a
RestsUntil until (Rank' p difs below) = AreResting until difs (seen_of below) × AreClaimed (seen_of below) × RestsUntil until below

-- the DIF with another clock
abbrev pub dif_at : ℕ → Dif → Dif
dif_at now d = record d { clock = now }

-- every clock of the tower was set to this tick, and nothing else changed
abbrev pub IsAtTick : ℕ → Tower → Tower → Type 0
IsAtTick now (Wires a) (Wires a') = a' ≡ wires_at now a
IsAtTick now (Rank' p difs below) (Rank' p' difs' below') = (difs' ≡ map (dif_at now) difs) × IsAtTick now below below'
IsAtTick now t t' = ⊥
