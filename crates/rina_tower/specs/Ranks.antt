-- What a contract sees of a tower, rank by rank.
use Rattle.std.specs.Prelude.{◌≡◌, ℕ, ◌+◌, ◌==◌, List, map, Option, Some, None, if◌then◌else◌, refl}
use Rattle.rina_iface.specs.Seen.{Fac, Seen}
use Rattle.rina_dif_law.specs.Dif.{fac_of}
use Rattle.rina_dif.specs.declared.dif.Dif.{Dif}
use Rattle.rina_dif.specs.Shown.{seen_of as seen_of_dif}
use Rattle.rina_wire.specs.Air.{seen_of as seen_of_wires}
use Rattle.rina_tower.specs.declared.tower.Tower.{Tower, Wires, Rank'}

-- the rank of a tower: how many ranks of DIFs stand on its wires
abbrev pub height_of : Tower → ℕ
height_of (Wires a) = 0
height_of (Rank' p difs below) = height_of below + 1

-- the clock, which is that of the wires
abbrev pub now_of : Tower → ℕ
now_of (Wires a) = a.now
now_of (Rank' p difs below) = now_of below

-- a DIF as a facility of its rank
abbrev pub fac_of_dif : Dif → Fac
fac_of_dif d = fac_of (seen_of_dif d)

-- what the DIFs of a rank show
abbrev pub seen_of_difs : ℕ → List Dif → Seen
seen_of_difs now difs = record { now = now; facs = map fac_of_dif difs }

-- what the top rank of a tower shows
abbrev pub seen_of : Tower → Seen
seen_of (Wires a) = seen_of_wires a
seen_of (Rank' p difs below) = seen_of_difs (now_of below) difs

-- the tower that the top rank stands on; none where these are wires
abbrev pub below_of : Tower → Option Tower
below_of (Wires a) = None
below_of (Rank' p difs below) = Some below

-- the tower up to rank r; none above its height
abbrev pub rank_of : Tower → ℕ → Option Tower
rank_of (Wires a) r = if r == 0 then Some (Wires a) else None
rank_of (Rank' p difs below) r = if r == height_of below + 1 then Some (Rank' p difs below) else rank_of below r

-- what a rank shows has the clock of the wires
pub seen_now : (t : Tower) → (seen_of t).now ≡ now_of t
seen_now (Wires a) = refl
seen_now (Rank' p difs below) = refl
