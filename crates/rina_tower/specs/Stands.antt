-- What holds of a tower at every moment: each DIF of each rank stands on the rank below.
use Rattle.std.specs.Prelude.{◌≡◌, ◌≢◌, ℕ, ◌<◌, ◌≤◌, List, slice_get, Some}
use Rattle.rina_iface.specs.Journal.{AreKept}
use Rattle.rina_iface.specs.Seen.{Seen}
use Rattle.rina_dif_law.specs.Cloud.{IsMine}
use Rattle.rina_data.specs.Configs.{config_of}
use Rattle.rina_dif_law.specs.Others.{AreApart}
use Rattle.rina_dif.specs.declared.dif.Dif.{Dif}
use Rattle.rina_dif.specs.Holding.{Stands}
use Rattle.rina_dif.specs.Shown.{seen_of as seen_of_dif}
use Rattle.rina_wire.specs.Sound.{IsSound}
use Rattle.rina_tower.specs.declared.tower.Tower.{Tower, Wires, Rank'}
use Rattle.rina_tower.specs.Bystanders.{IsIpc}
use Rattle.rina_tower.specs.Ranks.{height_of, now_of, seen_of, seen_of_difs}

-- this DIF stands at place n of the rank
abbrev pub At : List Dif → ℕ → Dif → Type 0
At difs n d = slice_get difs n ≡ Some d

-- the DIFs of a rank stand on the rank below; each has the number of its place, no two have a member in common, and the
-- members are IPC processes by their names
pub record AreStanding (difs : List Dif) (below : Seen) : Type 0 where
  pub stand : (n : ℕ) (d : Dif) → At difs n d → Stands d below
  pub number : (n : ℕ) (d : Dif) → At difs n d → (config_of d.settings).fac ≡ n
  pub apart : (n k : ℕ) (d o : Dif) → At difs n d → At difs k o → n ≢ k → AreApart (seen_of_dif d) (seen_of_dif o)
  pub ipc : (n : ℕ) (d : Dif) (name : List ℕ) → At difs n d → IsMine (config_of d.settings).members name → IsIpc name

-- a rank of DIFs on a tower: they stand, the facilities that they are keep the laws, the clock has an end, and there
-- are at most 8 ranks
pub record IsRank (difs : List Dif) (below : Tower) : Type 0 where
  pub standing : AreStanding difs (seen_of below)
  pub kept : AreKept (seen_of_difs (now_of below) difs)
  pub clock : now_of below ≤ 10000000
  pub low : height_of below < 8

-- and so down to the wires, which are sound
abbrev pub IsTower : Tower → Type 0
IsTower (Wires a) = IsSound a
IsTower (Rank' p difs below) = IsRank difs below × IsTower below

-- What follows of the top rank

pub kept_of : (t : Tower) → IsTower t → AreKept (seen_of t)
kept_of (Wires a) v = v.kept
kept_of (Rank' p difs below) v = v.0.kept

pub clock_of : (t : Tower) → IsTower t → (seen_of t).now ≤ 10000000
clock_of (Wires a) v = v.clock
clock_of (Rank' p difs below) v = v.0.clock
