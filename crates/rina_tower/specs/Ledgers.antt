-- What the DIFs of a tower have written off.
use Rattle.std.specs.Prelude.{◌≡◌, ℕ, List, slice_get, Option, Some, None, option_and_then}
use Rattle.rina_account.specs.declared.ledger.Off.{Off}
use Rattle.rina_data.specs.Configs.{config_of}
use Rattle.rina_dif_law.specs.Sending.{home}
use Rattle.rina_dif.specs.declared.dif.Dif.{Dif}
use Rattle.rina_dif.specs.Facade.{IsLedger}
use Rattle.rina_tower.specs.declared.tower.Tower.{Tower, Wires, Rank'}
use Rattle.rina_tower.specs.Ranks.{rank_of}

-- the DIF of place n at the top rank; wires have none
abbrev pub dif_of : Tower → ℕ → Option Dif
dif_of (Wires a) n = None
dif_of (Rank' p difs below) n = slice_get difs n

-- the DIF of place n at rank r; none above the height
abbrev pub dif_at : Tower → ℕ → ℕ → Option Dif
dif_at t r n = option_and_then (λ (u : Tower). dif_of u n) (rank_of t r)

-- the place of the member of that DIF at a node; none where there is no such DIF, or it has no member there
abbrev pub member_at : Tower → ℕ → ℕ → ℕ → Option ℕ
member_at t r n node = option_and_then (λ (d : Dif). home node (config_of d.settings).members) (dif_at t r n)

-- these are the write-offs of that member, the oldest first
pub record IsLedgerAt (t : Tower) (r n node : ℕ) (offs : List Off) : Type 0 where
  pub dif : Dif
  pub is_dif : dif_at t r n ≡ Some dif
  pub ledger : IsLedger dif node offs
