-- What one step of a run writes off: a line that was not there before, whose cause held before the step.
use Rattle.std.specs.Prelude.{◌≡◌, ◌⊎◌, ℕ, List, slice_get, Option, Some, None, option_and_then}
use Rattle.rina_account.specs.declared.ledger.Off.{Off}
use Rattle.rina_base.specs.declared.number.Port.{Port}
use Rattle.rina_law.specs.Direction.{Direction}
use Rattle.rina_data.specs.declared.process.IpcProcess.{IpcProcess}
use Rattle.rina_dif_law.specs.WriteOffs.{IsOverNow, MayWriteOff, RefusesOver}
use Rattle.rina_dif.specs.declared.dif.Dif.{Dif}
use Rattle.rina_dif.specs.Holding.{Holds}
use Rattle.rina_dif.specs.Shown.{seen_of as seen_of_dif}
use Rattle.rina_dif.specs.WriteOffs.{MayCloseOff, MayFailWith, MayFillOff, MayTellOff}
use Rattle.rina_tower.specs.declared.tower.Tower.{Tower}
use Rattle.rina_tower.specs.Ledgers.{dif_at, dif_of}
use Rattle.rina_tower.specs.Ranks.{below_of, rank_of, seen_of}
use Rattle.rina_tower.specs.Refusals.{refuses_send}

-- line k of the ledger of the IPC process at place i, the oldest first; none where there is no such line
abbrev pub line_of : List IpcProcess → ℕ → ℕ → Option Off
line_of processes i k = option_and_then (λ (p : IpcProcess). slice_get p.ledger k) (slice_get processes i)

-- and so of the DIF of place n at rank r
abbrev pub line_at : Tower → ℕ → ℕ → ℕ → ℕ → Option Off
line_at t r n i k = option_and_then (λ (d : Dif). line_of d.processes i k) (dif_at t r n)

-- the flow of a port of the rank below takes no more: it refuses what is sent there, or it is over
abbrev pub TakesNoMore : Tower → Port → Type 0
TakesNoMore below port = RefusesOver (refuses_send below) (seen_of below) port ⊎ IsOverNow (seen_of below) port

-- the DIF, which stands on this rank, may write the line: the condition of its cause holds of it. Where a link is lost, the open
-- end of its management connection held the piece; where the flows of its node fail with it, the condition of a line of a later flow
-- holds once the flows before have failed; where a management connection made the PDU, its queue for the link is full; and where a message about
-- a flow closes an end, the condition holds once all before it in the step was handled
pub record MayWrite (d : Dif) (below : Tower) (i : ℕ) (off : Off) : Type 0 where
  pub lines : List Direction
  pub holds : Holds d lines (seen_of below)
  pub may : MayWriteOff (seen_of_dif d) lines (seen_of below) (TakesNoMore below) i off ⊎ (MayCloseOff d (seen_of below) i off ⊎ (((node : ℕ) × MayFailWith d lines (seen_of below) node i off) ⊎ (MayFillOff d i off ⊎ ((node : ℕ) × MayTellOff d lines (seen_of below) node i off))))

-- a step from one tower to the next writes this line: it was not there before, and it is there after; and before the step the
-- DIF might write it, over the rank below as that was then
pub record IsWritten (r n i k : ℕ) (off : Off) (t t' : Tower) : Type 0 where
  pub none : line_at t r n i k ≡ None
  pub written : line_at t' r n i k ≡ Some off
  pub rank : Tower
  pub is_rank : rank_of t r ≡ Some rank
  pub below : Tower
  pub is_below : below_of rank ≡ Some below
  pub dif : Dif
  pub is_dif : dif_of rank n ≡ Some dif
  pub may : MayWrite dif below i off
