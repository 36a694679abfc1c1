-- DIFs beside each other on one rank.
use Rattle.std.specs.Prelude.{ℕ, List}
use Rattle.rina_dif_law.specs.Cloud.{IsMine}
use Rattle.rina_dif_law.specs.Dif.{DifSeen}

-- no IPC process is a member of both
abbrev pub AreApart : DifSeen → DifSeen → Type 0
AreApart d o = (name : List ℕ) → IsMine d.config.members name → IsMine o.config.members name → ⊥
