-- What the rank above sees of a DIF.
use Rattle.std.specs.Prelude.{◌≡◌, ℕ}
use Rattle.rina_iface.specs.declared.ends.End.{End}
use Rattle.rina_iface.specs.Journal.{At, HasPorts, IsKept, Promises}
use Rattle.rina_iface.specs.Later.{AreFarOf, IsLaterFac}
use Rattle.rina_dif_law.specs.Dif.{DifSeen, fac_of}

-- the laws that every facility keeps
pub record IsFacility (d : DifSeen) : Type 0 where
  pub kept : IsKept d.clock (fac_of d)
  pub ports : HasPorts d.config.fac (fac_of d)
  pub promises : Promises (fac_of d)

-- a step: the journal is later, no end sent or passed anything, and each new end is the far end of a flow whose asker stands there
pub record IsSilent (d d' : DifSeen) : Type 0 where
  pub later : IsLaterFac d.clock d'.clock (fac_of d) (fac_of d')
  pub fresh : AreFarOf d.ends d'.ends
  pub same : (i : ℕ) (e e' : End) → At d.ends i e → At d'.ends i e' → (e'.sent ≡ e.sent) × (e'.taken ≡ e.taken)
