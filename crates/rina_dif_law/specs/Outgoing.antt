-- What an IPC process does with the PDUs that wait for a link.
use Rattle.std.specs.Prelude.{◌≡◌, ℕ, slice_get, Option, Some, None, Result, Err}
use Rattle.rina_base.specs.declared.number.Port.{Port}
use Rattle.rina_iface.specs.declared.error.SendError.{SendError}
use Rattle.rina_iface.specs.Seen.{Seen}
use Rattle.rina_data.specs.declared.step.OutStep.{OutStep}
use Rattle.rina_data.specs.declared.step.StepError.{StepError}
use Rattle.rina_data.specs.declared.step.StepError.TheVariants.{NoIpc}
use Rattle.rina_data.specs.Process.{Process}
use Rattle.rina_dif_law.specs.Dif.{DifSeen, with_process}
use Rattle.rina_data.specs.Outgoing.{Goes}

-- The same at a DIF

-- the IPC process of place i does something, and nothing else changes
pub record IsStep (does : Process → Process → Type 0) (d : DifSeen) (i : ℕ) (d' : DifSeen) : Type 0 where
  pub process : Process
  pub process' : Process
  pub is_process : slice_get d.processes i ≡ Some process
  pub done : does process process'
  pub new_is : d' ≡ with_process d i process'

-- what `out_step` does at link n of the IPC process of place i
abbrev pub Outs : (Port → ℕ → Option SendError) → DifSeen → Seen → ℕ → ℕ → Result OutStep StepError → DifSeen → Seen → Type 0
Outs refuses d below i n (Err NoIpc) d' below' = (slice_get d.processes i ≡ None) × (d' ≡ d) × (below' ≡ below)
Outs refuses d below i n result d' below' = IsStep (λ process process'. Goes refuses d.config d.clock process below n result process' below') d i d'
