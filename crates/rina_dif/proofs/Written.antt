-- What a member of a DIF has written off.
use Rattle.std.proofs.Common.{◌≡◌, ℕ, ◌<◌, ◌≤◌, List, length, slice_get, Some, arith}
use Rattle.rina_account.specs.declared.ledger.Off.{Off}
use Rattle.rina_data.specs.declared.process.IpcProcess.{IpcProcess}
use Rattle.rina_data.specs.Configs.{config_of}
use Rattle.rina_dif_law.specs.Sending.{home}
use Rattle.rina_dif.specs.declared.dif.Dif.{Dif}
use Rattle.rina_dif.specs.Facade.{IsLedger}
use Rattle.rina_dif.specs.Whole.{IsDif}
use Rattle.rina_dif.proofs.Lapsed.{process_there}

-- the IPC process of a member is there
pub no_ledger : (d : Dif) (i : ℕ) → IsDif d → i < length d.settings.members → length d.processes ≤ i → ⊥
no_ledger d i is lt none = (let within = process_there d is.below i is.stands lt in omega (arith, within, none))

pub ledger_is : (d : Dif) (node i : ℕ) (p : IpcProcess) (offs : List Off) → home node (config_of d.settings).members ≡ Some i → slice_get d.processes i ≡ Some p → offs ≡ p.ledger → IsLedger d node offs
ledger_is d node i p offs here is same = record { place = i; at_home = here; process = p; stands = is; is = same }
