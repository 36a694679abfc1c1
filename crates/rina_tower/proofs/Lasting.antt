-- What stays of a DIF after a step.
use Rattle.std.proofs.Common.{◌≡◌, ℕ, List, Result}
use Rattle.rina_iface.specs.Seen.{Seen}
use Rattle.rina_law.specs.Direction.{Direction}
use Rattle.rina_data.specs.declared.step.ClockStep.{ClockStep}
use Rattle.rina_data.specs.declared.step.InStep.{InStep}
use Rattle.rina_data.specs.declared.step.StepError.{StepError}
use Rattle.rina_data.specs.Configs.{config_of}
use Rattle.rina_dif_law.specs.Cloud.{IsMine}
use Rattle.rina_dif_law.specs.Upward.{IsSilent}
use Rattle.rina_dif.specs.declared.dif.Dif.{Dif}
use Rattle.rina_dif.specs.Clocking.{ClockSteps}
use Rattle.rina_dif.specs.Facade.{GoesOn, OthersStand}
use Rattle.rina_dif.specs.Holding.{Holds, Stands}
use Rattle.rina_dif.specs.Shown.{seen_of}
use Rattle.rina_dif.specs.Taking.{TakesHome}
use Rattle.rina_tower.specs.Bystanders.{IsIpc}
use Rattle.rina_tower.specs.StepEffect.{StandsAfter}
use Rattle.rina_tower.proofs.Using.{clock_uses}
use Rattle.rina_tower.proofs.Waiting.{clock_waits}

pub clocked_after : (d d' : Dif) (below : Seen) (node : ℕ) (r : Result ClockStep StepError) (below' : Seen) → ((name : List ℕ) → IsMine (config_of d.settings).members name → IsIpc name) → Stands d below → GoesOn d d' → IsSilent (seen_of d) (seen_of d') → OthersStand d below below' → d'.settings ≡ d.settings → d'.laid ≡ d.laid → ((lines : List Direction) → Holds d lines below → ClockSteps d lines below node r d' below') → StandsAfter below below' d d'
clocked_after d d' below node r below' ipc st goes_on silent others settings laid does =
    let t = does st.0 st.1 in
    record {
      stands = (t.lines', t.holds);
      uses = clock_uses d below node ipc st.0 r d' t.lines' below' t.does;
      goes_on = goes_on;
      silent = silent;
      waiting = clock_waits d st.0 below node r d' t.lines' below' t.does;
      others = others;
      settings = settings;
      laid = laid;
    }

pub taken_stands : (d d' : Dif) (below : Seen) (node n : ℕ) (r : Result InStep StepError) (below' : Seen) → Stands d below → ((lines : List Direction) → Holds d lines below → TakesHome d lines below node n r d' below') → Stands d' below'
taken_stands d d' below node n r below' st does = (let t = does st.0 st.1 in (t.lines', t.holds))
