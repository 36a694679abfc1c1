-- The objects of a member of a DIF of a rank.
use Rattle.std.proofs.Common.{◌≡◌, ◌∙◌, ℕ, List, Some, Result, Ok, Err, inr}
use Rattle.rina_data.specs.declared.step.StepError.{StepError}
use Rattle.rina_data.specs.declared.step.StepError.TheVariants.{CountSpent, Memory, NoIpc, NoLink}
use Rattle.rina_data.specs.Configs.{config_of}
use Rattle.rina_dif_law.specs.Sending.{home}
use Rattle.rina_dif.specs.declared.dif.Dif.{Dif}
use Rattle.rina_dif.specs.declared.shown.Shown.{Shown}
use Rattle.rina_dif.specs.Objects.{ShowsUnder}
use Rattle.rina_tower.specs.declared.tower.Tower.{Tower}
use Rattle.rina_tower.specs.Ledgers.{dif_at, member_at}
use Rattle.rina_tower.specs.Objects.{ShowsUnderAt}

-- what the DIF of that place shows
pub shows_there : (t : Tower) (r n node : ℕ) (under : List ℕ) (d : Dif) (found : Result (List Shown) StepError) → dif_at t r n ≡ Some d → member_at t r n node ≡ home node (config_of d.settings).members → ShowsUnder d node under found → ShowsUnderAt t r n node under found
shows_there t r n node under d (Ok objects) there member is = record { dif = d; is_dif = there; shown = is }
shows_there t r n node under d (Err Memory) there member is = inr (record { place = is.place; at_home = member ∙ is.at_home })
shows_there t r n node under d (Err NoIpc) there member is = member ∙ is
shows_there t r n node under d (Err NoLink) there member is = absurd is
shows_there t r n node under d (Err (CountSpent need left)) there member is = absurd is
