-- The objects of the IPC processes of a tower.
use Rattle.std.specs.Prelude.{◌≡◌, ℕ, ◌⊎◌, true, List, Some, None, Result, Ok, Err}
use Rattle.rina_data.specs.declared.step.StepError.{StepError}
use Rattle.rina_data.specs.declared.step.StepError.TheVariants.{Memory, NoIpc}
use Rattle.rina_dif.specs.declared.dif.Dif.{Dif}
use Rattle.rina_dif.specs.declared.shown.Shown.{Shown}
use Rattle.rina_dif.specs.Objects.{IsShownUnder}
use Rattle.rina_tower.specs.declared.tower.Tower.{Tower}
use Rattle.rina_tower.specs.Ledgers.{dif_at, member_at}
use Rattle.rina_tower.specs.MemoryFailure.{has_failed}

-- these are the object of a name and all under it, at the member at a node of a DIF of rank r
pub record IsShownAt (t : Tower) (r n node : ℕ) (under : List ℕ) (objects : List Shown) : Type 0 where
  pub dif : Dif
  pub is_dif : dif_at t r n ≡ Some dif
  pub shown : IsShownUnder dif node under objects

-- a DIF of rank r has a member at the node
pub record IsMemberAt (t : Tower) (r n node : ℕ) : Type 0 where
  pub place : ℕ
  pub at_home : member_at t r n node ≡ Some place

-- what has no such member is refused; memory can be missing where an allocation failed before, or there is a member
abbrev pub ShowsUnderAt : Tower → ℕ → ℕ → ℕ → List ℕ → Result (List Shown) StepError → Type 0
ShowsUnderAt t r n node under (Ok objects) = IsShownAt t r n node under objects
ShowsUnderAt t r n node under (Err Memory) = (has_failed t ≡ true) ⊎ IsMemberAt t r n node
ShowsUnderAt t r n node under (Err NoIpc) = member_at t r n node ≡ None
ShowsUnderAt t r n node under (Err other) = ⊥
