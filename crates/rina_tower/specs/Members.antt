-- How far the IPC processes of a tower are members of their DIFs.
use Rattle.std.specs.Prelude.{◌≡◌, ℕ, Some}
use Rattle.rina_agent.specs.declared.state.MemberState.{MemberState}
use Rattle.rina_dif.specs.declared.dif.Dif.{Dif}
use Rattle.rina_dif.specs.Facade.{IsStateAt}
use Rattle.rina_tower.specs.declared.tower.Tower.{Tower}
use Rattle.rina_tower.specs.Ledgers.{dif_at}

-- this is the state of the member at a node of a DIF of rank r
pub record IsMemberState (t : Tower) (r n node : ℕ) (state : MemberState) : Type 0 where
  pub dif : Dif
  pub is_dif : dif_at t r n ≡ Some dif
  pub its : IsStateAt dif node state
