-- How names are registered at a DIF: the enrolled member at the node makes the directory entry of the application.
use Rattle.std.specs.Prelude.{◌≡◌, ◌⊎◌, ℕ, List, slice_get, slice_set, Option, Some, None, option_and_then, Result, Ok, Err}
use Rattle.std.specs.Fmt.{decimal}
use Rattle.rina_agent.specs.declared.state.AgentError.{AgentError}
use Rattle.rina_agent.specs.declared.state.AgentError.TheVariants.{CountSpent, Memory}
use Rattle.rina_agent.specs.Counts.{spent}
use Rattle.rina_iface.specs.declared.error.RegisterError.{RegisterError}
use Rattle.rina_iface.specs.declared.error.RegisterError.TheVariants as register
use Rattle.rina_iface.specs.declared.error.UnregisterError.{UnregisterError}
use Rattle.rina_iface.specs.declared.error.UnregisterError.TheVariants as unregister
use Rattle.rina_member.specs.declared.management.Management.{Management}
use Rattle.rina_member.specs.Managements.{MakesEntry, MayMakeEntry}
use Rattle.rina_dif.specs.declared.dif.Dif.{Dif}
use Rattle.rina_dif.specs.Elsewhere.{enrolled_home}

-- Refusals

-- the management of the enrolled member at a node
abbrev pub management_at : Dif → ℕ → Option Management
management_at d node = option_and_then (slice_get d.managements) (enrolled_home d node)

-- why a member makes no item: it has no version count left
abbrev pub spent_by : Option Management → Option AgentError
spent_by None = None
spent_by (Some m) = spent 1 m.agent.last_count

-- so it is told by `register`, and by `unregister`
abbrev pub register_told : AgentError → RegisterError
register_told Memory = register.Memory
register_told (CountSpent need left) = register.CountSpent need left

abbrev pub unregister_told : AgentError → UnregisterError
unregister_told Memory = unregister.Memory
unregister_told (CountSpent need left) = unregister.CountSpent need left

abbrev pub told_as : {E : Type 0} → (AgentError → E) → Option AgentError → Option E
told_as as_told None = None
told_as as_told (Some e) = Some (as_told e)

-- what `register` and `unregister` refuse by what the DIF alone knows
abbrev pub register_refusal : Dif → ℕ → Option RegisterError
register_refusal d node = told_as register_told (spent_by (management_at d node))

abbrev pub unregister_refusal : Dif → ℕ → Option UnregisterError
unregister_refusal d node = told_as unregister_told (spent_by (management_at d node))

-- what a member's making of an entry answers to a call that tells refusals so
abbrev pub AnswersEntry : {E : Type 0} → (AgentError → E) → ℕ → List ℕ → Option (List ℕ) → Management → Result Management E → Type 0
AnswersEntry as_told now app value m (Ok m') = MayMakeEntry now app value m (Ok m')
AnswersEntry as_told now app value m (Err e) = (told : AgentError) × (e ≡ as_told told) × MayMakeEntry now app value m (Err told)

-- What is done

-- the enrolled member at a node makes the entry of an application with a value, or its deletion; no other management changes
pub record MakesEntryAt (d : Dif) (node : ℕ) (app : List ℕ) (value : Management → Option (List ℕ)) (new : List Management) : Type 0 where
  pub i : ℕ
  pub at_home : enrolled_home d node ≡ Some i
  pub management : Management
  pub is_management : slice_get d.managements i ≡ Some management
  pub after : Management
  pub makes : MakesEntry d.clock app (value management) management after
  pub are : new ≡ slice_set d.managements i after

-- the address of the member
abbrev pub own_address : Management → Option (List ℕ)
own_address m = Some (decimal m.agent.address)

abbrev pub no_value : Management → Option (List ℕ)
no_value m = None

-- what `register` does to the managements: the member at the node makes the entry, with its address; where it is refused none changes
abbrev pub RegistersManaged : Result (Unit {0}) RegisterError → Dif → ℕ → List ℕ → List Management → Type 0
RegistersManaged (Ok done) d node app new = MakesEntryAt d node app own_address new
RegistersManaged (Err e) d node app new = new ≡ d.managements

-- what `unregister` does: the member at the node makes the deletion; where there is none, and where it is refused, none changes
abbrev pub UnregistersManaged : Result (Unit {0}) UnregisterError → Dif → ℕ → List ℕ → List Management → Type 0
UnregistersManaged (Ok done) d node app new = MakesEntryAt d node app no_value new ⊎ ((enrolled_home d node ≡ None) × (new ≡ d.managements))
UnregistersManaged (Err e) d node app new = new ≡ d.managements
