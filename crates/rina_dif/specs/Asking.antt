-- What an IPC process answers to a CDAP message.
use Rattle.std.specs.Prelude.{◌≡◌, ℕ, ◌⊎◌, ◌==◌, Bool, true, false, List, Option, Some, None, Result, Ok, Err, if◌then◌else◌}
use Rattle.std.specs.Global.{Vec}
use Rattle.rina_cdap.specs.declared.error.CdapError.{CdapError}
use Rattle.rina_cdap.specs.declared.message.Message.{Message}
use Rattle.rina_cdap.specs.Faults.{is_memory}
use Rattle.rina_cdap.specs.Messages.{Spells}
use Rattle.rina_cdap.specs.Reading.{Faulty, HasCopied}
use Rattle.rina_rib.specs.Rows.{Tree}
use Rattle.rina_answer.specs.Answers as answers
use Rattle.rina_member.specs.declared.management.Management.{Management}
use Rattle.rina_member.specs.Managements.{with_objects}
use Rattle.rina_data.specs.Configs.{config_of}
use Rattle.rina_dif_law.specs.Sending.{home}
use Rattle.rina_dif.specs.declared.cdap.CdapCallError.{CdapCallError}
use Rattle.rina_dif.specs.declared.cdap.CdapCallError.TheVariants.{Memory, NoIpc, Cdap}
use Rattle.rina_dif.specs.declared.dif.Dif.{Dif}
use Rattle.rina_dif.specs.Changing.{changed_at}
use Rattle.rina_dif.specs.Managing.{agents_of}
use Rattle.rina_dif.specs.Objects.{HasMember, IsRibAt}

-- what was asked is done
abbrev pub is_done : Option ℕ → Bool
is_done None = false
is_done (Some result) = result == 0

-- where a request was done the member at that place shows these objects from now on
abbrev pub shown_after : Bool → ℕ → Tree → List Management → List Management
shown_after done at t ms = if done then changed_at at (λ m. with_objects m t) ms else ms

-- the IPC process at a place answers a message as its RIB says, with these bytes, and the member shows the objects that come of it where what was asked is done
pub record IsAnswer (d : Dif) (at : ℕ) (message : Message) (answer : List ℕ) (d' : Dif) : Type 0 where
  pub rib : Tree
  pub is_rib : IsRibAt d at rib
  pub after : Tree
  pub response : Message
  pub told : answers.told rib message ≡ answers.told_as after response
  pub spelled : Spells response answer
  pub kept : d'.managements ≡ shown_after (is_done response.result) at after d.managements

-- the bytes that a call answered
abbrev pub answer_of : Result (Vec ℕ) CdapCallError → Result (List ℕ) CdapCallError
answer_of (Ok answer) = Ok answer.items
answer_of (Err error) = Err error

-- bytes that are a message are answered
pub record IsAnswered (d : Dif) (node : ℕ) (bytes answer : List ℕ) (d' : Dif) : Type 0 where
  pub place : ℕ
  pub at_home : home node (config_of d.settings).members ≡ Some place
  pub message : Message
  pub read : Spells message bytes
  pub is : IsAnswer d place message answer d'

-- bytes that are no message are refused with their first fault
pub record IsNoMessage (d : Dif) (node : ℕ) (bytes : List ℕ) (error : CdapError) : Type 0 where
  pub place : ℕ
  pub at_home : home node (config_of d.settings).members ≡ Some place
  pub fault : Faulty error bytes
  pub told : is_memory error ≡ false

-- nothing but the objects of members may change, and whether an allocation has failed: one that had failed has failed still
pub record KeepsAll (d d' : Dif) : Type 0 where
  pub is : d' ≡ record d { managements = d'.managements; failed = d'.failed }
  pub agents : agents_of d'.managements ≡ agents_of d.managements
  pub alive : d'.failed ≡ false → d.failed ≡ false

-- memory is taken for bytes that are a message, since that is answered, and where a field in front of them is copied
abbrev pub TakesMemory : List ℕ → Type 0
TakesMemory bytes = ((message : Message) × Spells message bytes) ⊎ HasCopied bytes

-- bytes are answered, or their first fault is told; memory can be missing where an allocation failed before, or there is a
-- member that answers, and memory is taken for the bytes
abbrev pub Asks : Dif → ℕ → List ℕ → Result (List ℕ) CdapCallError → Dif → Type 0
Asks d node bytes (Ok answer) d' = IsAnswered d node bytes answer d'
Asks d node bytes (Err NoIpc) d' = (home node (config_of d.settings).members ≡ None) × (d'.managements ≡ d.managements)
Asks d node bytes (Err (Cdap error)) d' = IsNoMessage d node bytes error × (d'.managements ≡ d.managements)
Asks d node bytes (Err Memory) d' = (d.failed ≡ true ⊎ (HasMember d node × TakesMemory bytes)) × (d'.managements ≡ d.managements)
