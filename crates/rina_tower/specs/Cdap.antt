-- What the IPC processes of a tower answer to CDAP messages.
use Rattle.std.specs.Prelude.{◌≡◌, ℕ, List, Result, Err}
use Rattle.rina_dif.specs.declared.cdap.CdapCallError.{CdapCallError}
use Rattle.rina_dif.specs.declared.cdap.CdapCallError.TheVariants.{Memory, NoIpc}
use Rattle.rina_dif.specs.declared.dif.Dif.{Dif}
use Rattle.rina_dif.specs.Asking.{Asks, KeepsAll}
use Rattle.rina_dif.specs.Facade.{GoesOn, NotesMemory, StaysStanding}
use Rattle.rina_tower.specs.declared.tower.Tower.{Tower, Wires, Rank'}
use Rattle.rina_tower.specs.Levels.{AtDif, AtRank}

-- the IPC process at a node of a DIF is asked; nothing else of the DIF changes, it notes whether memory was missing, and it stands wherever it stood
pub record AsksOne (node : ℕ) (bytes : List ℕ) (result : Result (List ℕ) CdapCallError) (d d' : Dif) : Type 0 where
  pub does : Asks d node bytes result d'
  pub keeps : KeepsAll d d'
  pub notes : NotesMemory d d' result (Err Memory)
  pub goes_on : GoesOn d d'
  pub stands : StaysStanding d d'

-- at the top rank: the DIF of that place
abbrev pub AsksAtTop : ℕ → ℕ → List ℕ → Result (List ℕ) CdapCallError → Tower → Tower → Type 0
AsksAtTop dif node bytes result (Wires a) (Wires a') = (result ≡ Err NoIpc) × (a' ≡ a)
AsksAtTop dif node bytes result (Rank' p difs below) (Rank' p' difs' below') =
    AtDif dif (AsksOne node bytes result) (result ≡ Err NoIpc) difs difs' × (below' ≡ below)
AsksAtTop dif node bytes result t t' = ⊥

-- at rank r
abbrev pub AsksAt : ℕ → ℕ → ℕ → List ℕ → Result (List ℕ) CdapCallError → Tower → Tower → Type 0
AsksAt r dif node bytes result t t' = AtRank r (AsksAtTop dif node bytes result) (result ≡ Err NoIpc) t t'
