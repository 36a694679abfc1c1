-- The management message that goes by the clock where nothing else is due.
use Rattle.std.specs.Prelude.{◌≡◌, ℕ, Some}
use Rattle.rina_iface.specs.Seen.{Seen}
use Rattle.rina_data.specs.declared.step.ClockStep.{ClockStep}
use Rattle.rina_data.specs.declared.step.ClockStep.TheVariants as step
use Rattle.rina_dif.specs.declared.dif.Dif.{Dif}
use Rattle.rina_dif.specs.Elsewhere.{home_of}
use Rattle.rina_dif.specs.Holding.{LinksStand}
use Rattle.rina_dif.specs.Messaging.{NoMessageDue, OffersFirst}

-- at the IPC process of a node the message is offered that is due at the link of this number, the least at which one is. That IPC process
-- changes, the management connections, and the management of its member
pub record SendsMessage (d : Dif) (below : Seen) (node number : ℕ) (d' : Dif) : Type 0 where
  pub i : ℕ
  pub at_home : home_of d node ≡ Some i
  pub only : d' ≡ record d { processes = d'.processes; connections = record d.connections { flows = d'.connections.flows }; managements = d'.managements; failed = d'.failed }
  pub offers : (links : LinksStand d below) → OffersFirst d below links.lines i number d'

-- no message is due at the IPC process of a node
abbrev pub NoMessageAt : Dif → Seen → ℕ → Type 0
NoMessageAt d below node = (i : ℕ) → home_of d node ≡ Some i → (links : LinksStand d below) → NoMessageDue d below links.lines i

-- where a step tells that nothing was due, this holds
abbrev pub IfIdle : ClockStep → Type 0 → Type 0
IfIdle step.Idle P = P
IfIdle done P = Unit {0}
