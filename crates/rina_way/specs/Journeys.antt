-- What becomes of a PDU on its way, by what the IPC processes of the way decide one after the other.
use Rattle.std.specs.Prelude.{◌≡◌, ℕ, ◌+◌, ◌-◌, ◌<◌, List, [], ◌∷◌, Option, Ok}
use Rattle.rina_base.specs.declared.cause.Cause.TheVariants as causes
use Rattle.rina_base.specs.declared.number.Key.{Key}
use Rattle.rina_base.specs.declared.number.Port.{Port}
use Rattle.rina_iface.specs.declared.error.SendError.{SendError}
use Rattle.rina_iface.specs.Seen.{Seen}
use Rattle.rina_data.specs.declared.step.Decision.TheVariants as decision
use Rattle.rina_data.specs.Configs.{Config}
use Rattle.rina_data.specs.Deciding.{Decides}
use Rattle.rina_data.specs.Hops.{Hop as Came}
use Rattle.rina_data.specs.Outgoing.{IsForwarded, IsLate, IsWrittenOff, charge_of}
use Rattle.rina_data.specs.Process.{Process}
use Rattle.rina_way.specs.declared.hop.Hop.{Hop}
use Rattle.rina_way.specs.declared.slack.Slack.{Slack}
use Rattle.rina_way.specs.declared.slack.Slack.TheVariants.{Left, Short}

-- the end of a way: the PDU arrived, with so many ticks to live; or it was written off, having `left` ticks to live when `charge` were charged
pub data Fate : Type 0 where
  arrived : ℕ → Fate
  expired : ℕ → ℕ → Fate

-- an IPC process took in a PDU for a connection there, which came with `left` ticks to live and waited so many
pub record TakesIn (left waited : ℕ) : Type 0 where
  pub cap : ℕ
  pub now : ℕ
  pub addr : ℕ
  pub at : ℕ
  pub came : Came
  pub process : Process
  pub process' : Process
  pub decides : Decides cap now addr process at came (Ok decision.Here) process'
  pub left_is : came.left ≡ left
  pub waits : now - at ≡ waited

-- an IPC process wrote off a PDU as it took it in, which came with `left` ticks to live and waited so many
pub record WritesOffIn (left waited l c : ℕ) : Type 0 where
  pub cap : ℕ
  pub now : ℕ
  pub addr : ℕ
  pub at : ℕ
  pub came : Came
  pub process : Process
  pub process' : Process
  pub decides : Decides cap now addr process at came (Ok (decision.Off (causes.Expired l c))) process'
  pub left_is : came.left ≡ left
  pub waits : now - at ≡ waited

-- an IPC process let a PDU go over a hop, which came with `left` ticks to live and waited so many; it went with `rest` ticks
pub record LetsGo (h : Hop) (left waited rest : ℕ) : Type 0 where
  pub refuses : Port → ℕ → Option SendError
  pub config : Config
  pub now : ℕ
  pub process : Process
  pub process' : Process
  pub below : Seen
  pub below' : Seen
  pub key : Key
  pub step : IsForwarded refuses config now process below h.link.number key process' below'
  pub left_is : step.item.left ≡ left
  pub waits : now - step.item.since ≡ waited
  pub charge : step.promise ≡ h.charge
  pub rest_is : rest ≡ step.item.left - charge_of now step.item step.promise

-- an IPC process wrote off a PDU in place of letting it go over a hop
pub record WritesOffOut (h : Hop) (left waited l c : ℕ) : Type 0 where
  pub now : ℕ
  pub process : Process
  pub process' : Process
  pub below : Seen
  pub below' : Seen
  pub key : Key
  pub step : IsWrittenOff (IsLate now l c) (causes.Expired l c) process below h.link.number key process' below'
  pub left_is : step.item.left ≡ left
  pub waits : now - step.item.since ≡ waited
  pub charge : step.promise ≡ h.charge

-- a PDU with `left` ticks to live went over hops, waited so many ticks at the IPC processes of its way, all of them together, and had this end
pub data Travels : List Hop → ℕ → ℕ → Fate → Type 0 where
  taken : (left waited rest : ℕ) → TakesIn left waited → rest ≡ left - waited → Travels [] left waited (arrived rest)
  late_in : (hops : List Hop) (left waited l c : ℕ) → WritesOffIn left waited l c → Travels hops left waited (expired l c)
  gone : (h : Hop) (hops : List Hop) (left here rest later waited : ℕ) (fate : Fate) → LetsGo h left here rest → Travels hops rest later fate → waited ≡ here + later → Travels (h ∷ hops) left waited fate
  late_out : (h : Hop) (hops : List Hop) (left waited l c : ℕ) → WritesOffOut h left waited l c → Travels (h ∷ hops) left waited (expired l c)

-- what a slack tells of the end of a way: with so many ticks left the PDU arrives, and with too few it is written off
abbrev pub Foretells : Slack → Fate → Type 0
Foretells (Left n) (arrived rest) = rest ≡ n
Foretells (Left n) (expired l c) = ⊥
Foretells (Short by) (arrived rest) = ⊥
Foretells (Short by) (expired l c) = l < c
