-- How a PDU goes into the queue of its next hop, or into the ledger.
use Rattle.std.specs.Prelude.{◌≡◌, ℕ, ◌<◌, [], ◌∷◌, length, Some}
use Rattle.rina_account.specs.declared.ledger.Off.{Off}
use Rattle.rina_base.specs.declared.cause.Cause.{Cause}
use Rattle.rina_base.specs.declared.pdu.Pdu.{Pdu}
use Rattle.rina_base.specs.Pdus.{key_of}
use Rattle.rina_data.specs.Hops.{Hop}
use Rattle.rina_data.specs.Process.{Queue, Process, IsQueue, next_hop, with_offs, with_put}

abbrev pub line_for : Pdu → Cause → Off
line_for pdu cause = record { key = key_of pdu; cause = cause }

-- the PDU is written off, and nothing else changes
abbrev pub Notes : Process → Pdu → Cause → Process → Type 0
Notes process pdu cause process' = process' ≡ with_offs process (line_for pdu cause ∷ [])

-- it stands last in the queue of its next hop, with this lifetime, from this tick
pub record IsPassedOn (cap : ℕ) (process : Process) (at : ℕ) (hop : Hop) (process' : Process) : Type 0 where
  pub link : ℕ
  pub next : next_hop hop.pdu.dst process.routes ≡ Some link
  pub place : ℕ
  pub queue : Queue
  pub is_queue : IsQueue process hop.pdu.qos link place queue
  pub room : length queue.items < cap
  pub new_is : process' ≡ with_put process place queue (record { pdu = hop.pdu; left = hop.left; since = at } ∷ [])

-- the queue of its next hop is full: it holds exactly as many PDUs as it may
pub record IsFull (cap : ℕ) (process : Process) (pdu : Pdu) : Type 0 where
  pub link : ℕ
  pub next : next_hop pdu.dst process.routes ≡ Some link
  pub place : ℕ
  pub queue : Queue
  pub is_queue : IsQueue process pdu.qos link place queue
  pub full : length queue.items ≡ cap
