-- The account of one IPC process: where each PDU that came in or was made is now. The counts are those of one key.
use Rattle.std.specs.Prelude.{◌≡◌, ℕ, ◌+◌, ◌≤◌, ◌==◌, ◌&&◌, Bool, true, false, List, count_by}
use Rattle.rina_base.specs.declared.number.Key.{Key}
use Rattle.rina_base.specs.declared.pdu.PduKind.{PduKind}
use Rattle.rina_base.specs.declared.pdu.PduKind.TheVariants.{Piece, Ack}
use Rattle.rina_account.specs.declared.ledger.Off.{Off}

-- how many PDUs of a key came in, and how many of those for another address; went out; wait in the queues; were written off; were made here; and were delivered, or are held, here
pub record Counts : Type 0 where
  pub taken : ℕ
  pub relayed : ℕ
  pub sent : ℕ
  pub queued : ℕ
  pub off : ℕ
  pub made : ℕ
  pub kept : ℕ

-- a piece of another source, not of management: what came in is somewhere
abbrev pub IsForeign : Counts → Type 0
IsForeign n = n.taken ≡ n.sent + n.queued + n.off + n.kept

-- a piece of the own address: what was made or came in is somewhere; more is sent where pieces are sent again
abbrev pub IsOwn : Counts → Type 0
IsOwn n = n.made + n.taken ≤ n.sent + n.queued + n.off

-- a piece of the own address, of a CEP-id that no reliable flow had: nothing is sent again
abbrev pub IsOwnOnce : Counts → Type 0
IsOwnOnce n = n.made + n.taken ≡ n.sent + n.queued + n.off

-- an acknowledgement of another source, not of management: what was relayed is somewhere, and nothing comes from nowhere
abbrev pub IsForeignAck : Counts → Type 0
IsForeignAck n = (n.relayed ≤ n.sent + n.queued + n.off) × (n.sent + n.queued + n.off ≤ n.taken)

-- an acknowledgement of the own address: what came in is somewhere
abbrev pub IsOwnAck : Counts → Type 0
IsOwnAck n = n.taken ≤ n.sent + n.queued + n.off

abbrev pub kind_eq : PduKind → PduKind → Bool
kind_eq Piece Piece = true
kind_eq Ack Ack = true
kind_eq _ _ = false

abbrev pub key_eq : Key → Key → Bool
key_eq k j = kind_eq k.kind j.kind && (k.src == j.src) && (k.scep == j.scep) && (k.seq == j.seq)

-- how many lines have the key
abbrev pub off_count : List Off → Key → ℕ
off_count lines key = count_by (λ (line : Off). key_eq key line.key) lines
