-- The account of each IPC process: of each key of a PDU, how often one came in or was made, and how often one is out,
-- waits, was written off, or is kept.
use Rattle.std.specs.Prelude.{◌≡◌, ◌≢◌, ℕ, zero, suc, ◌+◌, ◌-◌, ◌/◌, ◌≤◌, ◌==◌, ◌&&◌, not, Bool, true, false, List, count_by, flat_map, length, position, slice_get, sum_by, take, Option, Some, None, option_and_then, if◌then◌else◌}
use Rattle.std.specs.Str.{bytes_eq}
use Rattle.rina_account.specs.Account.{Counts, IsForeign, IsForeignAck, IsOwn, IsOwnAck, IsOwnOnce, key_eq, off_count}
use Rattle.rina_base.specs.declared.number.FlowName.{FlowName}
use Rattle.rina_base.specs.declared.number.Key.{Key}
use Rattle.rina_base.specs.declared.number.Port.{Port}
use Rattle.rina_base.specs.declared.pdu.PduKind.TheVariants.{Piece, Ack}
use Rattle.rina_base.specs.Pdus.{key_of}
use Rattle.rina_cube.specs.declared.Cube.{Cube}
use Rattle.rina_cube.specs.Cubes.{is_reliable}
use Rattle.rina_iface.specs.declared.ends.End.{End}
use Rattle.rina_iface.specs.declared.state.PortState.{PortState}
use Rattle.rina_iface.specs.declared.state.PortState.TheVariants.{Allocated}
use Rattle.rina_iface.specs.declared.state.Role.{Role}
use Rattle.rina_iface.specs.declared.state.Role.TheVariants.{Asker, Far}
use Rattle.rina_iface.specs.Seen.{Fac, Seen, end_of}
use Rattle.rina_law.specs.declared.entry.Entry.{Entry}
use Rattle.rina_law.specs.Direction.{Direction}
use Rattle.rina_pci.specs.declared.widths.Widths.{Widths}
use Rattle.rina_queue.specs.declared.queue.Queued.{Queued}
use Rattle.rina_data.specs.Hops.{Hop, opened}
use Rattle.rina_dif_law.specs.Cloud.{IsMine}
use Rattle.rina_dif_law.specs.Counting.{held_numbers, numbers_from, times}
use Rattle.rina_dif_law.specs.Dif.{DifSeen, IsProcess}
use Rattle.rina_data.specs.Configs.{Member, cube_by, piece_size}
use Rattle.rina_data.specs.Process.{Process, Queue}
use Rattle.rina_dif_law.specs.Ids.{Ids}

-- Below: what came in and went out at the ends of an IPC process

-- the PDU has this key
abbrev pub bears : Key → Option Hop → Bool
bears k None = false
bears k (Some hop) = key_eq k (key_of hop.pdu)

-- and is for another address than this one
abbrev pub bears_on : ℕ → Key → Option Hop → Bool
bears_on addr k None = false
bears_on addr k (Some hop) = key_eq k (key_of hop.pdu) && not (hop.pdu.dst == addr)

-- how many entries hold a PDU of which this is true
abbrev pub entries_with : (Option Hop → Bool) → Widths → List Entry → ℕ
entries_with test w entries = count_by (λ (x : Entry). test (opened w x.bytes)) entries

-- of those that were taken from an end, and of those that were sent
abbrev pub taken_with : (Option Hop → Bool) → Widths → End → ℕ
taken_with test w e = entries_with test w (take e.taken e.got)

abbrev pub sent_with : (Option Hop → Bool) → Widths → End → ℕ
sent_with test w e = entries_with test w e.sent

-- what an end counts for the IPC process of a name
abbrev pub share : List ℕ → (End → ℕ) → End → ℕ
share name count e = if bytes_eq e.app name then count e else 0

-- the sum over all its ends
abbrev pub over_ends : List ℕ → (End → ℕ) → Seen → ℕ
over_ends name count below = sum_by (λ (f : Fac). sum_by (share name count) f.ends) below.facs

-- In the queues

abbrev pub queued_with : Key → Queue → ℕ
queued_with k q = count_by (λ (item : Queued). key_eq k (key_of item.pdu)) q.items

-- In the own journals

-- the sum over the places below a number
abbrev pub total : ℕ → (ℕ → ℕ) → ℕ
total zero count = 0
total (suc n) count = total n count + count n

-- how many pieces an SDU of so many bytes has; an empty one has one
abbrev pub pieces_of : (size len : ℕ) → ℕ
pieces_of size len = 1 + (len - 1) / size

-- the numbers of the pieces of an entry, and of those of a journal
abbrev pub entry_numbers : ℕ → Entry → List ℕ
entry_numbers size x = numbers_from x.num.seq (pieces_of size (length x.bytes))

abbrev pub journal_numbers : ℕ → List Entry → List ℕ
journal_numbers size entries = flat_map (entry_numbers size) entries

-- the pieces that the end of a connection made, of those that the IPC process of this address makes
abbrev pub made_by : ℕ → ℕ → Key → Option End → Option Ids → ℕ
made_by size addr k (Some e) (Some c) = if (c.own == addr) && (c.scep == k.scep) then times k.seq (journal_numbers size e.sent) else 0
made_by size addr k e c = 0

abbrev pub is_other_role : Role → Role → Bool
is_other_role Asker Far = true
is_other_role Far Asker = true
is_other_role Asker Asker = false
is_other_role Far Far = false

-- the other end of a flow: it has the same flow name and the other role
abbrev pub is_other_of : FlowName → Role → End → Bool
is_other_of name role e = ((e.flow.src == name.src) && (e.flow.tick == name.tick)) && ((e.flow.count == name.count) && is_other_role role e.role)

abbrev pub is_other : End → End → Bool
is_other e other = is_other_of e.flow e.role other

-- the direction in which an end receives: that of the other end of its flow
abbrev pub inbound_of : List End → List Direction → End → Option Direction
inbound_of ends lines e = option_and_then (λ i. slice_get lines i) (position (is_other e) ends)

-- how often a number stands among those that its receiver holds
abbrev pub held_in : Option Direction → ℕ → ℕ
held_in None n = 0
held_in (Some line) n = times n (held_numbers line)

-- an end that is not allocated holds nothing
abbrev pub held_by : PortState → ℕ → ℕ
held_by Allocated count = count
held_by state count = 0

-- the pieces that an end of the IPC process of this address got or holds
abbrev pub kept_by : ℕ → List End → List Direction → ℕ → Key → Option End → Option Ids → ℕ
kept_by size ends lines addr k (Some e) (Some c) =
    if (c.own == addr) && (c.far == k.src) && (c.dcep == k.scep) then times k.seq (journal_numbers size e.got) + held_by e.state (held_in (inbound_of ends lines e) k.seq) else 0
kept_by size ends lines addr k e c = 0

-- The account

-- the counts of an IPC process, of one key
abbrev pub counts_of : DifSeen → List Direction → Seen → Member → Process → Key → Counts
counts_of d lines below member process k = record {
  taken = over_ends member.name (taken_with (bears k) d.config.widths) below;
  relayed = over_ends member.name (taken_with (bears_on member.addr k) d.config.widths) below;
  sent = over_ends member.name (sent_with (bears k) d.config.widths) below;
  queued = sum_by (queued_with k) process.queues;
  off = off_count process.ledger k;
  made = total (length d.ends) (λ j. made_by (piece_size d.config) member.addr k (slice_get d.ends j) (slice_get d.conns j));
  kept = total (length d.ends) (λ j. kept_by (piece_size d.config) d.ends lines member.addr k (slice_get d.ends j) (slice_get d.conns j));
}

-- a reliable flow of the IPC process of this address has this CEP-id
pub record Resends (d : DifSeen) (addr cep : ℕ) : Type 0 where
  pub place : ℕ
  pub ids : Ids
  pub stands : slice_get d.conns place ≡ Some ids
  pub own : ids.own ≡ addr
  pub scep : ids.scep ≡ cep
  pub cube : Cube
  pub is_cube : cube_by ids.qos d.config.cubes ≡ Some cube
  pub reliable : is_reliable cube.kind ≡ true

-- the counts of one key balance, at the IPC process of this address, where `resends` says that a reliable flow of it has
-- the CEP-id of the key
pub record IsBalanced (addr : ℕ) (k : Key) (resends : Type 0) (n : Counts) : Type 0 where
  pub foreign : k.kind ≡ Piece → k.src ≢ addr → k.scep ≢ 0 → IsForeign n
  pub own : k.kind ≡ Piece → k.src ≡ addr → IsOwn n
  pub once : k.kind ≡ Piece → k.src ≡ addr → (resends → ⊥) → IsOwnOnce n
  pub foreign_ack : k.kind ≡ Ack → k.src ≢ addr → k.scep ≢ 0 → IsForeignAck n
  pub own_ack : k.kind ≡ Ack → k.src ≡ addr → IsOwnAck n

-- each IPC process is in account for each key. No end of one has passed more than came, and no connection leads from one
-- to itself
pub record IsAccounted (d : DifSeen) (lines : List Direction) (below : Seen) : Type 0 where
  pub passed : (port : Port) (e : End) → end_of below port ≡ Some e → IsMine d.config.members e.app → e.taken ≤ length e.got
  pub apart : (i : ℕ) (ids : Ids) → slice_get d.conns i ≡ Some ids → ids.own ≢ ids.far
  pub balanced : (i : ℕ) (member : Member) (process : Process) (k : Key) → IsProcess d i member process → IsBalanced member.addr k (Resends d member.addr k.scep) (counts_of d lines below member process k)
