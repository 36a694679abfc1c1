-- What it means to send an SDU on a flow of a DIF.
use Rattle.std.specs.Prelude.{◌≡◌, ℕ, ◌+◌, ◌-◌, ◌≤◌, ◌==◌, Bool, true, nat_lt, List, [], ◌∷◌, length, position, slice_get, slice_set, Option, Some, None, Result, Ok, Err, if◌then◌else◌}
use Rattle.rina_base.specs.declared.number.Num.{Num}
use Rattle.rina_cube.specs.declared.Cube.{Cube}
use Rattle.rina_iface.specs.declared.ends.End.{End}
use Rattle.rina_iface.specs.declared.error.SendError.{SendError}
use Rattle.rina_iface.specs.declared.error.SendError.TheVariants.{Memory, NotAllocated, NoRoute, QueueFull, TooLong as IsTooLong, WindowShut as IsWindowShut, NumbersSpent as AreNumbersSpent}
use Rattle.rina_iface.specs.declared.state.PortState.TheVariants.{Allocated}
use Rattle.rina_iface.specs.Ends.{with_sent}
use Rattle.rina_iface.specs.Send.{by_length, by_state}
use Rattle.rina_law.specs.declared.entry.Entry.{Entry}
use Rattle.rina_law.specs.Constants.{Constants}
use Rattle.rina_law.specs.Direction.{Direction, accepted_offer, offer_refusal, sent_entry}
use Rattle.rina_law.specs.Pieces.{Part, IsCut, join}
use Rattle.rina_law.specs.Receiver.{Piece}
use Rattle.rina_law.specs.Sender.{Refusal, TooLong, WindowShut, NumbersSpent, is_absent, pieces_for, started}
use Rattle.rina_queue.specs.declared.queue.Queued.{Queued}
use Rattle.rina_data.specs.Configs.{Member, cube_by, piece_size}
use Rattle.rina_data.specs.Process.{Queue, Process, next_hop, queue_place, IsQueue, with_put}
use Rattle.rina_dif_law.specs.Dif.{DifSeen, constants}
use Rattle.rina_dif_law.specs.Ids.{Ids, pdu_of_piece}
use Rattle.rina_dif_law.specs.Standing.{IsConn}

-- the place of the IPC process at a node
abbrev pub home : ℕ → List Member → Option ℕ
home node members = position (λ (m : Member). m.node == node) members

-- What is refused

abbrev pub or_else : Option SendError → Option SendError → Option SendError
or_else (Some e) other = Some e
or_else None other = other

-- by the sender, and between its refusals by what is known of the way
abbrev pub by_sender : Option Refusal → Option SendError → Option SendError
by_sender (Some (TooLong len largest)) way = Some (IsTooLong len largest)
by_sender (Some (WindowShut need room)) way = Some (IsWindowShut need room)
by_sender (Some (NumbersSpent until)) way = or_else way (Some (AreNumbersSpent until))
by_sender None way = way

abbrev pub room_in : ℕ → Option Queue → ℕ
room_in cap None = 0
room_in cap (Some q) = cap - length q.items

abbrev pub queue_in : List Queue → Option ℕ → Option Queue
queue_in queues None = None
queue_in queues (Some place) = slice_get queues place

-- by the queue of the next hop, for so many PDUs
abbrev pub by_room : ℕ → ℕ → Option SendError
by_room need room = if nat_lt room need then Some (QueueFull need room) else None

-- by the next hop to an address
abbrev pub by_hop : ℕ → ℕ → Process → Ids → Option ℕ → Option SendError
by_hop cap need process ids None = Some (NoRoute ids.far)
by_hop cap need process ids (Some link) = by_room need (room_in cap (queue_in process.queues (queue_place ids.qos link process.queues)))

abbrev pub by_process : ℕ → ℕ → Ids → Option Process → Option SendError
by_process cap need ids None = Some (NoRoute ids.far)
by_process cap need ids (Some process) = by_hop cap need process ids (next_hop ids.far process.routes)

abbrev pub process_at : List Process → Option ℕ → Option Process
process_at processes None = None
process_at processes (Some i) = slice_get processes i

-- by an end, with its cube, its ids and the direction in which it sends
abbrev pub by_cube : DifSeen → End → Ids → Direction → List Part → Option Cube → Option SendError
by_cube d end ids line parts None = Some (NotAllocated None)
by_cube d end ids line parts (Some cube) =
    by_length (length (join parts)) (Some cube.largest) (by_sender (offer_refusal (constants d.config cube ids) line parts) (by_process d.config.cap (length parts) ids (process_at d.processes (home end.port.node d.config.members))))

abbrev pub by_conn : DifSeen → End → List Part → Option Ids → Option Direction → Option SendError
by_conn d end parts (Some ids) (Some line) = by_cube d end ids line parts (cube_by ids.qos d.config.cubes)
by_conn d end parts ids line = Some (NotAllocated None)

abbrev pub by_end : DifSeen → List Direction → ℕ → List Part → Option End → Option SendError
by_end d lines at parts None = Some (NotAllocated None)
by_end d lines at parts (Some end) = by_state (Some end.state) (by_conn d end parts (slice_get d.conns at) (slice_get lines at))

-- what the end at a place refuses to an SDU that is cut into these parts
abbrev pub refused_at : DifSeen → List Direction → ℕ → List Part → Option SendError
refused_at d lines at parts = by_end d lines at parts (slice_get d.ends at)

-- What is done

-- a sender that has no state begins a new run
abbrev pub begins : Constants → Direction → Bool
begins c line = is_absent c line.line.clock line.line.sender

-- the direction after it accepted an SDU that is cut into these parts
abbrev pub offered : Constants → List Part → Direction → Direction
offered c parts line = accepted_offer c (begins c line) parts line

-- its entry in the journal
abbrev pub offered_entry : Constants → List Part → Direction → Entry
offered_entry c parts line = sent_entry c (begins c line) line parts

-- and the pieces that are made of it
abbrev pub offered_pieces : Constants → List Part → Direction → List Piece
offered_pieces c parts line = pieces_for c line.line.clock parts (started (begins c line) c line.line.sender)

-- the PDUs of pieces that are made now, as they wait
abbrev pub made_items : Ids → ℕ → ℕ → List Piece → List Queued
made_items ids mpl now [] = []
made_items ids mpl now (p ∷ ps) = record { pdu = pdu_of_piece ids p; left = mpl; since = now } ∷ made_items ids mpl now ps

-- the sender accepts the SDU, and its pieces stand at the end of the queue of the next hop
pub record IsOffered (d : DifSeen) (lines : List Direction) (at : ℕ) (parts : List Part) (num : Num) (d' : DifSeen) (lines' : List Direction) : Type 0 where
  pub end : End
  pub ids : Ids
  pub line : Direction
  pub cube : Cube
  pub is_conn : IsConn d.ends d.conns at end ids
  pub is_line : slice_get lines at ≡ Some line
  pub is_cube : cube_by ids.qos d.config.cubes ≡ Some cube
  pub allocated : end.state ≡ Allocated
  pub free : offer_refusal (constants d.config cube ids) line parts ≡ None
  pub i : ℕ
  pub process : Process
  pub at_home : home end.port.node d.config.members ≡ Some i
  pub is_process : slice_get d.processes i ≡ Some process
  pub link : ℕ
  pub hop : next_hop ids.far process.routes ≡ Some link
  pub place : ℕ
  pub queue : Queue
  pub is_queue : IsQueue process ids.qos link place queue
  pub room : length queue.items + length parts ≤ d.config.cap
  pub num_is : num ≡ (offered_entry (constants d.config cube ids) parts line).num
  pub lines_are : lines' ≡ slice_set lines at (offered (constants d.config cube ids) parts line)
  pub new_is : d' ≡ record d {
    ends = slice_set d.ends at (with_sent end (offered_entry (constants d.config cube ids) parts line));
    processes = slice_set d.processes i (with_put process place queue (made_items ids cube.mpl d.clock (offered_pieces (constants d.config cube ids) parts line)));
  }

-- what `send` does at the end of a place, with an SDU that is cut into these parts
abbrev pub Offers : DifSeen → List Direction → ℕ → List Part → Result Num SendError → DifSeen → List Direction → Type 0
Offers d lines at parts (Ok num) d' lines' = (refused_at d lines at parts ≡ None) × IsCut (piece_size d.config) true parts × IsOffered d lines at parts num d' lines'
Offers d lines at parts (Err Memory) d' lines' = (d' ≡ d) × (lines' ≡ lines)
Offers d lines at parts (Err why) d' lines' = (refused_at d lines at parts ≡ Some why) × (d' ≡ d) × (lines' ≡ lines)
