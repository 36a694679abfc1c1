-- What an end got came to its IPC process, piece by piece.
use Rattle.std.specs.Prelude.{◌≡◌, ℕ, ◌+◌, ◌<◌, ◌≤◌, Bool, true, false, List, [], ◌∷◌, length, slice_get, Some}
use Rattle.rina_base.specs.declared.number.Port.{Port}
use Rattle.rina_base.specs.declared.pdu.PduKind.TheVariants.{Piece as APiece}
use Rattle.rina_iface.specs.declared.ends.End.{End}
use Rattle.rina_iface.specs.Seen.{Seen, end_of}
use Rattle.rina_law.specs.declared.entry.Entry.{Entry}
use Rattle.rina_law.specs.Direction.{Direction}
use Rattle.rina_law.specs.Lists.{In}
use Rattle.rina_law.specs.Pdus.{piece_in}
use Rattle.rina_law.specs.Pieces.{Joiner, Part, IsCut, IsSized, join}
use Rattle.rina_law.specs.Receiver.{Piece}
use Rattle.rina_data.specs.Hops.{Hop, opened}
use Rattle.rina_dif_law.specs.Cloud.{IsMember}
use Rattle.rina_data.specs.Configs.{Config, piece_size}
use Rattle.rina_dif_law.specs.Dif.{DifSeen}
use Rattle.rina_dif_law.specs.Ids.{Ids, IsFrom, flipped}
use Rattle.rina_dif_law.specs.Incoming.{IsInbound}
use Rattle.rina_dif_law.specs.Standing.{IsConn}

-- among what the IPC process with this end took from the rank below, at that tick or before, is a PDU to this address
-- with this piece
pub record HasCome (g : Config) (below : Seen) (ids : Ids) (tick n : ℕ) (part : Part) : Type 0 where
  pub port : Port
  pub end : End
  pub here : end_of below port ≡ Some end
  pub member : IsMember g.members ids.own end.app
  pub at : ℕ
  pub passed : at < end.taken
  pub entry : Entry
  pub is_entry : slice_get end.got at ≡ Some entry
  pub before : entry.tick ≤ tick
  pub hop : Hop
  pub opens : opened g.widths entry.bytes ≡ Some hop
  pub kind : hop.pdu.kind ≡ APiece
  pub names : IsFrom (flipped ids) hop.pdu
  pub piece : piece_in hop.pdu ≡ record { number = n; drf = hop.pdu.drf; part = part }

-- an entry that this end got was cut into pieces, and each of them has come by the tick of the entry
pub record IsCarried (g : Config) (below : Seen) (ids : Ids) (x : Entry) : Type 0 where
  pub parts : List Part
  pub cut : IsCut (piece_size g) true parts
  pub joins : join parts ≡ x.bytes
  pub come : (k : ℕ) (part : Part) → slice_get parts k ≡ Some part → HasCome g below ids x.tick (x.num.seq + k) part

-- a DIF is carried: whatever its ends got has come
abbrev pub AreCarried : DifSeen → Seen → Type 0
AreCarried d below = (i j : ℕ) (e : End) (ids : Ids) (x : Entry) → IsConn d.ends d.conns i e ids → slice_get e.got j ≡ Some x → IsCarried d.config below ids x

-- What every call keeps beside it: also what a receiver still holds has come

-- the first parts of one SDU, without the last one
abbrev pub IsOpenCut : ℕ → Bool → List Part → Type 0
IsOpenCut size begins [] = Unit {0}
IsOpenCut size begins (p ∷ ps) = (p.begins ≡ begins) × (p.ends ≡ false) × IsSized size p × IsOpenCut size false ps

-- a joiner holds parts of one SDU, of which this is known by their numbers
pub record AreJoined (size : ℕ) (known : ℕ → Part → Type 0) (j : Joiner) : Type 0 where
  pub parts : List Part
  pub is_open : IsOpenCut size true parts
  pub count : length parts ≡ j.count
  pub bytes : join parts ≡ j.bytes
  pub each : (k : ℕ) (part : Part) → slice_get parts k ≡ Some part → known (j.from + k) part

pub record HoldsCome (g : Config) (now : ℕ) (below : Seen) (ids : Ids) (line : Direction) : Type 0 where
  pub joined : AreJoined (piece_size g) (HasCome g below ids now) line.inbox.joiner
  pub held : (p : Piece) → In p line.line.receiver.held → HasCome g below ids now p.number p.part
  pub sized : (p : Piece) → In p line.line.receiver.held → IsSized (piece_size g) p.part

pub record IsCarrying (d : DifSeen) (lines : List Direction) (below : Seen) : Type 0 where
  pub entries : AreCarried d below
  pub holding : (i from : ℕ) (e : End) (ids : Ids) (line : Direction) → IsConn d.ends d.conns i e ids → IsInbound d lines e from line → HoldsCome d.config d.clock below ids line
