-- How PDUs carry the pieces of a connection, and how an SDU is cut.
use Rattle.std.specs.Prelude.{◌≡◌, ℕ, ◌+◌, ◌≤◌, Bool, List, [], ◌∷◌, length, map, take, drop, slice_get, Some}
use Rattle.rina_base.specs.declared.pdu.Pdu.{Pdu}
use Rattle.rina_base.specs.declared.pdu.PduKind.TheVariants as kinds
use Rattle.rina_delim.specs.declared.part.Part as delim
use Rattle.rina_delim.specs.Parts.{parts_of}
use Rattle.rina_law.specs.Pieces.{Part}
use Rattle.rina_law.specs.Receiver.{Piece}
use Rattle.rina_conn.specs.declared.form.Peer.{Peer}

-- the PDU that carries a piece to the far end
abbrev pub carry : Peer → ℕ → Piece → Pdu
carry peer qos p = record {
  kind = kinds.Piece;
  dst = peer.far;
  src = peer.own;
  qos = qos;
  dcep = peer.dcep;
  scep = peer.scep;
  drf = p.drf;
  first = p.part.begins;
  last = p.part.ends;
  seq = p.number;
  ack = 0;
  right = 0;
  body = p.part.body;
}

-- a part of an SDU, with its bytes
abbrev pub part_in : List ℕ → delim.Part → Part
part_in sdu p = record { begins = p.first; ends = p.last; body = take p.len (drop p.at sdu) }

-- all parts of an SDU, each of at most so many bytes
abbrev pub parts_in : ℕ → List ℕ → List Part
parts_in size sdu = map (part_in sdu) (parts_of (length sdu) size)

-- each part lies within so many bytes
abbrev pub LieWithin : ℕ → List delim.Part → Type 0
LieWithin len parts = (i : ℕ) (p : delim.Part) → slice_get parts i ≡ Some p → p.at + p.len ≤ len

-- the PDUs of parts, numbered from `seq` on, where `flag` tells which numbers have the data run flag
abbrev pub made_from : (ℕ → Bool) → (Piece → Pdu) → ℕ → List Part → List Pdu
made_from flag form seq [] = []
made_from flag form seq (p ∷ ps) = form (record { number = seq; drf = flag seq; part = p }) ∷ made_from flag form (seq + 1) ps
