-- The names of a connection, and the PDUs that bear them.
use Rattle.std.specs.Prelude.{◌≡◌, ℕ, false, []}
use Rattle.rina_base.specs.declared.pdu.Pdu.{Pdu}
use Rattle.rina_base.specs.declared.pdu.PduKind.TheVariants.{Piece as APiece, Ack as AnAck}
use Rattle.rina_law.specs.Pdus.{piece_in, ack_in}
use Rattle.rina_law.specs.Receiver.{Piece}
use Rattle.rina_law.specs.Sender.{Ack}

-- by one end of a connection: its own address and that of the far end, its own CEP-id and that of the far end, and
-- the QoS-id. All are 0 on the management connection of a link
pub record Ids : Type 0 where
  pub own : ℕ
  pub far : ℕ
  pub scep : ℕ
  pub dcep : ℕ
  pub qos : ℕ

-- by the far end
abbrev pub flipped : Ids → Ids
flipped ids = record { own = ids.far; far = ids.own; scep = ids.dcep; dcep = ids.scep; qos = ids.qos }

-- a PDU that the end with these ids sends to the far one
pub record IsFrom (ids : Ids) (pdu : Pdu) : Type 0 where
  pub src : pdu.src ≡ ids.own
  pub dst : pdu.dst ≡ ids.far
  pub scep : pdu.scep ≡ ids.scep
  pub dcep : pdu.dcep ≡ ids.dcep
  pub qos : pdu.qos ≡ ids.qos

-- the names that the PDUs of every link's management connection bear
abbrev pub link_names : Ids
link_names = record { own = 0; far = 0; scep = 0; dcep = 0; qos = 0 }

-- a PDU is one of a link's management connection
abbrev pub IsOfLink : Pdu → Type 0
IsOfLink pdu = IsFrom link_names pdu

-- the PDU that carries a piece to the far end
abbrev pub pdu_of_piece : Ids → Piece → Pdu
pdu_of_piece ids p = record {
  kind = APiece;
  dst = ids.far;
  src = ids.own;
  qos = ids.qos;
  dcep = ids.dcep;
  scep = ids.scep;
  drf = p.drf;
  first = p.part.begins;
  last = p.part.ends;
  seq = p.number;
  ack = 0;
  right = 0;
  body = p.part.body;
}

-- the PDU that carries an acknowledgement to the far end
abbrev pub pdu_of_ack : Ids → Ack → Pdu
pdu_of_ack ids k = record {
  kind = AnAck;
  dst = ids.far;
  src = ids.own;
  qos = ids.qos;
  dcep = ids.dcep;
  scep = ids.scep;
  drf = false;
  first = false;
  last = false;
  seq = 0;
  ack = k.ack;
  right = k.right;
  body = [];
}

-- A cloud says which PDUs may still come, each with the last tick at which it may. Of a cloud these are the pieces
-- that the end with these ids sent
pub record PiecesOf (cloud : ℕ → Pdu → Type 0) (ids : Ids) (death : ℕ) (piece : Piece) : Type 0 where
  pub pdu : Pdu
  pub in_cloud : cloud death pdu
  pub kind : pdu.kind ≡ APiece
  pub from : IsFrom ids pdu
  pub is : piece_in pdu ≡ piece

-- and these the acknowledgements of them, which the far end sent
pub record AcksOf (cloud : ℕ → Pdu → Type 0) (ids : Ids) (death : ℕ) (ack : Ack) : Type 0 where
  pub pdu : Pdu
  pub in_cloud : cloud death pdu
  pub kind : pdu.kind ≡ AnAck
  pub from : IsFrom (flipped ids) pdu
  pub is : ack_in pdu ≡ ack
