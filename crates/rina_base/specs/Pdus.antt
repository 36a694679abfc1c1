-- PDUs, kept or lent.
use Rattle.std.specs.Prelude.{◌≡◌, ℕ, false, []}
use Rattle.rina_base.specs.declared.number.Key.{Key}
use Rattle.rina_base.specs.declared.pdu.PduKind.{PduKind}
use Rattle.rina_base.specs.declared.pdu.PduKind.TheVariants.{Piece, Ack}
use Rattle.rina_base.specs.declared.pdu.Pdu.{Pdu}
use Rattle.rina_base.specs.declared.pdu.PduView.{PduView}

-- the PDU that is lent
abbrev pub pdu_of : PduView → Pdu
pdu_of v = record {
  kind = v.kind;
  dst = v.dst;
  src = v.src;
  qos = v.qos;
  dcep = v.dcep;
  scep = v.scep;
  drf = v.drf;
  first = v.first;
  last = v.last;
  seq = v.seq;
  ack = v.ack;
  right = v.right;
  body = v.body.now;
}

abbrev pub LeavesOut : PduKind → Pdu → Type 0
LeavesOut Piece p = (p.ack ≡ 0) × (p.right ≡ 0)
LeavesOut Ack p = (p.drf ≡ false) × (p.first ≡ false) × (p.last ≡ false) × (p.seq ≡ 0) × (p.body ≡ [])

-- what a PDU's kind has no field for is 0, false or empty
abbrev pub IsProper : Pdu → Type 0
IsProper p = LeavesOut p.kind p

-- the number that names a PDU: that of a piece, or the one that an acknowledgement acknowledges
abbrev pub number_by : PduKind → ℕ → ℕ → ℕ
number_by Piece seq ack = seq
number_by Ack seq ack = ack

abbrev pub key_of : Pdu → Key
key_of p = record { kind = p.kind; src = p.src; scep = p.scep; seq = number_by p.kind p.seq p.ack }
