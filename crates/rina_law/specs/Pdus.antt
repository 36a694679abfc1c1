-- What the machine sees of a PDU.
use Rattle.rina_base.specs.declared.pdu.Pdu.{Pdu}
use Rattle.rina_law.specs.Receiver.{Piece}
use Rattle.rina_law.specs.Sender.{Ack}

-- of one that carries a piece of an SDU
abbrev pub piece_in : Pdu → Piece
piece_in pdu = record { number = pdu.seq; drf = pdu.drf; part = record { begins = pdu.first; ends = pdu.last; body = pdu.body } }

-- of one that acknowledges
abbrev pub ack_in : Pdu → Ack
ack_in pdu = record { ack = pdu.ack; right = pdu.right }
