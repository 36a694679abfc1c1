-- Printed values of more than one part.
use Rattle.std.specs.Prelude.{ℕ, Bool, true, false, List, [], ◌∷◌, ◌++◌, codes}
use Rattle.std.specs.Fmt.{decimal}
use Rattle.rina_base.specs.declared.number.Num.{Num}
use Rattle.rina_base.specs.declared.number.FlowName.{FlowName}
use Rattle.rina_base.specs.declared.number.Key.{Key}
use Rattle.rina_base.specs.declared.pdu.PduKind.{PduKind}
use Rattle.rina_base.specs.declared.pdu.PduKind.TheVariants.{Piece, Ack}
use Rattle.rina_report.specs.declared.state.PortNote.{PortNote}

-- CEP.SEQ
unfoldable pub num_text : Num → List ℕ
num_text num = decimal num.cep ++ 46 ∷ decimal num.seq

-- SRC.TICK.COUNT
unfoldable pub flow_text : FlowName → List ℕ
flow_text flow = decimal flow.src ++ 46 ∷ decimal flow.tick ++ 46 ∷ decimal flow.count

-- FAC/NODE/N
unfoldable pub port_text : PortNote → List ℕ
port_text port = port.fac ++ 47 ∷ port.node ++ 47 ∷ decimal port.n

-- the word of a kind of PDU
unfoldable pub kind_word : PduKind → List ℕ
kind_word Piece = codes "data"
kind_word Ack = codes "ack"

-- SRC.SCEP.SEQ
unfoldable pub key_text : Key → List ℕ
key_text key = decimal key.src ++ 46 ∷ decimal key.scep ++ 46 ∷ decimal key.seq

-- data SRC.SCEP.SEQ, or ack SRC.SCEP.SEQ
abbrev pub key_fields : Key → List (List ℕ)
key_fields key = kind_word key.kind ∷ key_text key ∷ []

-- 0 or 1
unfoldable pub truth_text : Bool → List ℕ
truth_text false = codes "0"
truth_text true = codes "1"
