-- What a PDU says of its connection.
use Rattle.std.specs.Prelude.{◌≡◌, ℕ}
use Rattle.rina_base.specs.declared.pdu.Pdu.{Pdu}
use Rattle.rina_rest.specs.Flows.{Four}

abbrev pub four_in : Pdu → Four
four_in pdu = record { src = pdu.src; scep = pdu.scep; dst = pdu.dst; dcep = pdu.dcep }

-- of the PDUs of a cloud what those say that are of a flow. Which are so, and which are of management, the layer says
pub record Naming (of_flow : Pdu → Type 0) (cloud : ℕ → Pdu → Type 0) (death : ℕ) (four : Four) : Type 0 where
  pub pdu : Pdu
  pub in_cloud : cloud death pdu
  pub flow : of_flow pdu
  pub is : four_in pdu ≡ four
