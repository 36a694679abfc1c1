-- Where the pieces of a connection come from.
use Rattle.std.specs.Prelude.{ℕ}
use Rattle.rina_base.specs.declared.number.Key.{Key}
use Rattle.rina_base.specs.declared.pdu.Pdu.{Pdu}
use Rattle.rina_base.specs.declared.pdu.PduKind.TheVariants.{Piece}
use Rattle.rina_dtp.specs.declared.source.Source.{Source}

abbrev pub source_of : Pdu → Source
source_of pdu = record { src = pdu.src; scep = pdu.scep; dcep = pdu.dcep }

-- the key of the piece of a number
abbrev pub key_at : Source → ℕ → Key
key_at source n = record { kind = Piece; src = source.src; scep = source.scep; seq = n }
