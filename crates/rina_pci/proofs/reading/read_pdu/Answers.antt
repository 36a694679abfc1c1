use Rattle.std.proofs.Common.{ap, ◌∙◌, arith}
use Rattle.rina_pci.specs.Reading.{pdu_at}
use Rattle.rina_pci.proofs.Pdus.{is_found, pdu_again}
use Rattle.rina_pci.proofs.reading.read_pdu.Goals as goal

pub returns-clause-found : goal.returns-clause-found
returns-clause-found c = is_found c.args.w c.args.bytes.now c.read_whole.result c.requires (λ i. omega (arith, c.type_inv.bytes i)) c.read_whole.ensures

pub returns-clause-only : goal.returns-clause-only
returns-clause-only c = λ p fits spelled. c.read_whole.ensures ∙ ap (pdu_at c.args.w) spelled ∙ pdu_again c.args.w p c.requires fits
