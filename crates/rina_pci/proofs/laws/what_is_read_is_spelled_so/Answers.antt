use Rattle.std.proofs.Common.{sym, ◌∙◌}
use Rattle.rina_pci.proofs.Pdus.{pdu_takes}
use Rattle.rina_pci.proofs.Lifetimes.{life_takes}
use Rattle.rina_pci.proofs.laws.what_is_read_is_spelled_so.Goals as goal

pub returns-clause-spelled : goal.returns-clause-spelled
returns-clause-spelled c = λ w p bytes widths fits read. pdu_takes w bytes p widths fits read

pub returns-clause-one : goal.returns-clause-one
returns-clause-one c = λ w p bytes others widths fits others_fit read again. (pdu_takes w bytes p widths fits read).1 ∙ sym (pdu_takes w others p widths others_fit again).1

pub returns-clause-life : goal.returns-clause-life
returns-clause-life c = λ life bytes pdu fits read. (let x = life_takes bytes life pdu fits read in (x.1, x.0))
