use Rattle.rina_pci.proofs.Pdus.{length-spelled}
use Rattle.rina_pci.proofs.Lifetimes.{length-protected}
use Rattle.rina_pci.proofs.laws.how_long_it_is.Goals as goal

pub returns-clause-pdu : goal.returns-clause-pdu
returns-clause-pdu c = length-spelled

pub returns-clause-life : goal.returns-clause-life
returns-clause-life c = length-protected
