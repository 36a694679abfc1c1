use Rattle.std.proofs.Common.{sym, ap, ◌∙◌}
use Rattle.rina_pci.proofs.Pdus.{pdu_again}
use Rattle.rina_pci.proofs.Written.{written_fits, fits_written, wide_exactly, done}
use Rattle.rina_pci.proofs.Lifetimes.{life_again}
use Rattle.rina_pci.proofs.laws.what_is_written_is_read.Goals as goal

pub returns-clause-written : goal.returns-clause-written
returns-clause-written c = λ w p bytes widths proper. (written_fits w p bytes widths proper, λ x. fits_written w p x.0 ∙ ap done (sym x.1))

pub returns-clause-read : goal.returns-clause-read
returns-clause-read c = pdu_again

pub returns-clause-life : goal.returns-clause-life
returns-clause-life c = life_again

pub returns-clause-wide : goal.returns-clause-wide
returns-clause-wide c = wide_exactly
