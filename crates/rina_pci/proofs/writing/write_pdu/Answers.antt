use Rattle.rina_pci.proofs.Written.{is_spelled, is_written}
use Rattle.rina_pci.proofs.writing.write_pdu.Goals as goal

pub returns-clause-spelled : goal.returns-clause-spelled
returns-clause-spelled c = is_spelled c.args.w c.args.pdu.now c.write_whole.result c.requires.widths c.requires.proper c.write_whole.ensures

pub returns-clause-only : goal.returns-clause-only
returns-clause-only c = λ fits. is_written c.args.w c.args.pdu.now c.write_whole.result fits c.write_whole.ensures
