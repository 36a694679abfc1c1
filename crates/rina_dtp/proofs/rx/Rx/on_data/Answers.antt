use Rattle.rina_base.specs.Pdus.{pdu_of}
use Rattle.rina_dtp.proofs.Came.{row_from}
use Rattle.rina_dtp.proofs.rx.Rx.on_data.Goals as goal

pub returns : goal.returns
returns c = row_from c.args.now (pdu_of c.args.pdu.now) c.args.unpassed c.args.self.now c.receive.result c.receive.new.self c.receive.ensures.small c.receive.ensures.steps
