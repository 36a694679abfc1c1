use Rattle.std.proofs.Common.{length}
use Rattle.rina_conn.proofs.Offering.{are_parts}
use Rattle.rina_conn.proofs.sending.Sending.cut.Goals as goal

pub returns-clause-ok : goal.returns-clause-ok
returns-clause-ok c = are_parts (length c.args.sdu.now) c.args.self.now.form.piece c.in_ok-cut.field-0.items c.args.self.now.form.least_piece c.requires c.in_ok-cut.ensures.parts c.in_ok-cut.ensures.count
