use Rattle.rina_conn.proofs.Quieting.{due_from}
use Rattle.rina_conn.proofs.conn.Conn.quiet_until.Goals as goal

pub returns-clause-from : goal.returns-clause-from
returns-clause-from c = rw (c.min-2.ensures, c.min.ensures) (due_from c.args.self.now c.sends_none_until-sends.result c.plans_none_until-plans.result c.keeps_none_until-keeps.result c.sends_none_until-sends.ensures.from c.plans_none_until-plans.ensures.from c.keeps_none_until-keeps.ensures.from)
