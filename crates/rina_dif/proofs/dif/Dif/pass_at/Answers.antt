use Rattle.rina_dif.proofs.Passed.{has_conn, passes}
use Rattle.rina_dif.proofs.dif.Dif.pass_at.Goals as goal

pub pass-requires-clause-conn : goal.pass-requires-clause-conn
pass-requires-clause-conn c = has_conn c.args.self.now c.requires.stands.0 c.args.at c.requires.stands.1 c.requires.end

pub returns-clause-does : goal.returns-clause-does
returns-clause-does c = passes c.args.self.now c.args.at c.pass.new.self c.pass.ensures.passes
