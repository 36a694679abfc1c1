use Rattle.rina_session.proofs.Histories.{connected, calling, called, waits}
use Rattle.rina_session.proofs.laws.what_was_said_tells_the_session.Goals as goal

pub returns-clause-connected : goal.returns-clause-connected
returns-clause-connected c = connected

pub returns-clause-calling : goal.returns-clause-calling
returns-clause-calling c = calling

pub returns-clause-called : goal.returns-clause-called
returns-clause-called c = called

pub returns-clause-waits : goal.returns-clause-waits
returns-clause-waits c = waits
