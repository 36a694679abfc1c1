use Rattle.rina_words.specs.Step.{Answering}
use Rattle.rina_words.proofs.Leading.{told_leads}
use Rattle.rina_words.proofs.line.act_once.Goals as goal

pub returns-clause-does : goal.returns-clause-does
returns-clause-does c = told_leads (Answering c.args.line.now.plan.now c.args.event.now c.args.run.now) _ _ _ _ _ _ _ c.in_ok-says.ensures.does c.tick_of.ensures c.tell.ensures.ok
