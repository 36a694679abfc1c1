use Rattle.rina_words.specs.Step.{LettingOut, stage}
use Rattle.rina_notes.specs.Sites.{dif_site_at}
use Rattle.rina_words.proofs.Leading.{acts_leads, said_beside}
use Rattle.rina_words.proofs.line.act.Goals as goal

pub returns-in_ok-says-in-Out-clause-does : goal.returns-in_ok-says-in-Out-clause-does
returns-in_ok-says-in-Out-clause-does g c = rw c.in-Out.is (said_beside (LettingOut c.args.line.now.plan.now (dif_site_at c.args.line.now.plan.now c.in-Out.dif c.in-Out.node) c.in-Out.link (stage c.args.run.now (g.P.Picks.slots c.args.shelf.now))) _ _ (stage c.out_step.new.run (g.P.Picks.slots c.out_step.new.shelf)) _ _ _ _ c.in_ok-says-in-Out.ensures.does c.tick_of.ensures c.tell.ensures.ok)

pub returns-in_default-clause-does : goal.returns-in_default-clause-does
returns-in_default-clause-does g c = acts_leads c.args.line.now.plan.now c.args.line.now.number c.args.event.now (g.P.Picks.slots c.args.shelf.now) c.args.run.now _ _ _ _ c.act_once.ensures.does
