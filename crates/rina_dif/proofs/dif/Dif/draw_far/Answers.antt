use Rattle.rina_dif.proofs.FarAdded.{draws_ok}
use Rattle.rina_dif.proofs.dif.Dif.draw_far.Goals as goal

pub returns-else-is_err-clause-ok : goal.returns-else-is_err-clause-ok
returns-else-is_err-clause-ok c = draws_ok c.args.self.now c.args.at c.args.peer c.args.end c.add_far-added.new.flows c.draw.new.self c.in_ok-draw.draw c.add_far-added.result c.requires.draws c.in_ok-draw.ensures.ok c.add_far-added.ensures.ok
