use Rattle.rina_run.proofs.Drawing.{done_has_tower}
use Rattle.rina_run.proofs.drawn.gen_input.Goals as goal

pub tell_made-requires-clause-done : goal.tell_made-requires-clause-done
tell_made-requires-clause-done g c = λ is. done_has_tower _ _ _ _ _ _ _ _ c.run_unwritten-status.ensures.ran.1 is
