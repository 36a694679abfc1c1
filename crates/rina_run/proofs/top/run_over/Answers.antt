use Rattle.rina_run.proofs.Drawing.{gen_reads}
use Rattle.rina_run.proofs.Faulty.{show_reads, usage_reads}
use Rattle.rina_run.proofs.top.run_over.Goals as goal

pub returns-in-Err-clause-read : goal.returns-in-Err-clause-read
returns-in-Err-clause-read g c = rw c.all_written.ensures.finish (usage_reads _ _ _ _ _ _ c.refuse.ensures.refused)

pub returns-in-Ok-Gen-clause-read : goal.returns-in-Ok-Gen-clause-read
returns-in-Ok-Gen-clause-read g c = gen_reads _ _ _ _ _ _ _ _ _ _ _ c.gen_input.ensures.outcome

pub returns-in-Ok-Show-clause-read : goal.returns-in-Ok-Show-clause-read
returns-in-Ok-Show-clause-read g c = rw c.all_written-in-Ok-Show.ensures.finish (show_reads _ _ _ _ _ _ c.show_input.ensures.shown)
