-- Each status has its cause.
use Rattle.rina_laws.proofs.Endings.{of_one_status, runs_end, use_is_bounded}
use Rattle.rina_laws.proofs.EndingsDone.{grammatical_runs_are_done}
use Rattle.rina_laws.proofs.each_run_ends_for_its_cause.Goals as goal

pub returns : goal.returns
returns c = record { ended = runs_end; one = of_one_status; done = grammatical_runs_are_done; bounded = use_is_bounded }
