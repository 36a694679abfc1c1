use Rattle.std.proofs.Common.{sym, ◌∙◌}
use Rattle.rina_run.specs.Script.{is_mark}
use Rattle.rina_run.proofs.InputLines.{position_seen}
use Rattle.rina_run.proofs.input.mark_in.Goals as goal

pub returns-clause-place : goal.returns-clause-place
returns-clause-place c = c.first_mark.ensures.place ∙ sym (position_seen is_mark c.args.lines.now)
