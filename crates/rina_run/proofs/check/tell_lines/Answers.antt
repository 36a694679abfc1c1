use Rattle.rina_run.proofs.Checks.{bad_tells, broken_tells, lines_tell}
use Rattle.rina_run.proofs.ReadOn.{known_as}
use Rattle.rina_run.proofs.check.tell_lines.Goals as goal

pub returns-in-Ok-Events-clause-told : goal.returns-in-Ok-Events-clause-told
returns-in-Ok-Events-clause-told g c left before h =
    known_as _ _ _ _ _ _ (rw c.in-Ok-Events.field-0-is at (c.in-Ok-Events.ensures.reads left before h)) (λ ending lines are. lines_tell ending _ lines c.in-Ok-Events.events _ are c.counts.ensures)

pub returns-in-Ok-Broken-clause-told : goal.returns-in-Ok-Broken-clause-told
returns-in-Ok-Broken-clause-told g c left before h =
    known_as _ _ _ _ _ _ (rw c.in-Ok-Broken.field-0-is at (c.in-Ok-Broken.ensures.reads left before h)) (λ ending lines are. broken_tells ending _ lines c.in-Ok-Broken.fault are)

pub returns-in-Ok-Bad-clause-told : goal.returns-in-Ok-Bad-clause-told
returns-in-Ok-Bad-clause-told g c left before h =
    known_as _ _ _ _ _ _ (rw c.in-Ok-Bad.field-0-is at (c.in-Ok-Bad.ensures.reads left before h)) (λ ending lines are. bad_tells ending _ lines c.in-Ok-Bad.bad _ are c.line_fault.ensures)
