use Rattle.std.proofs.Common.{◌∙◌, ap, refl}
use Rattle.rina_report.specs.declared.note.Fault.{Fault}
use Rattle.rina_run.specs.Reading.{Broken}
use Rattle.rina_run.specs.Top.{fault_of}
use Rattle.rina_run.proofs.Ending.{bad_from, done_from, ended_from, stop_from}
use Rattle.rina_run.proofs.Faulty.{no_break, reads_by, reads_end}
use Rattle.rina_run.proofs.ReadOn.{known_as, known_where}
use Rattle.rina_run.proofs.top.run_lines.Goals as goal

pub returns-in-Ok-End-clause-outcome : goal.returns-in-Ok-End-clause-outcome
returns-in-Ok-End-clause-outcome g c left before h =
    known_as _ _ _ _ _ _ (rw c.in-Ok-End.field-0-is at (c.in-Ok-End.ensures.does left before h)) (λ ending lines ran. done_from _ ending lines _ c.play.new.trace _ _ _ _ _ ran c.seal.ensures.tower refl c.in-Ok-End.ensures.names (rw c.tick_of-tick.ensures at c.seal.ensures.closed))

pub returns-in-Ok-End-clause-read : goal.returns-in-Ok-End-clause-read
returns-in-Ok-End-clause-read g c = reads_end _ _ _ _ _ _ _ _ _ c.seal.ensures.closed (rw c.in-Ok-End.field-0-is at c.in-Ok-End.ensures.reads)

pub returns-in-Ok-Broken-clause-outcome : goal.returns-in-Ok-Broken-clause-outcome
returns-in-Ok-Broken-clause-outcome g c left before h =
    known_where _ _ _ _ _ _ (rw c.in-Ok-Broken.field-0-is at (c.in-Ok-Broken.ensures.does left before h)) (λ ending all lines read ran. ended_from _ ending lines all _ _ _ c.play.new.trace _ _ _ _ _ c.in-Ok-Broken.fault read ran c.end_by_fault.ensures.tower refl c.in-Ok-Broken.ensures.names c.end_by_fault.ensures.closed)

pub returns-in-Ok-Broken-clause-read : goal.returns-in-Ok-Broken-clause-read
returns-in-Ok-Broken-clause-read g c =
    reads_by _ c.in-Ok-Broken.fault _ _ _ _ _ _ _ _ c.end_by_fault.ensures.closed (rw c.in-Ok-Broken.field-0-is at c.in-Ok-Broken.ensures.reads)
    (λ is left before h. known_where _ _ _ _ _ _ (rw c.in-Ok-Broken.field-0-is at (c.in-Ok-Broken.ensures.does left before h)) (λ ending all lines read ran. (ran.0 ∙ ap (λ (f : Fault). Broken f) is, ended_from _ ending lines all _ _ _ c.play.new.trace _ _ _ _ _ c.in-Ok-Broken.fault read ran c.end_by_fault.ensures.tower refl c.in-Ok-Broken.ensures.names c.end_by_fault.ensures.closed)))

pub returns-in-Ok-Bad-clause-outcome : goal.returns-in-Ok-Bad-clause-outcome
returns-in-Ok-Bad-clause-outcome g c left before h =
    known_as _ _ _ _ _ _ (rw c.in-Ok-Bad.field-0-is at (c.in-Ok-Bad.ensures.does left before h)) (λ ending lines ran. bad_from _ ending lines _ c.play.new.trace _ _ _ _ _ c.in-Ok-Bad.bad ran c.end_by_fault-in-Ok-Bad.ensures.tower refl c.in-Ok-Bad.ensures.names (rw c.line_fault.ensures at c.end_by_fault-in-Ok-Bad.ensures.closed))

pub returns-in-Ok-Bad-clause-read : goal.returns-in-Ok-Bad-clause-read
returns-in-Ok-Bad-clause-read g c = reads_by _ (fault_of c.in-Ok-Bad.bad) _ _ _ _ _ _ _ _ (rw c.line_fault.ensures at c.end_by_fault-in-Ok-Bad.ensures.closed) (rw c.in-Ok-Bad.field-0-is at c.in-Ok-Bad.ensures.reads) (no_break (fault_of c.in-Ok-Bad.bad) (λ h. cc))

pub returns-clause-outcome : goal.returns-clause-outcome
returns-clause-outcome g c left before h =
    known_as _ _ _ _ _ _ (c.in-Err.ensures.does left before h) (λ ending lines ran. rw c.stopped.ensures (stop_from _ ending lines _ _ _ _ _ c.in-Err.stop ran refl refl c.in-Err.ensures.names))
