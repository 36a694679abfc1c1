use Rattle.std.proofs.Common.{[], ap, inr, refl}
use Rattle.rina_report.specs.declared.note.Fault.{Fault}
use Rattle.rina_run.specs.Reading.{Broken}
use Rattle.rina_report.specs.declared.note.Note.TheVariants as notes
use Rattle.rina_run.proofs.Ending.{refused_as, refused_at_once}
use Rattle.rina_run.proofs.Faulty.{reads_as, reads_by, reads_then}
use Rattle.rina_run.proofs.ReadOn.{few_left, read_nothing, was_headless}
use Rattle.rina_run.proofs.top.run_read.Goals as goal

pub read_stack-requires : goal.read_stack-requires
read_stack-requires g c = read_nothing _ _ c.new-reader.ensures.held c.new-reader.ensures.room c.new-reader.ensures.over

pub run_script-requires-clause-reader : goal.run_script-requires-clause-reader
run_script-requires-clause-reader g c = (rw c.in-Ok-Stack.field-0-is at c.in-Ok-Stack.ensures.reads).read.sound

pub run_script-requires-clause-few : goal.run_script-requires-clause-few
run_script-requires-clause-few g c = few_left _ _ _ _ (rw c.in-Ok-Stack.field-0-is at c.in-Ok-Stack.ensures.reads).read

pub returns-in-Ok-Stack-clause-outcome : goal.returns-in-Ok-Stack-clause-outcome
returns-in-Ok-Stack-clause-outcome g c = c.run_script.ensures.outcome _ (rw c.in-Ok-Stack.field-0-is at c.in-Ok-Stack.ensures.reads)

pub returns-in-Ok-Broken-clause-outcome : goal.returns-in-Ok-Broken-clause-outcome
returns-in-Ok-Broken-clause-outcome g c = inr (was_headless _ _ c.in-Ok-Broken.fault _ (rw c.in-Ok-Broken.field-0-is at c.in-Ok-Broken.ensures.reads) (refused_at_once (g.P.Policies.knows c.args.shelf.now) c.in-Ok-Broken.fault _ _ _ _ _ c.refuse.ensures.refused c.refuse.ensures.tower refl))

pub returns-in-Ok-Broken-clause-read : goal.returns-in-Ok-Broken-clause-read
returns-in-Ok-Broken-clause-read g c =
    reads_by _ c.in-Ok-Broken.fault _ (notes.Fault c.in-Ok-Broken.fault) [] _ _ _ _ _ (refused_as c.in-Ok-Broken.fault _ _ c.refuse.ensures.refused) (rw c.in-Ok-Broken.field-0-is at c.in-Ok-Broken.ensures.faults)
    (λ is. was_headless _ _ c.in-Ok-Broken.fault _ (rw c.in-Ok-Broken.field-0-is at c.in-Ok-Broken.ensures.reads) (ap (λ (f : Fault). Broken f) is, refused_at_once (g.P.Policies.knows c.args.shelf.now) c.in-Ok-Broken.fault _ _ _ _ _ c.refuse.ensures.refused c.refuse.ensures.tower refl))

pub returns-in-Ok-Stack-clause-read : goal.returns-in-Ok-Stack-clause-read
returns-in-Ok-Stack-clause-read g c =
    let faults = rw c.in-Ok-Stack.field-0-is at c.in-Ok-Stack.ensures.faults in
    reads_as _ _ _ _ _ _ _ (λ broke. broke _ (rw c.in-Ok-Stack.field-0-is at c.in-Ok-Stack.ensures.reads)) (reads_then _ _ _ _ _ _ _ _ faults.0 faults.1 c.run_script.ensures.read)
