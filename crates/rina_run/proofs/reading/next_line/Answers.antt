use Rattle.rina_run.proofs.ReadOn.{fewer_left, read_broken, read_lost, read_next, read_over, read_too_much}
use Rattle.rina_run.proofs.reading.next_line.Goals as goal

pub returns-in-Ok-Some-clause-reads : goal.returns-in-Ok-Some-clause-reads
returns-in-Ok-Some-clause-reads g c left lines h =
    let gives = rw c.in-Ok-Some.field-0-is at c.in-Ok-Some.ensures.gives in
    read_next left _ _ _ _ lines _ h gives.0 gives.1

pub returns-in-Ok-Some-clause-goes_on : goal.returns-in-Ok-Some-clause-goes_on
returns-in-Ok-Some-clause-goes_on g c =
    let gives = rw c.in-Ok-Some.field-0-is at c.in-Ok-Some.ensures.gives in
    (gives.0, fewer_left _ _ _ _ _ gives.1)

pub returns-in-Ok-None-clause-reads : goal.returns-in-Ok-None-clause-reads
returns-in-Ok-None-clause-reads g c left lines h = read_over left _ _ _ _ lines h (rw c.in-Ok-None.field-0-is at c.in-Ok-None.ensures.gives)

pub returns-in-Err-TooLarge-clause-reads : goal.returns-in-Err-TooLarge-clause-reads
returns-in-Err-TooLarge-clause-reads g c left lines h =
    let gives = rw c.in-Err-TooLarge.field-0-is at c.in-Err-TooLarge.ensures.gives in
    read_too_much left _ _ _ lines h gives.0 gives.1

pub returns-in-Err-Fault-clause-reads : goal.returns-in-Err-Fault-clause-reads
returns-in-Err-Fault-clause-reads g c left lines h =
    let gives = rw c.in-Err-Fault.field-0-is at c.in-Err-Fault.ensures.gives in
    read_broken left _ _ _ lines h gives.0 gives.1

pub returns-in-Err-Memory-clause-reads : goal.returns-in-Err-Memory-clause-reads
returns-in-Err-Memory-clause-reads g c left lines h =
    let gives = rw c.in-Err-Memory.field-0-is at c.in-Err-Memory.ensures.gives in
    read_lost left _ _ _ lines h gives.0 gives.1

pub returns-in-Err-TooLarge-clause-goes_on : goal.returns-in-Err-TooLarge-clause-goes_on
returns-in-Err-TooLarge-clause-goes_on g c = (rw c.in-Err-TooLarge.field-0-is at c.in-Err-TooLarge.ensures.gives).0

pub returns-in-Err-Fault-clause-goes_on : goal.returns-in-Err-Fault-clause-goes_on
returns-in-Err-Fault-clause-goes_on g c = (rw c.in-Err-Fault.field-0-is at c.in-Err-Fault.ensures.gives).0

pub returns-in-Err-Memory-clause-goes_on : goal.returns-in-Err-Memory-clause-goes_on
returns-in-Err-Memory-clause-goes_on g c = (rw c.in-Err-Memory.field-0-is at c.in-Err-Memory.ensures.gives).0
