use Rattle.std.proofs.Common.{refl}
use Rattle.rina_run.proofs.Checks.{if_ok_by}
use Rattle.rina_run.proofs.ReadOn.{few_left, read_nothing, was_headless}
use Rattle.rina_run.proofs.check.tell_input.Goals as goal

pub read_stack-requires : goal.read_stack-requires
read_stack-requires g c = read_nothing _ _ c.new-reader.ensures.held c.new-reader.ensures.room c.new-reader.ensures.over

pub tell_script-requires-clause-reader : goal.tell_script-requires-clause-reader
tell_script-requires-clause-reader g c = (rw c.in-Ok-Stack.field-0-is at c.in-Ok-Stack.ensures.reads).read.sound

pub tell_script-requires-clause-few : goal.tell_script-requires-clause-few
tell_script-requires-clause-few g c = few_left _ _ _ _ (rw c.in-Ok-Stack.field-0-is at c.in-Ok-Stack.ensures.reads).read

pub returns-in-Ok-Broken-clause-told : goal.returns-in-Ok-Broken-clause-told
returns-in-Ok-Broken-clause-told g c = was_headless _ _ c.in-Ok-Broken.fault _ (rw c.in-Ok-Broken.field-0-is at c.in-Ok-Broken.ensures.reads) refl

pub returns-in-Ok-Stack-clause-told : goal.returns-in-Ok-Stack-clause-told
returns-in-Ok-Stack-clause-told g c = if_ok_by _ _ c.tell_script.result c.tell_script.ensures.told (λ note f. f _ (rw c.in-Ok-Stack.field-0-is at c.in-Ok-Stack.ensures.reads))
