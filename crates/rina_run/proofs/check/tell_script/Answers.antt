use Rattle.std.proofs.Common.{◌≡◌, ℕ, List, [], inr, refl}
use Rattle.rina_report.specs.declared.note.Fault.TheVariants as faults
use Rattle.rina_table.specs.declared.error.StackError.TheVariants as stack
use Rattle.rina_run.specs.Reading.{Ending, IsFine}
use Rattle.rina_run.proofs.Checks.{if_ok_by, rule_tells, stack_tells}
use Rattle.rina_run.proofs.ReadOn.{text_alone, was_read}
use Rattle.rina_run.proofs.check.tell_script.Goals as goal

pub returns-in-Ok-clause-told : goal.returns-in-Ok-clause-told
returns-in-Ok-clause-told g c =
    if_ok_by _ _ c.tell_lines.result c.tell_lines.ensures.told (λ note f left h. was_read _ _ _ _ _ _ _ h (f left h.lines h.read) (λ ending lines tell. inr (c.in-Ok.plan, c.in-Ok.ensures.reads, tell)))

pub returns-in-Err-NotToml-clause-told : goal.returns-in-Err-NotToml-clause-told
returns-in-Err-NotToml-clause-told g c left h =
    was_read _ _ _ _ _ _ _ h (text_alone _ _ _ _ (λ (e : Ending) (ls : List (List ℕ)). IsFine e × (ls ≡ [])) h (λ e f. (f, refl))) (λ ending lines k. stack_tells _ ending _ stack.NotToml faults.NotToml (rw c.in-Err-NotToml.field-0-is at c.in-Err-NotToml.ensures.reads) refl k)

pub returns-in-Err-StackRule-clause-told : goal.returns-in-Err-StackRule-clause-told
returns-in-Err-StackRule-clause-told g c left h =
    was_read _ _ _ _ _ _ _ h (text_alone _ _ _ _ (λ (e : Ending) (ls : List (List ℕ)). IsFine e × (ls ≡ [])) h (λ e f. (f, refl))) (λ ending lines k. rule_tells _ ending _ _ _ _ (rw c.in-Err-StackRule.field-0-is at c.in-Err-StackRule.ensures.reads) (rw c.in-Err-StackRule.field-0-is at c.rule_note.ensures) k)
