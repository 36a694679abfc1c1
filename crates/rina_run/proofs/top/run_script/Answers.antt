use Rattle.std.proofs.Common.{◌≡◌, ℕ, List, [], inr, refl}
use Rattle.rina_report.specs.declared.note.Fault.TheVariants as faults
use Rattle.rina_report.specs.declared.note.Note.TheVariants as notes
use Rattle.rina_run.specs.Reading.{Ending, IsFine}
use Rattle.rina_run.proofs.Ending.{not_toml_from, refused_as, rule_from, script_from}
use Rattle.rina_run.proofs.Faulty.{no_break, reads_as, reads_by}
use Rattle.rina_run.proofs.ReadOn.{text_alone, was_read}
use Rattle.rina_run.proofs.top.run_script.Goals as goal

pub returns-in-Err-NotToml-clause-outcome : goal.returns-in-Err-NotToml-clause-outcome
returns-in-Err-NotToml-clause-outcome g c left h =
    inr (was_read _ _ _ _ _ _ _ h (text_alone _ _ _ _ (λ (e : Ending) (ls : List (List ℕ)). IsFine e × (ls ≡ [])) h (λ e f. (f, refl))) (λ ending lines k. not_toml_from _ ending _ _ _ _ _ _ (rw c.in-Err-NotToml.field-0-is at c.in-Err-NotToml.ensures.reads) k c.refuse.ensures.refused c.refuse.ensures.tower refl))

pub returns-in-Err-StackRule-clause-outcome : goal.returns-in-Err-StackRule-clause-outcome
returns-in-Err-StackRule-clause-outcome g c left h =
    inr (was_read _ _ _ _ _ _ _ h (text_alone _ _ _ _ (λ (e : Ending) (ls : List (List ℕ)). IsFine e × (ls ≡ [])) h (λ e f. (f, refl))) (λ ending lines k. rule_from _ ending _ _ _ _ _ _ _ _ (rw c.in-Err-StackRule.field-0-is at c.in-Err-StackRule.ensures.reads) k c.refuse-in-Err-StackRule.ensures.refused c.refuse-in-Err-StackRule.ensures.tower refl))

pub returns-clause-outcome : goal.returns-clause-outcome
returns-clause-outcome g c left h =
    inr (was_read _ _ _ _ _ _ _ h (c.run_lines.ensures.outcome left h.lines h.read) (λ ending lines played. script_from _ ending _ _ c.in-Ok-open_run.opened _ _ _ _ c.in-Ok.plan c.in-Ok.ensures.reads c.in-Ok-open_run.ensures.opens c.run_lines.ensures.tower played))

pub returns-in-Err-NotToml-clause-read : goal.returns-in-Err-NotToml-clause-read
returns-in-Err-NotToml-clause-read g c = reads_by _ faults.NotToml _ (notes.Fault faults.NotToml) [] _ _ _ _ _ (refused_as faults.NotToml _ _ c.refuse.ensures.refused) (refl, refl) (no_break faults.NotToml (λ h. cc))

pub returns-in-Err-StackRule-clause-read : goal.returns-in-Err-StackRule-clause-read
returns-in-Err-StackRule-clause-read g c =
    let fault = faults.StackRule c.in-Err-StackRule.n c.in-Err-StackRule.item in
    reads_by _ fault _ (notes.Fault fault) [] _ _ _ _ _ (refused_as fault _ _ c.refuse-in-Err-StackRule.ensures.refused) (refl, refl) (no_break fault (λ h. cc))

pub returns-clause-read : goal.returns-clause-read
returns-clause-read g c =
    reads_as _ _ _ _ _ _ _ (λ broke left h. was_read _ _ _ _ _ _ _ h (broke left h.lines h.read) (λ ending lines played. (played.0, script_from _ ending _ _ c.in-Ok-open_run.opened _ _ _ _ c.in-Ok.plan c.in-Ok.ensures.reads c.in-Ok-open_run.ensures.opens c.run_lines.ensures.tower played.1))) c.run_lines.ensures.read
