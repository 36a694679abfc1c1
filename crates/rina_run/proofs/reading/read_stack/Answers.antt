use Rattle.std.proofs.Common.{◌++◌, List, ℕ, ap, sym, ◌∙◌}
use Rattle.rina_run.specs.Script.{is_mark}
use Rattle.rina_run.proofs.ReadOn.{head_broken, head_marked, head_more, head_unmarked}
use Rattle.rina_run.proofs.reading.read_stack.Goals as goal

pub returns-in-Ok-End-clause-reads : goal.returns-in-Ok-End-clause-reads
returns-in-Ok-End-clause-reads g c = head_unmarked _ _ _ _ _ _ c.lines.invariant.so_far (rw c.in-Ok-End.field-0-is at (c.in-Ok-End.ensures.reads _ _ c.lines.invariant.so_far.read))

pub returns-in-Ok-Broken-clause-reads : goal.returns-in-Ok-Broken-clause-reads
returns-in-Ok-Broken-clause-reads g c = head_broken _ _ _ _ _ _ c.lines.invariant.so_far (rw c.in-Ok-Broken.field-0-is at (c.in-Ok-Broken.ensures.reads _ _ c.lines.invariant.so_far.read))

pub returns-then-is_mark_line-clause-reads : goal.returns-then-is_mark_line-clause-reads
returns-then-is_mark_line-clause-reads g c =
    let read = rw c.in-Ok-Line.field-0-is at (c.in-Ok-Line.ensures.reads _ _ c.lines.invariant.so_far.read) in
    head_marked _ _ _ _ _ _ c.in-Ok-Line.line.items c.lines.invariant.so_far read (sym (ap is_mark c.as_slice.ensures.value) ∙ sym c.is_mark_line.ensures ∙ c.if-is_mark_line.true)

pub lines-preserved : goal.lines-preserved
lines-preserved g c =
    let read = rw c.in-Ok-Line.field-0-is at (c.in-Ok-Line.ensures.reads _ _ c.lines.invariant.so_far.read) in
    let faults = rw c.in-Ok-Line.field-0-is at c.in-Ok-Line.ensures.faults in
    record {
      so_far = head_more _ _ _ _ _ _ c.in-Ok-Line.line.items _ c.lines.invariant.so_far read (sym (ap is_mark c.as_slice.ensures.value) ∙ sym c.is_mark_line.ensures ∙ c.if-is_mark_line.false) (c.in-Ok.ensures.items ∙ ap (λ (bs : List ℕ). c.lines.text.items ++ bs) c.as_slice-in-lines.ensures.value);
      fine = (faults.0 ∙ c.lines.invariant.fine.0, faults.1 ∙ c.lines.invariant.fine.1);
    }
