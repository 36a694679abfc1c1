use Rattle.std.proofs.Common.{◌≡◌, ap, arith, Bool, true, false, cond, ◌+◌, ◌∙◌, refl}
use Rattle.std.specs.Int.{from_bool}
use Rattle.bstr.specs.Text.{without_terminator}
use Rattle.rina_run.specs.Reading.{Broken}
use Rattle.rina_run.proofs.Checks.{checked_on, first_bad}
use Rattle.rina_run.proofs.ReadOn.{all_behind, broken_behind, enough_behind, one_so_far}
use Rattle.rina_run.proofs.check.read_lines.Goals as goal

bool_as : (b : Bool) → from_bool b ≡ cond b 1 0
bool_as true = refl
bool_as false = refl

pub returns-in-Ok-End-clause-reads : goal.returns-in-Ok-End-clause-reads
returns-in-Ok-End-clause-reads g c =
    let so_far = c.lines.invariant.so_far in
    all_behind _ _ _ _ _ _ so_far.lines _ so_far.read (λ left before h. rw c.in-Ok-End.field-0-is at (c.in-Ok-End.ensures.reads left before h)) (refl, so_far.are, so_far.events)

pub returns-in-Ok-Broken-clause-reads : goal.returns-in-Ok-Broken-clause-reads
returns-in-Ok-Broken-clause-reads g c =
    let so_far = c.lines.invariant.so_far in
    broken_behind _ _ _ _ _ so_far.lines (Broken c.in-Ok-Broken.fault) _ so_far.read (λ left before h. rw c.in-Ok-Broken.field-0-is at (c.in-Ok-Broken.ensures.reads left before h)) (rw c.in-Ok-Broken.field-0-is at c.in-Ok-Broken.ensures.goes_on) (refl, so_far.are)

pub returns-in-Ok-Err-clause-reads : goal.returns-in-Ok-Err-clause-reads
returns-in-Ok-Err-clause-reads g c =
    let so_far = c.lines.invariant.so_far in
    let line = c.in-Ok-Line.line.items in
    let goes = rw c.in-Ok-Line.field-0-is at c.in-Ok-Line.ensures.goes_on in
    let text_is = c.without_end.ensures ∙ ap without_terminator c.as_slice.ensures.value in
    let read = one_so_far _ _ _ _ _ _ so_far.lines line so_far.read (λ left before h. rw c.in-Ok-Line.field-0-is at (c.in-Ok-Line.ensures.reads left before h)) goes.0 in
    enough_behind _ _ _ _ _ _ read (λ ending fine. (fine, first_bad so_far.lines line _ _ _ so_far.number text_is so_far.are (rw c.in-Ok-Err.field-0-is at c.in-Ok-Err.ensures.read)))

pub lines-preserved : goal.lines-preserved
lines-preserved g c =
    let so_far = c.lines.invariant.so_far in
    let line = c.in-Ok-Line.line.items in
    let goes = rw c.in-Ok-Line.field-0-is at c.in-Ok-Line.ensures.goes_on in
    let faults = rw c.in-Ok-Line.field-0-is at c.in-Ok-Line.ensures.faults in
    let text_is = c.without_end.ensures ∙ ap without_terminator c.as_slice.ensures.value in
    let read = one_so_far _ _ _ _ _ _ so_far.lines line so_far.read (λ left before h. rw c.in-Ok-Line.field-0-is at (c.in-Ok-Line.ensures.reads left before h)) goes.0 in
    let counted : c.lines.events + c.from-events.result ≡ c.lines.events + cond c.in-Ok-Ok.holds 1 0 = ap (λ n. c.lines.events + n) (c.from-events.ensures ∙ bool_as c.in-Ok-Ok.holds) in
    let on = checked_on _ _ _ _ _ _ line _ c.in-Ok-Ok.holds c.lines.number c.lines.events (c.lines.events + c.from-events.result) so_far read text_is (rw c.in-Ok-Ok.field-0-is at c.in-Ok-Ok.ensures.read) counted in
    record {
      so_far = on;
      reader = goes.1.sound;
      fewer = omega (arith, goes.1.fewer, c.lines.invariant.fewer);
      few = on.few;
      steady = (faults.0 ∙ c.lines.invariant.steady.0, faults.1 ∙ c.lines.invariant.steady.1);
    }
