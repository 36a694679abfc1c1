use Rattle.std.proofs.Common.{ap, arith, ◌∙◌, refl, Err, inr}
use Rattle.std.proofs.lemmas.Result.{err_from_is_err_and}
use Rattle.bstr.specs.Text.{without_terminator}
use Rattle.rina_run.specs.Reading.{Broken, Lost}
use Rattle.rina_run.proofs.Ending.{wrote_nothing}
use Rattle.rina_run.proofs.Playing.{line_on, none_played, stops_at, stopped_in}
use Rattle.rina_run.proofs.ReadOn.{all_behind, broken_behind, enough_behind, one_so_far}
use Rattle.rina_run.proofs.lines.play.Goals as goal

pub lines-init : goal.lines-init
lines-init g c = record {
  so_far = none_played _ _ _ _ _ _ c.requires.none refl;
  reader = c.requires.reader;
  fewer = omega arith;
  sound = c.requires.sound;
  names = refl;
  wrote = wrote_nothing _ _ c.requires.none;
  fine = (refl, refl);
  steady = (refl, refl);
}

pub returns-in-Ok-End-clause-does : goal.returns-in-Ok-End-clause-does
returns-in-Ok-End-clause-does g c =
    all_behind _ _ _ _ _ _ c.lines.invariant.so_far.lines _ c.lines.invariant.so_far.read (λ left before h. rw c.in-Ok-End.field-0-is at (c.in-Ok-End.ensures.reads left before h)) (refl, c.lines.invariant.so_far.runs)

pub returns-in-Ok-Broken-clause-does : goal.returns-in-Ok-Broken-clause-does
returns-in-Ok-Broken-clause-does g c =
    broken_behind _ _ _ _ _ c.lines.invariant.so_far.lines (Broken c.in-Ok-Broken.fault) _ c.lines.invariant.so_far.read (λ left before h. rw c.in-Ok-Broken.field-0-is at (c.in-Ok-Broken.ensures.reads left before h)) (rw c.in-Ok-Broken.field-0-is at c.in-Ok-Broken.ensures.goes_on) (refl, c.lines.invariant.so_far.runs)

pub returns-in-Err-clause-does : goal.returns-in-Err-clause-does
returns-in-Err-clause-does g c =
    broken_behind _ _ _ _ _ c.lines.invariant.so_far.lines Lost _ c.lines.invariant.so_far.read (λ left before h. c.in-Err.ensures.reads left before h) c.in-Err.ensures.goes_on (inr (refl, c.lines.invariant.so_far.runs))

pub returns-in_err-error-clause-does : goal.returns-in_err-error-clause-does
returns-in_err-error-clause-does g c =
    let p = err_from_is_err_and c.from_residual.result c.from_residual.ensures.1 in
    let so_far = c.lines.invariant.so_far in
    let line = c.in-Ok-Line.text.items in
    let goes = rw c.in-Ok-Line.field-0-is at c.in-Ok-Line.ensures.goes_on in
    let text_is = c.without_end-text.ensures ∙ ap without_terminator c.as_slice.ensures.value in
    let read = one_so_far _ _ _ _ _ _ so_far.lines line so_far.read (λ left before h. rw c.in-Ok-Line.field-0-is at (c.in-Ok-Line.ensures.reads left before h)) goes.0 in
    enough_behind _ _ _ _ _ _ read (λ ending fine. rw (p.1 ∙ ap Err p.2) (stopped_in _ _ _ _ so_far.lines line _ _ _ _ c.in_err-error.field-0.0 ending so_far.number text_is so_far.runs c.in_err-error.ensures.does fine))

pub returns-in-Some-clause-does : goal.returns-in-Some-clause-does
returns-in-Some-clause-does g c =
    let so_far = c.lines.invariant.so_far in
    let line = c.in-Ok-Line.text.items in
    let goes = rw c.in-Ok-Line.field-0-is at c.in-Ok-Line.ensures.goes_on in
    let text_is = c.without_end-text.ensures ∙ ap without_terminator c.as_slice.ensures.value in
    let read = one_so_far _ _ _ _ _ _ so_far.lines line so_far.read (λ left before h. rw c.in-Ok-Line.field-0-is at (c.in-Ok-Line.ensures.reads left before h)) goes.0 in
    enough_behind _ _ _ _ _ _ read (λ ending fine. (fine, stops_at _ _ _ _ so_far.lines line _ _ _ _ _ so_far.number text_is so_far.runs (rw c.in-Some.is at c.in_ok-error.ensures.does)))

pub lines-preserved : goal.lines-preserved
lines-preserved g c =
    let so_far = c.lines.invariant.so_far in
    let line = c.in-Ok-Line.text.items in
    let goes = rw c.in-Ok-Line.field-0-is at c.in-Ok-Line.ensures.goes_on in
    let faults = rw c.in-Ok-Line.field-0-is at c.in-Ok-Line.ensures.faults in
    let text_is = c.without_end-text.ensures ∙ ap without_terminator c.as_slice.ensures.value in
    let read = one_so_far _ _ _ _ _ _ so_far.lines line so_far.read (λ left before h. rw c.in-Ok-Line.field-0-is at (c.in-Ok-Line.ensures.reads left before h)) goes.0 in
    record {
      so_far = line_on _ _ _ _ _ _ _ _ _ _ line _ _ _ _ so_far read text_is (rw c.in_default.is at c.in_ok-error.ensures.does);
      reader = goes.1.sound;
      fewer = omega (arith, goes.1.fewer, c.lines.invariant.fewer);
      sound = c.in_ok-error.ensures.sound;
      names = c.in_ok-error.ensures.names ∙ c.lines.invariant.names;
      wrote = c.in_ok-error.ensures.ok (g.K.Sink.took c.args.out.now) c.lines.invariant.wrote;
      fine = (c.in_ok-error.ensures.faults.0 ∙ c.lines.invariant.fine.0, c.in_ok-error.ensures.faults.1 ∙ c.lines.invariant.fine.1);
      steady = (faults.0 ∙ c.lines.invariant.steady.0, faults.1 ∙ c.lines.invariant.steady.1);
    }
