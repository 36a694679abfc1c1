use Rattle.std.proofs.Common.{arith}
use Rattle.std.proofs.lemmas.Result.{err_from_is_err_and}
use Rattle.rina_view.proofs.LinesLent.{line_on, line_stops, lines_done}
use Rattle.rina_view.proofs.read.all_notes.Goals as goal

pub returns-in_err-note : goal.returns-in_err-note
returns-in_err-note c =
    let p = err_from_is_err_and c.from_residual.result c.from_residual.ensures.1 in
    rw (p.1, p.2) (line_stops c.args.lines.now c.lines.line-index c.lines.number _ c.lines.notes c.in_err-note.field-0.0 _ c.lines-test.true c.in_err-note.ensures c.lines.invariant.read)

pub lines-preserved : goal.lines-preserved
lines-preserved c = record {
  place = omega (arith, c.lines.invariant.place);
  read = rw c.in_ok-push.ensures.ok (line_on c.args.lines.now c.lines.line-index c.lines.number _ c.lines.notes c.in_ok-note.note _ c.lines-test.true c.in_ok-note.ensures c.lines.invariant.read);
}

pub returns : goal.returns
returns c = lines_done c.args.lines.now c.lines.line-index c.lines.number c.lines.notes _ c.lines-test.false c.lines.invariant.read
