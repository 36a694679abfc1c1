use Rattle.std.proofs.Common.{ap, Err, sym, ◌∙◌}
use Rattle.std.proofs.lemmas.Result.{err_from_is_err_and}
use Rattle.rina_io.proofs.Chunks.{cut_off, filled}
use Rattle.rina_io.proofs.line_reader.LineReader.next_line.Goals as goal

pub returns-in_err-refill-clause-gives : goal.returns-in_err-refill-clause-gives
returns-in_err-refill-clause-gives g c =
    let p = err_from_is_err_and c.from_residual.result c.from_residual.ensures.1 in
    rw (p.1 ∙ ap Err p.2) (sym (ap (λ r. r.over) c.self.view_is) ∙ c.if-self.false, cut_off _ _ _ _ _ _ _ _ _ c.chunks.invariant.so_far (rw c.if-found.false at c.in-Ok.ensures) c.in_err-refill.ensures.refills)

pub chunks-preserved : goal.chunks-preserved
chunks-preserved g c = record {
  so_far = filled _ _ _ _ _ _ _ _ _ c.chunks.invariant.so_far (rw c.if-found.false at c.in-Ok.ensures) (rw c.if-not-branch.false at c.in_ok-refill.ensures.refills);
  fine = c.in_ok-refill.ensures.faults.0 ∙ c.chunks.invariant.fine;
  steady = c.in_ok-refill.ensures.faults.1 ∙ c.chunks.invariant.steady;
}
