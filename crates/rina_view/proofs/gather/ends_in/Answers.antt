use Rattle.std.proofs.Common.{◌+◌, ap, drop, ◌∙◌}
use Rattle.rina_view.specs.Shown.{end_at}
use Rattle.rina_view.proofs.Shows.{end_on}
use Rattle.rina_view.proofs.gather.ends_in.Goals as goal

pub notes-preserved : goal.notes-preserved
notes-preserved c =
    let behind = c.notes_behind.ensures ∙ ap (λ n. drop (n + 1) c.args.notes.now) c.notes.invariant.place in
    record {
      place = ap (λ n. n + 1) c.notes.invariant.place;
      shown = rw c.in_ok-add.ensures (end_on c.args.notes.now c.notes.note-index c.note-item.result c.in_ok-end.end c.notes.ends _ c.notes-test.true c.note-item.is (c.in_ok-end.ensures ∙ ap (end_at c.note-item.result) behind) c.notes.invariant.shown);
    }
