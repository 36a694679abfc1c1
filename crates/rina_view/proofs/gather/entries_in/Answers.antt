use Rattle.std.proofs.Common.{sym, ◌∙◌}
use Rattle.rina_view.proofs.Shows.{entries_end, entry_on}
use Rattle.rina_view.proofs.gather.entries_in.Goals as goal

pub notes-preserved : goal.notes-preserved
notes-preserved c = rw c.in_ok-add.ensures (entry_on c.args.kind c.args.notes.now c.notes.note-index c.note-item.result c.entry_of.result c.notes.entries _ c.notes-test.true c.note-item.is (sym c.if-is_end.false ∙ c.is_end.ensures) c.entry_of.ensures c.notes.invariant)

pub returns-then-is_end : goal.returns-then-is_end
returns-then-is_end c = entries_end c.args.kind c.args.notes.now c.notes.note-index c.note-item.result c.notes.entries _ c.notes-test.true c.note-item.is (sym c.if-is_end.true ∙ c.is_end.ensures) c.notes.invariant
