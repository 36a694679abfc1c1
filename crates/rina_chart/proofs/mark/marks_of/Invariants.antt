use Rattle.std.proofs.Common.{◌≡◌, ◌++◌, drop}
use Rattle.std.specs.List.{filter_map}
use Rattle.rina_chart.specs.Marks.{mark_at}
use Rattle.rina_chart.proofs.mark.marks_of.Given as goal

abbrev pub invariant-notes : goal.invariant-notes
invariant-notes l = l.marks ++ filter_map (mark_at l.fac l.nodes) (drop l.note-index l.notes) ≡ filter_map (mark_at l.fac l.nodes) l.notes
