use Rattle.std.proofs.Common.{◌≡◌, ◌++◌, drop}
use Rattle.std.specs.List.{flat_map}
use Rattle.rina_view.specs.Texts.{row_text}
use Rattle.rina_view.proofs.table.end_lines.Given as goal

abbrev pub invariant-rows : goal.invariant-rows
invariant-rows l = l.text ++ flat_map (row_text l.offs l.end) (drop l.row-index l.rows) ≡ l.initial.text ++ flat_map (row_text l.offs l.end) l.rows
