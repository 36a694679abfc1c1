use Rattle.std.proofs.Common.{◌≡◌, ◌++◌, drop}
use Rattle.std.specs.List.{flat_map}
use Rattle.rina_view.specs.Texts.{end_sum}
use Rattle.rina_view.proofs.table.all_sums.Given as goal

abbrev pub invariant-ends : goal.invariant-ends
invariant-ends l = l.text ++ flat_map (end_sum l.ends l.offs) (drop l.end-index l.ends) ≡ l.initial.text ++ flat_map (end_sum l.ends l.offs) l.ends
