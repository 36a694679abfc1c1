-- So far the texts of these DIFs were appended.
use Rattle.std.specs.List.{range_with_len}
use Rattle.rina_promises.specs.Promises.{AddsText, AreTexts, IsDifText}
use Rattle.rina_promises.proofs.table.add_difs.Given as goal

abbrev pub invariant-difs : goal.invariant-difs
invariant-difs l = AddsText (AreTexts (IsDifText l.plan l.tower) (range_with_len 0 l.at)) l.fn.text l.text
