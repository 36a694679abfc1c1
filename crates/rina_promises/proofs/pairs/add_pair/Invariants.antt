-- So far the texts of these cubes were appended.
use Rattle.std.proofs.Common.{take}
use Rattle.rina_promises.specs.Pairs.{IsWayText}
use Rattle.rina_promises.specs.Promises.{AddsText, AreTexts}
use Rattle.rina_promises.proofs.pairs.add_pair.Given as goal

abbrev pub invariant-cubes : goal.invariant-cubes
invariant-cubes l = AddsText (AreTexts (IsWayText l.nodes l.fac l.there.below.now l.there.dif.now l.from l.to) (take l.cube-index l.there.dif.now.settings.cubes)) l.fn.text l.text
