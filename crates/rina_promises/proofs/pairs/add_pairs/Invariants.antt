-- So far the texts of these members were appended.
use Rattle.std.proofs.Common.{take}
use Rattle.rina_promises.specs.Pairs.{IsFromText}
use Rattle.rina_promises.specs.Promises.{AddsText, AreTexts}
use Rattle.rina_promises.proofs.pairs.add_pairs.Given as goal

abbrev pub invariant-members : goal.invariant-members
invariant-members l = AddsText (AreTexts (IsFromText l.nodes l.fac l.there.below.now l.there.dif.now) (take l.from-index l.there.dif.now.settings.members)) l.fn.text l.text
