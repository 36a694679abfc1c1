-- So far the texts of these flows were appended.
use Rattle.std.proofs.Common.{take}
use Rattle.rina_promises.specs.Promises.{AddsText, AreTexts, IsFlowText}
use Rattle.rina_promises.proofs.table.add_flows.Given as goal

abbrev pub invariant-flows : goal.invariant-flows
invariant-flows l = AddsText (AreTexts (IsFlowText l.plan l.tower l.at l.dif) (take l.flow-index l.dif.flows)) l.fn.text l.text
