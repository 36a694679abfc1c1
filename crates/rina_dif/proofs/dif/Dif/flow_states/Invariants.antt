-- So far these ends were told.
use Rattle.std.proofs.Common.{◌≡◌, length}
use Rattle.rina_dif.proofs.Told.{AreSoFar}
use Rattle.rina_dif.proofs.dif.Dif.flow_states.Given as goal

abbrev pub invariant-loop-at : goal.invariant-loop-at
invariant-loop-at l = record {
  count : length l.states.items ≡ l.at;
  each : AreSoFar l.self.clock l.self.flows.journal.ends l.self.flows.conns l.states.items;
}
