-- So many SDUs of the end were passed.
use Rattle.std.proofs.Common.{◌≡◌}
use Rattle.rina_dif.proofs.Passing.{HavePassedAll, with_links}
use Rattle.rina_dif.proofs.dif.Dif.pass_messages.Given as goal

abbrev pub invariant-turns : goal.invariant-turns
invariant-turns l = record {
  passed : HavePassedAll l.fn.self l.place l.counter l.self.connections.flows;
  only : l.self ≡ with_links l.fn.self l.self.connections.flows;
}
