use Rattle.rina_dif.proofs.LateAsks.{WaitBefore}
use Rattle.rina_dif.proofs.dif.Dif.asks_wait_until.Given as goal

abbrev pub invariant-loop-which : goal.invariant-loop-which
invariant-loop-which l = WaitBefore l.which l.self l.until
