use Rattle.std.proofs.Common.{◌≡◌, ◌+◌, ◌++◌, drop}
use Rattle.rina_dtcp.specs.Senders.{sents_from}
use Rattle.rina_dtcp.proofs.tx.copies.Given as goal

abbrev pub invariant-loop-i : goal.invariant-loop-i
invariant-loop-i l = l.sents.items ++ sents_from l.least l.now (l.seq + l.i) (drop l.i l.pdus) ≡ sents_from l.least l.now l.seq l.pdus
