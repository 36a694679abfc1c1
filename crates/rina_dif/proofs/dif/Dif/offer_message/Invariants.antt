-- So far no message is due, and nothing has changed.
use Rattle.rina_dif.proofs.Among.{NoneBefore}
use Rattle.rina_dif.proofs.dif.Dif.offer_message.Given as goal

abbrev pub invariant-loop-number : goal.invariant-loop-number
invariant-loop-number g l = NoneBefore l.fn.self l.self (g.F.Facility.seen l.below) l.at l.number
