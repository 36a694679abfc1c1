use Rattle.std.proofs.Common.{sym, arith}
use Rattle.rina_dtp.proofs.Used.{none_used}
use Rattle.rina_dtp.proofs.shelf.Shelf.restart.Goals as goal

pub invariant_of-self : goal.invariant_of-self
invariant_of-self c = (omega arith, omega arith, omega arith, c.free_all.ensures.room, sym (none_used _ c.free_all.ensures.unused))
