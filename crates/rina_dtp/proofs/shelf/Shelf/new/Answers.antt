use Rattle.std.proofs.Common.{sym, arith}
use Rattle.rina_dtp.proofs.Used.{none_used}
use Rattle.rina_dtp.proofs.shelf.Shelf.new.Goals as goal

pub invariant_of-result : goal.invariant_of-result
invariant_of-result c = (let count = c.in_ok-make_places.ensures.count in let least = c.requires.least in let most = c.requires.most in (omega (arith, count, least), omega arith, omega (arith, count, most), c.in_ok-make_places.ensures.room, sym (none_used _ c.in_ok-make_places.ensures.unused)))
