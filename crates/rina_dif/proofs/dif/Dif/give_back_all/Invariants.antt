-- So far these ids were given back.
use Rattle.std.proofs.Common.{◌≡◌}
use Rattle.rina_dif.specs.IdRests.{GaveFirst}
use Rattle.rina_dif.proofs.dif.Dif.give_back_all.Given as goal

abbrev pub invariant-loop-at : goal.invariant-loop-at
invariant-loop-at l = GaveFirst l.home l.fn.self.clock l.rests l.at l.fn.self.ids l.self.ids × (l.self ≡ record l.fn.self { ids = l.self.ids })
