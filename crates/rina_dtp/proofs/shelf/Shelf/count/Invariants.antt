use Rattle.std.proofs.Common.{◌≡◌, ◌-◌, ◌≤◌, length, filter}
use Rattle.rina_dtp.specs.Lost.{numbers_from}
use Rattle.rina_dtp.specs.Shelf.{holds}
use Rattle.rina_dtp.proofs.shelf.Shelf.count.Given as goal

abbrev pub invariant-loop-number : goal.invariant-loop-number
invariant-loop-number l = (l.count ≡ length (filter (holds l.self.places) (numbers_from l.self.next (l.number - l.self.next)))) × (l.count ≤ l.number - l.self.next)
