use Rattle.rina_dif.proofs.Moves.{holds_later, later_silent}
use Rattle.rina_dif.proofs.dif.Dif.clock_to.Goals as goal

pub returns-clause-keeps : goal.returns-clause-keeps
returns-clause-keeps c = rw (c.settle.ensures, c.settle-2.ensures) (λ lines below below' kept lifted clock h. holds_later c.args.self.now c.args.now lines below below' c.requires kept lifted clock h)

pub returns-clause-silent : goal.returns-clause-silent
returns-clause-silent c = rw c.settle.ensures (later_silent c.args.self.now c.args.now c.requires)
