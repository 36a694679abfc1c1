use Rattle.rina_dif.proofs.Clocked.{idle, then_again}
use Rattle.rina_dif.proofs.dif.Dif.next_due.Goals as goal

pub returns-then-are_quiet : goal.returns-then-are_quiet
returns-then-are_quiet c = c.are_quiet.ensures c.if-are_quiet.true

pub returns-in-Some-first_due-3 : goal.returns-in-Some-first_due-3
returns-in-Some-first_due-3 c = λ lines below h.
    then_again c.args.self.now lines c.args.node c.in-Some-first_due-3.turn (c.in_default.ensures lines below h) (c.in_default-first_due.ensures lines below h) (c.in_default-first_due-2.ensures lines below h) (c.in-Some-first_due-3.ensures lines below h)

pub returns : goal.returns
returns c = λ lines below h.
    idle c.args.self.now lines c.args.node (c.in_default.ensures lines below h) (c.in_default-first_due.ensures lines below h) (c.in_default-first_due-2.ensures lines below h) (c.in_default-first_due-3.ensures lines below h)
