use Rattle.std.proofs.Common.{refl}
use Rattle.rina_conn.proofs.sending.Sending.take_numbers.Goals as goal

pub returns-in-Ok-clause-numbers : goal.returns-in-Ok-clause-numbers
returns-in-Ok-clause-numbers c = (c.idle.result, c.idle.ensures, rw c.delta.ensures.delta at c.in-Ok.ensures.taken)

pub returns-in-Err-clause-numbers : goal.returns-in-Err-clause-numbers
returns-in-Err-clause-numbers c = (c.idle.result, c.in-Err.spent, c.take.new.self, c.idle.ensures, rw c.delta.ensures.delta at c.in-Err.ensures.taken, refl)
