use Rattle.rina_dif.proofs.Warrants.{clocks_write, frees_write, ins_at_write, outs_at_write, passes_write, sends_write}
use Rattle.rina_dif.proofs.write_offs.each_call_writes_off_with_cause.Goals as goal

pub returns-clause-out : goal.returns-clause-out
returns-clause-out c = outs_at_write

pub returns-clause-in_ : goal.returns-clause-in_
returns-clause-in_ c = ins_at_write

pub returns-clause-clock : goal.returns-clause-clock
returns-clause-clock c = clocks_write

pub returns-clause-free : goal.returns-clause-free
returns-clause-free c = frees_write

pub returns-clause-send : goal.returns-clause-send
returns-clause-send c = sends_write

pub returns-clause-pass : goal.returns-clause-pass
returns-clause-pass c = passes_write
