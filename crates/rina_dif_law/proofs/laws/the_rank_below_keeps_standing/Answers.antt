use Rattle.rina_dif_law.proofs.Others.{ins_other, outs_other, send_of_others, stands_beside}
use Rattle.rina_dif_law.proofs.Taking.{lifted_stands}
use Rattle.rina_dif_law.proofs.laws.the_rank_below_keeps_standing.Goals as goal

pub returns-clause-time : goal.returns-clause-time
returns-clause-time c = lifted_stands

pub returns-clause-beside : goal.returns-clause-beside
returns-clause-beside c = stands_beside

pub returns-clause-send : goal.returns-clause-send
returns-clause-send c = send_of_others

pub returns-clause-out : goal.returns-clause-out
returns-clause-out c = outs_other

pub returns-clause-in_ : goal.returns-clause-in_
returns-clause-in_ c = ins_other
