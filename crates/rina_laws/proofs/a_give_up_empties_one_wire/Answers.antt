use Rattle.rina_laws.proofs.FramesFreed.{give_ups_empty}
use Rattle.rina_laws.proofs.a_give_up_empties_one_wire.Goals as goal

pub returns : goal.returns
returns c = give_ups_empty
