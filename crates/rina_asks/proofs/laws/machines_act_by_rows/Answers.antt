use Rattle.rina_asks.proofs.Answering.{answer_row, heard_row, late_row, ended_row, far_ended_row}
use Rattle.rina_asks.proofs.laws.machines_act_by_rows.Goals as goal

pub returns : goal.returns
returns c = record { asked = answer_row; heard = heard_row; late = late_row; ended = ended_row; far_ended = far_ended_row }
