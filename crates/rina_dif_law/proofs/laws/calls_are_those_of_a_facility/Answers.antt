use Rattle.rina_dif_law.proofs.Facades.{offers_send, passed_there}
use Rattle.rina_dif_law.proofs.laws.calls_are_those_of_a_facility.Goals as goal

pub returns-clause-send : goal.returns-clause-send
returns-clause-send c = offers_send

pub returns-clause-pass : goal.returns-clause-pass
returns-clause-pass c = passed_there
