use Rattle.rina_laws.proofs.KeptRun.{asks_are_alone}
use Rattle.rina_laws.proofs.one_ask_for_a_flow_is_on_its_way.Goals as goal

pub returns : goal.returns
returns c = asks_are_alone
