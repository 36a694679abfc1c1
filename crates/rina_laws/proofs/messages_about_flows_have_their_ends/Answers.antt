use Rattle.rina_laws.proofs.KeptRun.{messages_have_ends}
use Rattle.rina_laws.proofs.messages_about_flows_have_their_ends.Goals as goal

pub returns : goal.returns
returns c = messages_have_ends
