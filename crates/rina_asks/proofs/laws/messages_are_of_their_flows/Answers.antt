use Rattle.rina_asks.proofs.Owning.{one_message, ask_own, yes_own, refused_none, delete_of_flow, answer_matched, names_apart}
use Rattle.rina_asks.proofs.laws.messages_are_of_their_flows.Goals as goal

pub returns : goal.returns
returns c = record { one = one_message; ask = ask_own; yes = yes_own; refused = refused_none; delete = delete_of_flow; matched = answer_matched; names = names_apart }
