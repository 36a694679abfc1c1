-- What is retained are the messages that do not wait for the link.
use Rattle.std.proofs.Common.{not, rules, ◌==◌}
use Rattle.std.proofs.lemmas.Fn.{filter_same}
use Rattle.rina_agent.specs.declared.message.Waiting.{Waiting}
use Rattle.rina_agent.proofs.agenda.keep_others.Goals as goal

pub returns : goal.returns
returns c = filter_same _ (λ (w : Waiting). not (w.link == c.args.link)) _ (λ x b f' k. search rules) _ _ c.retain.ensures.filtered
