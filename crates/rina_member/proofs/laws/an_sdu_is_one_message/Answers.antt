use Rattle.rina_member.proofs.Handled.{flow_news, new_news, old_news}
use Rattle.rina_member.proofs.TextsApart.{texts_apart}
use Rattle.rina_member.proofs.laws.an_sdu_is_one_message.Goals as goal

pub returns-clause-news : goal.returns-clause-news
returns-clause-news c = new_news

pub returns-clause-old : goal.returns-clause-old
returns-clause-old c = old_news

pub returns-clause-flows : goal.returns-clause-flows
returns-clause-flows c = flow_news

pub returns-clause-apart : goal.returns-clause-apart
returns-clause-apart c = texts_apart
