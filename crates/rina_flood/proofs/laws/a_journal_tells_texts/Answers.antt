use Rattle.rina_flood.proofs.Journals.{offers_add, passes_add, arrivals_add_none, others_add_none}
use Rattle.rina_flood.proofs.laws.a_journal_tells_texts.Goals as goal

pub returns-clause-offers : goal.returns-clause-offers
returns-clause-offers c = offers_add

pub returns-clause-passes : goal.returns-clause-passes
returns-clause-passes c = passes_add

pub returns-clause-arrivals : goal.returns-clause-arrivals
returns-clause-arrivals c = arrivals_add_none

pub returns-clause-others : goal.returns-clause-others
returns-clause-others c = others_add_none
