use Rattle.std.proofs.Common.{sym, ◌∙◌}
use Rattle.rina_cdap.proofs.Written.{spells_written}
use Rattle.rina_cdap.proofs.Spelled.{one_message}
use Rattle.rina_cdap.proofs.laws.what_is_read_is_spelled_so.Goals as goal

pub returns-clause-written : goal.returns-clause-written
returns-clause-written c = λ m bytes reads. spells_written m bytes reads

pub returns-clause-one_spelling : goal.returns-clause-one_spelling
returns-clause-one_spelling c = λ m bytes others p q. p.spelled ∙ sym q.spelled

pub returns-clause-one_message : goal.returns-clause-one_message
returns-clause-one_message c = one_message
