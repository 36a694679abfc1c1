use Rattle.std.proofs.Common.{sym, ◌∙◌}
use Rattle.rina_enrol.proofs.Guesses.{one_message}
use Rattle.rina_enrol.proofs.Proper.{can_be_written}
use Rattle.rina_enrol.proofs.laws.a_message_has_one_spelling.Goals as goal

pub returns-clause-one_spelling : goal.returns-clause-one_spelling
returns-clause-one_spelling c = λ m bytes others p q. p.spelled ∙ sym q.spelled

pub returns-clause-one_message : goal.returns-clause-one_message
returns-clause-one_message c = one_message

pub returns-clause-written : goal.returns-clause-written
returns-clause-written c = can_be_written
