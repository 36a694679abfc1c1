-- The shelf keeps its names.
use Rattle.rina_words.proofs.Retiring.{names_stay}
use Rattle.rina_words.proofs.policy.retire.Goals as goal

pub returns-clause-names : goal.returns-clause-names
returns-clause-names g c = names_stay c.withdraw-answer.result _ _ _ c.withdraw-answer.ensures.ok c.withdraw-answer.ensures.err
