use Rattle.std.proofs.Common.{sym, ◌∙◌}
use Rattle.rina_words.proofs.Asking.{allocating_from}
use Rattle.rina_words.proofs.flow.allocate.Goals as goal

pub returns-clause-does : goal.returns-clause-does
returns-clause-does c = allocating_from _ _ _ _ _ _ _ _ c.in-Ok.site c.in_ok-ask.ask _ _ (sym c.in-Ok.is ∙ c.find_site.ensures) (sym c.has.ensures ∙ c.if-has.false) c.in_ok-ask.ensures c.call_allocate.ensures.does
