use Rattle.std.proofs.Common.{sym, ◌∙◌}
use Rattle.rina_view.proofs.Writing.{tells_read}
use Rattle.rina_view.proofs.lost.view.Goals as goal

pub returns-in-None : goal.returns-in-None
returns-in-None g c = tells_read _ _ _ _ _ _ (sym c.word_fault.ensures ∙ c.in-None.is) c.lost.ensures
