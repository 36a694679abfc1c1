use Rattle.std.proofs.Common.{sym, ◌∙◌, refl, None, Some}
use Rattle.rina_dtp.proofs.Senders.{is_next}
use Rattle.rina_dtp.proofs.numbers.Numbers.next.Goals as goal

pub returns-then-is_absent : goal.returns-then-is_absent
returns-then-is_absent c = is_next c.args.now c.args.idle c.args.delta c.args.self.now None (rw (sym c.is_absent.ensures ∙ c.if-is_absent.true) refl)

pub returns-else-is_absent : goal.returns-else-is_absent
returns-else-is_absent c = is_next c.args.now c.args.idle c.args.delta c.args.self.now (Some c.args.self.now.next) (rw (sym c.is_absent.ensures ∙ c.if-is_absent.false) refl)
