use Rattle.std.proofs.Common.{option_map, sym, ◌∙◌, Bor, List}
use Rattle.rina_account.specs.declared.ledger.Off.{Off}
use Rattle.rina_words.proofs.Leading.{accounting_from, are_offs}
use Rattle.rina_words.proofs.ledger.ledger.Goals as goal

pub returns-clause-does : goal.returns-clause-does
returns-clause-does c =
    accounting_from c.args.line.now.plan.now c.args.line.now.number c.tick_of-tick.result c.args.run.now c.in-Ok.site _ (option_map (λ (s : Bor (List Off)). s.now) c.ledger-offs.result) _ _ c.tell_ledger.result (sym c.find_dif_site.ensures ∙ c.in-Ok.is) (are_offs c.args.run.now.tower c.in-Ok.site c.ledger-offs.result c.ledger-offs.ensures) c.tick_of-tick.ensures c.tell_ledger.ensures.ok
