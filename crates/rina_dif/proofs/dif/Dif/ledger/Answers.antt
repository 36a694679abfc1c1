use Rattle.std.proofs.Common.{◌∙◌, sym}
use Rattle.rina_dif.proofs.Written.{ledger_is, no_ledger}
use Rattle.rina_dif.proofs.dif.Dif.ledger.Goals as goal

pub unreachable-requires : goal.unreachable-requires
unreachable-requires c = no_ledger c.args.self.now c.in_ok-home.home c.requires c.in_ok-home.ensures.within c.in_default.ensures

pub returns : goal.returns
returns c = ledger_is c.args.self.now c.args.node c.in_ok-home.home c.in-Some.process.now c.lines.result.now (sym c.place_at_node.ensures.place ∙ c.in_ok-home.was) c.in-Some.ensures c.lines.ensures
