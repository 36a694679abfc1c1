use Rattle.std.proofs.lemmas.Result.{err_from_is_err_and}
use Rattle.rina_flows.proofs.Offered.{offer_refused}
use Rattle.rina_flows.proofs.flows.offer_noted.Goals as goal

pub returns-in_err-made : goal.returns-in_err-made
returns-in_err-made c =
    let p = err_from_is_err_and c.from_residual-in_err-made.result c.from_residual-in_err-made.ensures.1 in
    rw (p.1, p.2) (offer_refused c.args.now c.args.at c.args.sdu.now c.in_err-made.field-0.0 c.args.conns.now c.offer.new.self c.args.sent.now.items c.reserve.new.self.items c.in_err-made.ensures c.reserve.ensures.items)
