use Rattle.std.proofs.Common.{length-set}
use Rattle.rina_data.proofs.Finding.{there}
use Rattle.rina_flows.proofs.Offered.{offers_from}
use Rattle.rina_flows.proofs.Elsewhere.{by_offer, taken_sent}
use Rattle.rina_flows.proofs.flows.Flows.offer.Goals as goal

pub put_sent-requires : goal.put_sent-requires
put_sent-requires c = (let f = there c.args.self.now.journal.ends c.args.at c.requires.end in rw (c.take_sent-sent.ensures.rest f.0 f.1, length-set) c.requires.end)

pub returns-clause-offers : goal.returns-clause-offers
returns-clause-offers c = offers_from c.args.now c.args.at c.args.sdu.now c.args.self.now.journal.ends c.take_sent-sent.new.self c.put_sent.new.self c.args.self.now.conns c.offer_noted-result.new.conns c.take_sent-sent.result.items c.offer_noted-result.new.sent.items c.offer_noted-result.result c.requires.end c.requires.conn c.take_sent-sent.ensures.sent c.take_sent-sent.ensures.rest c.offer_noted-result.ensures c.put_sent.ensures

pub returns-clause-leaves : goal.returns-clause-leaves
returns-clause-leaves c = (
  taken_sent c.args.self.now.journal.ends c.take_sent-sent.new.self c.put_sent.new.self c.args.at c.offer_noted-result.new.sent.items c.requires.end c.take_sent-sent.ensures.rest c.put_sent.ensures,
  by_offer c.args.now c.args.at c.args.sdu.now c.args.self.now.conns c.take_sent-sent.result.items c.offer_noted-result.result c.offer_noted-result.new.conns c.offer_noted-result.new.sent.items c.requires.conn c.offer_noted-result.ensures,
)
