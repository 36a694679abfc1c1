use Rattle.std.proofs.Common.{length-set, sym, subst}
use Rattle.rina_base.specs.Pdus.{pdu_of}
use Rattle.rina_data.proofs.Finding.{there}
use Rattle.rina_dtp.specs.Stands.{IsAhead}
use Rattle.rina_flows.proofs.Landed.{arrives_from}
use Rattle.rina_flows.proofs.Elsewhere.{by_landing, taken_got}
use Rattle.rina_flows.proofs.flows.Flows.on_data.Goals as goal

pub put_got-requires : goal.put_got-requires
put_got-requires c = (let f = there c.args.self.now.journal.ends c.args.at c.requires.end in rw (c.take_got.ensures.rest f.0 f.1, length-set) c.requires.end)

pub returns-clause-arrives : goal.returns-clause-arrives
returns-clause-arrives c =
    let ahead = subst (λ b. IsAhead c.args.now (pdu_of c.args.pdu.now) c.unpassed-unpassed.result c.at.result.now.rx b) (sym c.into_vec-bodies.ensures) c.in_ok-bodies.ensures in
    arrives_from c.args.now c.args.at (pdu_of c.args.pdu.now) c.args.self.now.journal.ends c.take_got.new.self c.put_got.new.self c.args.self.now.conns c.receive_with_room-result.new.self c.args.ledger.now c.put.new.self c.unpassed-unpassed.result c.into_vec-bodies.result.items c.at.result.now c.take_got.result.items c.receive_with_room-result.new.notes.got.items c.take.result.items c.receive_with_room-result.new.notes.lines.items c.receive_with_room-result.result c.requires.end c.requires.conn c.unpassed-unpassed.ensures c.at.ensures ahead c.take_got.ensures.got c.take_got.ensures.rest c.take.ensures.lines c.receive_with_room-result.ensures c.put_got.ensures c.put.ensures

pub returns-clause-leaves : goal.returns-clause-leaves
returns-clause-leaves c = (
  taken_got c.args.self.now.journal.ends c.take_got.new.self c.put_got.new.self c.args.at c.receive_with_room-result.new.notes.got.items c.requires.end c.take_got.ensures.rest c.put_got.ensures,
  by_landing c.args.now (pdu_of c.args.pdu.now) c.unpassed-unpassed.result c.args.at c.into_vec-bodies.result.items c.args.self.now.conns c.take_got.result.items c.take.result.items c.receive_with_room-result.result c.receive_with_room-result.new.self c.receive_with_room-result.new.notes.got.items c.receive_with_room-result.new.notes.lines.items c.requires.conn c.receive_with_room-result.ensures,
)
