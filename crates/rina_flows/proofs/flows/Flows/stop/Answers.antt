use Rattle.std.proofs.Common.{◌∙◌, arith}
use Rattle.std.specs.Vec.{vec_capacity}
use Rattle.rina_flows.proofs.Stopped.{stops_from}
use Rattle.rina_iface.specs.State.{with_state}
use Rattle.rina_iface.specs.declared.ends.End.{End}
use Rattle.rina_flows.specs.Delivering.{GivesUpAll, closed}
use Rattle.rina_flows.proofs.Elsewhere.{by_becoming, by_change}
use Rattle.rina_flows.proofs.flows.Flows.stop.Goals as goal

pub returns-in-Ok-clause-stops : goal.returns-in-Ok-clause-stops
returns-in-Ok-clause-stops c =
    let wide = c.in-Ok.ensures.ok in
    let count = c.reserve.new.self.ok.0 in
    stops_from c.args.now c.args.at c.args.state c.args.self.now.journal.ends c.set_state.new.self c.args.self.now.conns c.close.new.self c.args.ledger.now c.put.new.self c.reserve.new.self.items c.close.new.lines.items (vec_capacity c.reserve.new.self) c.kept-kept.result c.at.result.now c.at.ensures c.kept-kept.ensures.count (c.reserve.ensures.items ∙ c.take-lines.ensures.lines) (omega arith) c.close.ensures.becomes c.put.ensures c.set_state.ensures

pub returns-in-Ok-clause-leaves : goal.returns-in-Ok-clause-leaves
returns-in-Ok-clause-leaves c = (by_change (λ (e : End). with_state e c.args.state) c.args.self.now.journal.ends c.set_state.new.self c.args.at c.requires.end c.set_state.ensures, by_becoming (GivesUpAll c.args.now closed c.reserve.new.self.items (vec_capacity c.reserve.new.self) c.close.new.lines.items) c.args.at c.args.self.now.conns c.close.new.self c.requires.conn c.close.ensures.becomes)
